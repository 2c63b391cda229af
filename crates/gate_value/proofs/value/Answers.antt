use mathlib.Core.Bool.{false}
use mathlib.Core.Path.{◌≡◌, sym, ap, ◌∙◌}
use Rattle.wire.specs.Checks.{some_broken}
use Rattle.wire.specs.Answers.{given}
use Rattle.gate_value.specs.Value.{value_checks}
use Rattle.gate_value.proofs.ValueLaws.{value-refused, value-given}
use Rattle.gate_value.proofs.value.Goals as goal

pub returns-then-breaks_value : goal.returns-then-breaks_value
returns-then-breaks_value c =
    let a = c.args in
    value-refused a.code a.scale a.offset (sym c.breaks_value.ensures ∙ c.if-breaks_value.true)

pub returns : goal.returns
returns c =
    let passed : some_broken (value_checks c.args.scale c.args.offset) ≡ false =
    sym c.breaks_value.ensures ∙ c.if-breaks_value.false in
    let finite-of = c.finite_of in
    let a = c.args in
    ap given c.worth.ensures ∙ value-given a.code a.scale a.offset _ _ (passed) finite-of.ensures
    c.finite_of-2.ensures
