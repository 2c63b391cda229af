use mathlib.Core.Path.{sym, ap, ◌∙◌}
use Rattle.wire.proofs.ExitLaws.{exits}
use Rattle.wire.specs.Answers.{given}
use Rattle.gate_value.proofs.GateLaws.{gate-refused, gate-broken, gate-worth}
use Rattle.gate_value.proofs.gate_value.Goals as goal

pub returns-in_err-found : goal.returns-in_err-found
returns-in_err-found c =
    rw (exits _ _ c.from_residual.ensures) (gate-refused _ _ c.args.gate _ c.in_err-found.ensures)

pub returns-then-breaks_value : goal.returns-then-breaks_value
returns-then-breaks_value c =
    gate-broken _ _ c.args.gate c.in_ok-found.found c.in_ok-found.ensures (sym c.breaks_value.ensures ∙ c.if-breaks_value.true)

pub returns : goal.returns
returns c =
    ap given c.worth.ensures
    ∙ gate-worth _ _ c.args.gate c.in_ok-found.found c.in_ok-found.ensures (sym c.breaks_value.ensures ∙ c.if-breaks_value.false)
