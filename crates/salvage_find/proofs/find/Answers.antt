use native.Mathlib.Omega.{arith}
use mathlib.Core.Path.{sym, ◌∙◌}
use lib.ListN.{drop}
use Rattle.salvage_find.proofs.MarkLaws.{none_yet, none-one, none-joined, told_not, told_is}
use Rattle.salvage_find.proofs.find.Goals as goal

pub loop-at-init : goal.loop-at-init
loop-at-init c = none_yet c.requires

pub returns-then-ne : goal.returns-then-ne
returns-then-ne c =
    let rest = drop c.loop-at.at c.args.buf.now in
    let stood = told_is rest c.whole_at.ensures (sym c.ne.ensures ∙ c.if-ne.true) in
    record { before = c.loop-at.invariant; stood = λ h. stood }

pub loop-at-smaller : goal.loop-at-smaller
loop-at-smaller c = omega (arith, c.next_mark-at.ensures.forward, c.loop-at-test.true)

pub loop-at-preserved : goal.loop-at-preserved
loop-at-preserved c =
    let loop = c.loop-at in
    let rest = drop loop.at c.args.buf.now in
    let none = told_not rest c.whole_at.ensures (sym c.ne.ensures ∙ c.if-ne.false) in
    none-joined loop.invariant (none-joined (none-one c.loop-at-test.true none) c.next_mark-at.ensures)

pub returns : goal.returns
returns c =
    let l = c.loop-at in
    record { before = l.invariant; stood = λ h. absurd (omega (arith, c.loop-at-test.false)) }
