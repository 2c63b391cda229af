use native.Mathlib.Omega.{arith}
use Rattle.std.proofs.lemmas.Result.{err_from_is_err_and}
use Rattle.set.proofs.GatherLaws.{going_start, going-stops, going_on, going-forward, going_ends}
use Rattle.set.proofs.Gathered.gather.Goals as goal

pub loop-at-init : goal.loop-at-init
loop-at-init c = going_start _ c.requires

pub returns-in_err-at : goal.returns-in_err-at
returns-in_err-at c =
    let p = err_from_is_err_and c.from_residual.result c.from_residual.ensures.1 in
    rw (p.1, p.2) (record { gathered = going-stops c.loop-at.invariant c.take_turn.ensures c.loop-at-test.true c.in_err-at.was })

pub loop-at-smaller : goal.loop-at-smaller
loop-at-smaller c = omega (arith, going-forward c.loop-at.invariant c.take_turn.ensures c.loop-at-test.true c.in_ok-at.was)

pub loop-at-preserved : goal.loop-at-preserved
loop-at-preserved c = going_on c.loop-at.invariant c.take_turn.ensures c.loop-at-test.true c.in_ok-at.was

pub returns : goal.returns
returns c = record { gathered = going_ends c.loop-at.invariant c.loop-at-test.false }
