use Rattle.wire.proofs.ExitLaws.{exits}
use Rattle.radial_check.proofs.LoopLaws.{refuses, turns}
use Rattle.radial_check.proofs.all_moments.Goals as goal

pub returns-in_err-found : goal.returns-in_err-found
returns-in_err-found c =
    rw (exits _ _ c.from_residual.ensures) (refuses _ _ _ _ _ _ _ c.loop-i.invariant c.loop-i-test.true _ c.in_err-found.ensures)

pub loop-i-preserved : goal.loop-i-preserved
loop-i-preserved c = turns _ _ _ _ _ _ _ c.loop-i.invariant c.loop-i-test.true _ _ c.in_ok-found.ensures
