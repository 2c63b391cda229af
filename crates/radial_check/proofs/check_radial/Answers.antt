use Rattle.wire.proofs.ExitLaws.{exits}
use Rattle.radial_check.proofs.WholeLaws.{no_start, no-constants, the-moments}
use Rattle.radial_check.proofs.check_radial.Goals as goal

pub returns-in_err-start : goal.returns-in_err-start
returns-in_err-start c = rw (exits _ _ c.from_residual.ensures) (no_start c.args.body.now _ c.in_err-start.ensures)

pub returns-in_err-end : goal.returns-in_err-end
returns-in_err-end c =
    rw (exits _ _ c.from_residual-in_err-end.ensures)
    (no-constants c.args.body.now _ _ c.in_ok-start.ensures _ c.in_err-end.ensures)

pub returns : goal.returns
returns c =
    the-moments c.args.body.now _ _ c.in_ok-start.ensures _ _ c.in_ok-end.ensures c.all_moments.ensures
