use Rattle.wire.proofs.ExitLaws.{exits}
use Rattle.radial_spec.proofs.Names.{RVOL-is, RELV-is, RRAD-is}
use Rattle.radial_check.proofs.ChainLaws.{no_volume, no-elevation, the-third}
use Rattle.radial_check.proofs.all_constants.Goals as goal

pub returns-in_err-volume : goal.returns-in_err-volume
returns-in_err-volume c =
    rw (exits _ _ c.from_residual.ensures)
    (no_volume c.args.body.now _ c.args.first c.requires.2 _ _ RVOL-is c.in_err-volume.ensures)

pub returns-in_err-elevation : goal.returns-in_err-elevation
returns-in_err-elevation c =
    rw (exits _ _ c.from_residual-in_err-elevation.ensures)
    (no-elevation c.args.body.now _ c.args.first c.requires.2 _ _ RVOL-is c.in_ok-volume.ensures _ _ RELV-is
    c.in_err-elevation.ensures)

pub returns : goal.returns
returns c =
    the-third c.args.body.now _ c.args.first c.requires.2 _ _ RVOL-is c.in_ok-volume.ensures _ _ RELV-is
    c.in_ok-elevation.ensures _ RRAD-is c.constant_at-3.ensures
