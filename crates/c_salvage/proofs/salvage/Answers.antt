use Rattle.c_lent.proofs.LentLaws.{leaves_of}
use Rattle.salvage.specs.Told.{tell_salvage}
use Rattle.c_salvage.specs.Face.{salvage_face}
use Rattle.c_salvage.proofs.salvage.Goals as goal

pub returns-in-Ok : goal.returns-in-Ok
returns-in-Ok c = leaves_of tell_salvage salvage_face _ _ _ _ c.salvage.ensures (simp c.in-Ok.is)

pub returns-in-Err : goal.returns-in-Err
returns-in-Err c =
    let d = c.default.ensures.1 in
    leaves_of tell_salvage salvage_face _ _ _ _ c.salvage.ensures (simp (c.number.ensures, d.0, d.1.0, d.1.1, c.in-Err.is))
