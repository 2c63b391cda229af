use Rattle.set.specs.Told.{tell_set}
use Rattle.c_set.specs.Face.{set_face}
use Rattle.c_lent.proofs.LentLaws.{leaves_of}
use Rattle.c_set.proofs.set.Goals as goal

pub returns-in-Ok : goal.returns-in-Ok
returns-in-Ok c = leaves_of tell_set set_face _ _ _ _ c.read_set.ensures (simp (c.show_set.ensures, c.header_face.ensures, c.in-Ok.is))

pub returns-in-Err : goal.returns-in-Err
returns-in-Err c = leaves_of tell_set set_face _ _ _ _ c.read_set.ensures (simp (c.show_set-in-Err.ensures, c.no_header.ensures, c.number.ensures, c.in-Err.is))
