-- What the contract of each public function says of a call, as Rattle reads it from src/ (`Learnt`): its promise, and that no two results
-- of one call meet it. Assumes nothing.
use mathlib.Core.Path.{◌≡◌, sym, ◌∙◌}
use Rattle.c_lent.specs.Face.{numbered, written_face}
use Rattle.c_lent.proofs.written_face.Reads as written_face_reads

pub written_face-says : (κs answer r last : _) → written_face_reads.Learnt κs (answer, tt) r last → r ≡ written_face (numbered answer)
written_face-says κs answer r last l = l

pub written_face-one : (κs answer r r₂ last last₂ : _) → written_face_reads.Learnt κs (answer, tt) r last
    → written_face_reads.Learnt κs (answer, tt) r₂ last₂
    → r ≡ r₂
written_face-one κs answer r r₂ last last₂ l l₂ = l ∙ sym l₂
