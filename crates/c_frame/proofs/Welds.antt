-- What the contract of each public function says of a call, as Rattle reads it from src/ (`Learnt`): its promise, and that no two results
-- of one call meet it. Assumes nothing.
use mathlib.Core.Path.{◌≡◌, sym, ◌∙◌}
use Rattle.frame.specs.Session.{frame_at}
use Rattle.header.specs.Header.{header_of}
use Rattle.wire.specs.Answers.{given, refused}
use Rattle.c_frame.specs.Face.{frame_face, header_face}
use Rattle.c_frame.proofs.frame.Reads as frame
use Rattle.c_frame.proofs.header.Reads as header
use Rattle.c_frame.proofs.header_face.Reads as header_face_reads
use Rattle.c_frame.proofs.no_header.Reads as no_Header

pub frame-says : (κs buf place r last : _) → frame.Learnt κs (buf, (place, tt)) r last → r ≡ frame_face place (frame_at buf.now place)
frame-says κs buf place r last l = l

pub frame-one : (κs buf place r r₂ last last₂ : _) → frame.Learnt κs (buf, (place, tt)) r last
    → frame.Learnt κs (buf, (place, tt)) r₂ last₂ → r ≡ r₂
frame-one κs buf place r r₂ last last₂ l l₂ = l ∙ sym l₂

pub header-says : (κs message r last : _) → header.Learnt κs (message, tt) r last → r ≡ header_face (header_of message.now)
header-says κs message r last l = l

pub header-one : (κs message r r₂ last last₂ : _) → header.Learnt κs (message, tt) r last → header.Learnt κs (message, tt) r₂ last₂
    → r ≡ r₂
header-one κs message r r₂ last last₂ l l₂ = l ∙ sym l₂

pub header_face-says : (κs h r last : _) → header_face_reads.Learnt κs (h, tt) r last → r ≡ header_face (given h)
header_face-says κs h r last l = l

pub header_face-one : (κs h r r₂ last last₂ : _) → header_face_reads.Learnt κs (h, tt) r last → header_face_reads.Learnt κs (h, tt) r₂ last₂ → r ≡ r₂
header_face-one κs h r r₂ last last₂ l l₂ = l ∙ sym l₂

pub no_header-says : (κs number r last : _) → no_Header.Learnt κs (number, tt) r last → r ≡ header_face (refused number)
no_header-says κs number r last l = l

pub no_header-one : (κs number r r₂ last last₂ : _) → no_Header.Learnt κs (number, tt) r last
    → no_Header.Learnt κs (number, tt) r₂ last₂ → r ≡ r₂
no_header-one κs number r r₂ last last₂ l l₂ = l ∙ sym l₂
