-- What the contract of each public function says of a call, as Rattle reads it from src/ (`Learnt`): its promise, and that no two results
-- of one call meet it. Assumes nothing.
use mathlib.Core.Path.{◌≡◌, refl}
use Rattle.std.specs.Prelude.{Option, None, Some, Result}
use Rattle.wire.proofs.AnswerLaws.{only_answer}
use Rattle.wire.proofs.CheckLaws.{never}
use Rattle.wire.proofs.RefusalLaws.{tell_apart}
use Rattle.wire.specs.declared.refusal.Refusal.{Refusal}
use Rattle.frame.specs.Session.{frame_at}
use Rattle.frame.specs.Told.{stream_says, tell_frame}
use Rattle.frame.specs.declared.Frame.{Frame}
use Rattle.frame.proofs.frame_at.Reads as frame_at_reads

says_apart : (a b : Option Frame) → stream_says a ≡ stream_says b → a ≡ b
says_apart None None e = refl
says_apart None (Some g) e = never (cc e)
says_apart (Some f) None e = never (cc e)
says_apart (Some f) (Some g) e = cc e

pub frame_apart : (a b : Result (Option Frame) Refusal) → tell_frame a ≡ tell_frame b → a ≡ b
frame_apart = tell_apart stream_says says_apart

pub frame_at-says : (κs stream place r last : _) → frame_at_reads.Learnt κs (stream, (place, tt)) r last
    → tell_frame r ≡ frame_at stream.now place
frame_at-says κs stream place r last l = l

pub frame_at-one : (κs stream place r r₂ last last₂ : _) → frame_at_reads.Learnt κs (stream, (place, tt)) r last
    → frame_at_reads.Learnt κs (stream, (place, tt)) r₂ last₂ → r ≡ r₂
frame_at-one κs stream place r r₂ last last₂ l l₂ = only_answer tell_frame frame_apart (frame_at stream.now place) r r₂ l l₂
