-- What the contract of each public function says of a call, as Rattle reads it from src/ (`Learnt`): its promise, and that no two results
-- of one call meet it. Assumes nothing.
use mathlib.Core.Path.{◌≡◌}
use Rattle.set_spec.specs.Segment.{segment_at}
use Rattle.wire.proofs.AnswerLaws.{only_answer}
use Rattle.wire.proofs.RefusalLaws.{tell_apart}
use Rattle.wire.specs.declared.refusal.Refusal.{Refusal}
use Rattle.std.specs.Prelude.{Result}
use Rattle.set_segment.specs.Told.{placed, tell_segment}
use Rattle.set_segment.specs.declared.Segment.{Segment}
use Rattle.set_segment.proofs.segment_at.Reads as segment_at_reads

placed_apart : (a b : Segment) → placed a ≡ placed b → a ≡ b
placed_apart a b e = λ i. record { header = (e i).header; start = (e i).start; next = (e i).next }

pub segment_apart : (a b : Result Segment Refusal) → tell_segment a ≡ tell_segment b → a ≡ b
segment_apart = tell_apart placed placed_apart

pub segment_at-says : (κs frames at r last : _) → segment_at_reads.Learnt κs (frames, (at, tt)) r last → tell_segment r ≡ segment_at frames.now at
segment_at-says κs frames at r last l = l

pub segment_at-one : (κs frames at r r₂ last last₂ : _) → segment_at_reads.Learnt κs (frames, (at, tt)) r last
    → segment_at_reads.Learnt κs (frames, (at, tt)) r₂ last₂ → r ≡ r₂
segment_at-one κs frames at r r₂ last last₂ l l₂ = only_answer tell_segment segment_apart (segment_at frames.now at) r r₂ l l₂
