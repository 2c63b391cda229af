-- What the answer of a place means: the number of refusal, or the segment.
use Rattle.std.specs.Prelude.{Result}
use Rattle.wire.specs.Answers.{Answer}
use Rattle.wire.specs.Refusals.{tell}
use Rattle.wire.specs.declared.refusal.Refusal.{Refusal}
use Rattle.set_spec.specs.Segment.{Placed}
use Rattle.set_segment.specs.declared.Segment.{Segment}

abbrev pub placed : Segment → Placed
placed s = record { header = s.header; start = s.start; next = s.next }

abbrev pub tell_segment : Result Segment Refusal → Answer Placed
tell_segment = tell placed
