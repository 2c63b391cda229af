-- What the answer of a place means: the number of refusal, the end of the stream, or the frame.
use Rattle.std.specs.Prelude.{Option, None, Some, Result}
use Rattle.wire.specs.Answers.{Answer}
use Rattle.wire.specs.Refusals.{tell}
use Rattle.wire.specs.declared.refusal.Refusal.{Refusal}
use Rattle.frame.specs.declared.Frame.{Frame}
use Rattle.frame.specs.Session.{Stream, end, frame}

-- None is the end of the stream
abbrev pub stream_says : Option Frame → Stream
stream_says None = end
stream_says (Some f) = frame f

abbrev pub tell_frame : Result (Option Frame) Refusal → Answer Stream
tell_frame = tell stream_says
