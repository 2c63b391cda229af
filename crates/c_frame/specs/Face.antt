-- Frames and message headers as C receives them. "On a refusal every other field is 0", but for the place, which is the one given.
use Rattle.std.specs.Prelude.{ℕ}
use Rattle.wire.specs.Answers.{Answer, refused, given}
use Rattle.wire.specs.Sizes.{halfwords}
use Rattle.frame.specs.Session.{Stream, end, frame}
use Rattle.header.specs.declared.Header.{Header}
use Rattle.c_frame.specs.declared.UlmFrame.{UlmFrame}
use Rattle.c_frame.specs.declared.UlmHeader.{UlmHeader}

abbrev pub no_frame : ℕ → ℕ → UlmFrame
no_frame number place = record { refusal = number; found = 0; kind = 0; second = 0; start = 0; size = 0; next = place }

abbrev pub frame_face : ℕ → Answer Stream → UlmFrame
frame_face place (refused n) = no_frame n place
frame_face place (given end) = no_frame 0 place
frame_face place (given (frame f)) = record {
  refusal = 0;
  found = 1;
  kind = f.kind;
  second = f.second;
  start = f.start;
  size = f.size.0;
  next = f.next;
}

-- a header's eight members, after the number of refusal
abbrev pub header_shown : ℕ → Header → UlmHeader
header_shown number h = record {
  refusal = number;
  size = h.size.0;
  channel = h.channel;
  kind = h.kind;
  sequence = h.sequence;
  date = h.date;
  ms = h.milliseconds;
  segments = h.segments;
  number = h.number;
}

abbrev pub no_header : Header
no_header = record { size = halfwords 0; channel = 0; kind = 0; sequence = 0; date = 0; milliseconds = 0; segments = 0; number = 0 }

abbrev pub header_face : Answer Header → UlmHeader
header_face (refused n) = header_shown n no_header
header_face (given h) = header_shown 0 h
