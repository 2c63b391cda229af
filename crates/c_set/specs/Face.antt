-- A set as C receives it. "On a refusal every other field is 0."
use Rattle.std.specs.Prelude.{ℕ}
use Rattle.wire.specs.Answers.{Answer, refused, given}
use Rattle.set_spec.specs.Walk.{SetSays}
use Rattle.c_frame.specs.declared.UlmHeader.{UlmHeader}
use Rattle.c_frame.specs.Face.{header_face}
use Rattle.c_set.specs.declared.UlmSet.{UlmSet}

-- the number of refusal and "the eight of ulm_header", and the length of the joined data
abbrev pub set_shown : UlmHeader → ℕ → UlmSet
set_shown h length = record {
  refusal = h.refusal;
  size = h.size;
  channel = h.channel;
  kind = h.kind;
  sequence = h.sequence;
  date = h.date;
  ms = h.ms;
  segments = h.segments;
  number = h.number;
  length = length;
}

abbrev pub set_face : Answer SetSays → UlmSet
set_face (refused n) = set_shown (header_face (refused n)) 0
set_face (given s) = set_shown (header_face (given s.header)) s.long.0
