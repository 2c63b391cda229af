-- "The session frame": what stands before each body, what is checked of it, and what a stream answers at a place.
use Rattle.std.specs.Prelude.{ℕ, ◌+◌, Bool, List, [], ◌∷◌, ltb, eqb, length, take, drop}
use Rattle.wire.specs.Numbers.{num}
use Rattle.wire.specs.Tables.{Field, field}
use Rattle.wire.specs.Checks.{pick, Check, check}
use Rattle.wire.specs.Answers.{Answer, given, rule}
use Rattle.wire.specs.Sizes.{bytes, longest_message}
use Rattle.wire.specs.declared.Bytes.{Bytes}
use Rattle.frame.specs.declared.Frame.{Frame}

-- "12 bytes: kind, a second number, body size in bytes, each 32 bits."
abbrev pub head_table : ℕ → ℕ → Bytes → List Field
head_table kind second size = field 4 kind ∷ field 4 second ∷ field 4 size.0 ∷ []

abbrev pub head_size : ℕ
head_size = 12

-- "Kinds are 0 login, 1 login acknowledgement, 2 data, 3 data acknowledgement, 4 keep alive."
abbrev pub last_kind : ℕ
last_kind = 4

abbrev pub data_kind : ℕ
data_kind = 2

-- "House limit on the body"; "The session limit and number 3 rise to 1,048,576" (K11)
abbrev pub session_limit : Bytes
session_limit = longest_message

-- the three numbers at the start of what is left of a stream
abbrev pub kind_in : List ℕ → ℕ
kind_in rest = num 4 rest 0

abbrev pub second_in : List ℕ → ℕ
second_in rest = num 4 rest 4

abbrev pub size_in : List ℕ → Bytes
size_in rest = bytes (num 4 rest 8)

-- the size of the frame that `rest` begins with
abbrev pub whole_long : List ℕ → ℕ
whole_long rest = head_size + (size_in rest).0

-- its body, and what follows it
abbrev pub body_in : List ℕ → List ℕ
body_in rest = take (size_in rest).0 (drop head_size rest)

abbrev pub after : List ℕ → List ℕ
after rest = drop (whole_long rest) rest

-- 1: "fewer than 12 bytes left"
abbrev pub head_cut : List ℕ → Bool
head_cut rest = ltb (length rest) head_size

-- 2: "session kind above 4"
abbrev pub kind_unknown : List ℕ → Bool
kind_unknown rest = ltb last_kind (kind_in rest)

-- 3: "session body above" the session limit
abbrev pub body_too_long : List ℕ → Bool
body_too_long rest = ltb session_limit.0 (size_in rest).0

-- 1: "or frame body runs past the buffer"
abbrev pub body_cut : List ℕ → Bool
body_cut rest = ltb (length rest) (whole_long rest)

-- "Frame: 1 (header), 2, 3, 1 (body)."
abbrev pub frame_checks : List ℕ → List Check
frame_checks rest = check 1 (head_cut rest) ∷ check 2 (kind_unknown rest) ∷ check 3 (body_too_long rest) ∷ check 1 (body_cut rest) ∷ []

-- what a stream says at a place: that it ends there, or the frame that begins there
pub data Stream : Type 0 where
  end : Stream
  frame : Frame → Stream

-- the frame that `rest` begins with, where `rest` is what is left from a place on
abbrev pub frame_in : List ℕ → ℕ → Frame
frame_in rest place = record {
  kind = kind_in rest;
  second = second_in rest;
  start = place + head_size;
  size = size_in rest;
  next = place + whole_long rest;
}

-- "A stream is read from a place in the buffer; a place equal to the length answers "end", a place past it is refusal 1."
-- Nothing is left past the length, so there the first check is broken.
unfoldable pub frame_at : List ℕ → ℕ → Answer Stream
frame_at stream place =
    pick (eqb place (length stream)) (given end) (rule (frame_checks (drop place stream)) (frame (frame_in (drop place stream) place)))
