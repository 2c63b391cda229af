-- What is proved of sets, as statements.
use Rattle.std.specs.Prelude.{ℕ, ◌+◌, ◌-◌, ◌*◌, ◌≤◌, ◌<◌, ◌≡◌, ◌↔◌, length, take}
use mathlib.Core.List.{List, ◌++◌, flatten, Memᴰ}
use Rattle.wire.specs.Answers.{refused, given, Outcome}
use Rattle.wire.specs.Sizes.{bytes}
use Rattle.wire.specs.Writing.{filled}
use Rattle.frame.specs.Session.{head_size, session_limit, size_in, body_in, whole_long}
use Rattle.header.specs.declared.Header.{Header}
use Rattle.header_rule.specs.Rules.{radial_type, most_segments, segment_size}
use Rattle.header.specs.Header.{header_size}
use Rattle.header.specs.Theorems.{Lone, number_place, ButTwoBytes}
use Rattle.set_spec.specs.Walk.{SetSays, set_of}
use Rattle.set_spec.specs.Whole.{Whole}

-- the outcome of an accepted set: segment 1's header h, the body's length, and the body at the start of the output
abbrev pub accepted : Header → List ℕ → List ℕ → Outcome (List ℕ) SetSays
accepted h body out = record { answer = given (record { header = h; long = bytes (length body) }); output = filled body out }

-- a set is accepted exactly if it is whole and the output has room for its body
abbrev pub AcceptedExactlyIfWhole : Type 0
AcceptedExactlyIfWhole = (frames out : List ℕ) (h : Header) (body : List ℕ)
    → (set_of frames out ≡ accepted h body out) ↔ (Whole frames h body × (length body ≤ length out))

-- the most bytes of a body: 128 segments of 1,208 halfwords, each without its header. A radial is one segment, so at most a session body
-- without the header
abbrev pub most_joined : ℕ
most_joined = most_segments * (2 * segment_size.0 - header_size)

abbrev pub most_radial : ℕ
most_radial = session_limit.0 - header_size

pub record AtMost (s : SetSays) : Type 0 where
  pub radial : s.header.kind ≡ radial_type → s.long.0 ≤ most_radial
  pub other : (s.header.kind ≡ radial_type → ⊥) → s.long.0 ≤ most_joined

abbrev pub BodyMost : Type 0
BodyMost = (frames out : List ℕ) (s : SetSays) → (set_of frames out).answer ≡ given s → AtMost s

-- an output with room for the longest radial, which is the more, is never too small
abbrev pub RoomForAny : Type 0
RoomForAny = (frames out : List ℕ) → (set_of frames out).answer ≡ refused 13 → length out < most_radial

-- the answer, and the body that is written, do not depend on what the output held before, only on its length
abbrev pub AnswerApartFromOutput : Type 0
AnswerApartFromOutput = (frames out out' : List ℕ) → length out ≡ length out'
    → ((set_of frames out).answer ≡ (set_of frames out').answer)
    × ((s : SetSays) → (set_of frames out).answer ≡ given s → take s.long.0 (set_of frames out).output
    ≡ take s.long.0 (set_of frames out').output)

-- each of these is a whole frame: it has as many bytes as its own head says
abbrev pub WholeFrames : List (List ℕ) → Type 0
WholeFrames each = (f : List ℕ) → Memᴰ f each → length f ≡ whole_long f

-- a buffer is these whole frames, one after the other
pub record Frames (buffer : List ℕ) (each : List (List ℕ)) : Type 0 where
  pub joined : flatten each ≡ buffer
  pub whole : WholeFrames each

-- the rest of a buffer begins with a frame whose body has room for a header and is a message of one segment
pub record LoneFrame (rest : List ℕ) : Type 0 where
  pub headed : header_size ≤ (size_in rest).0
  pub lone : Lone (body_in rest)

-- "no .. set answer then depends on its two bytes" (K1), for any whole frames before it and any bytes after it
abbrev pub LoneSegment : Type 0
LoneSegment = (each : List (List ℕ)) (rest frames' out : List ℕ) → WholeFrames each → LoneFrame rest
    → ButTwoBytes (length (flatten each) + head_size + number_place) (flatten each ++ rest) frames'
    → set_of (flatten each ++ rest) out ≡ set_of frames' out
