-- One segment of a set, and what its frame is checked for.
use Rattle.std.specs.Prelude.{ℕ, ◌+◌, Bool, true, false, not, List, [], ◌∷◌, ◌++◌, eqb, drop}
use Rattle.std.proofs.Math.Option.{Option, none, some}
use Rattle.wire.specs.Checks.{pick, Check, check}
use Rattle.wire.specs.Answers.{Answer, rule}
use Rattle.frame.specs.Session.{head_size, data_kind, kind_in, body_in, frame_checks, whole_long}
use Rattle.header.specs.declared.Header.{Header}
use Rattle.header.specs.Header.{header_size, header_in, data_in, header_checks}

-- "A data frame carries exactly one message segment": its header as reported, and its data
pub record Segment : Type 0 where
  pub header : Header
  pub content : List ℕ

-- the segment in the frame that `rest` begins with
abbrev pub segment_in : List ℕ → Segment
segment_in rest = record { header = header_in (body_in rest); content = data_in (body_in rest) }

-- "All are data frames."
abbrev pub not_data : List ℕ → Bool
not_data rest = not (eqb (kind_in rest) data_kind)

-- what a frame is checked for by itself: "its frame checks, 9, header checks"
abbrev pub own_checks : List ℕ → List Check
own_checks rest = frame_checks rest ++ (check 9 (not_data rest) ∷ header_checks (body_in rest))

-- a segment in a buffer: its header as reported, where its data begins, and where its frame ends
pub record Placed : Type 0 where
  pub header : Header
  pub start : ℕ
  pub next : ℕ

abbrev pub placed_in : List ℕ → ℕ → Placed
placed_in rest place = record {
  header = (segment_in rest).header;
  start = place + (head_size + header_size);
  next = place + whole_long rest;
}

-- the segment in the frame that begins at a place of the buffer, or the refusal by that frame's own checks
unfoldable pub segment_at : List ℕ → ℕ → Answer Placed
segment_at buffer place = rule (own_checks (drop place buffer)) (placed_in (drop place buffer) place)

-- "They agree with the first in channel, type, date, milliseconds and N; sequence numbers aren't compared."
abbrev pub agree_checks : Header → Header → List Check
agree_checks first h =
    check 10 (not (eqb h.channel first.channel))
    ∷ check 10 (not (eqb h.kind first.kind))
    ∷ check 10 (not (eqb h.date first.date))
    ∷ check 10 (not (eqb h.milliseconds first.milliseconds))
    ∷ check 10 (not (eqb h.segments first.segments))
    ∷ []

-- the segment numbered k, if it is among gs
unfoldable pub numbered : List Segment → ℕ → Option Segment
numbered [] k = none
numbered (g ∷ gs) k = pick (eqb g.header.number k) (some g) (numbered gs k)

abbrev pub found : Option Segment → Bool
found none = false
found (some g) = true

-- a segment of no bytes where there is none
abbrev pub or_nothing : Option Segment → Segment
or_nothing none = segment_in []
or_nothing (some g) = g

-- the header and the data of segment k; both have a meaning only if the segment is there
abbrev pub header_numbered : List Segment → ℕ → Header
header_numbered gs k = (or_nothing (numbered gs k)).header

abbrev pub data_numbered : List Segment → ℕ → List ℕ
data_numbered gs k = (or_nothing (numbered gs k)).content
