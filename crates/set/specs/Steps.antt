-- What the private functions promise each other. No public promise cites this file.
use Rattle.std.specs.Prelude.{ℕ, zero, suc, ◌+◌, ◌-◌, ◌≤◌, ◌<◌, ◌≡◌, Bool, true, false, List, [], ◌∷◌, ◌++◌, eqb, length, get_or, take, drop, replicate, Result, Ok, Err}
use Rattle.std.proofs.Math.Option.{none, some}
use Rattle.wire.specs.Checks.{pick, both, first}
use Rattle.wire.specs.Answers.{refused, given}
use Rattle.wire.specs.Refusals.{number}
use Rattle.wire.specs.declared.refusal.Refusal.{Refusal}
use Rattle.frame.specs.Session.{session_limit, after}
use Rattle.header.specs.declared.Header.{Header}
use Rattle.header_rule.specs.Rules.{most_segments}
use Rattle.set_spec.specs.Segment.{Segment, segment_in, own_checks, numbered, found, header_numbered, data_numbered}
use Rattle.set_spec.specs.Walk.{first_or, turn_checks, walk, count}
use Rattle.set.specs.declared.Part.{Part}
use Rattle.set.specs.declared.Gathered.{Gathered}

-- where the data of segment k + 1 begins and ends, as noted: at first nowhere
abbrev pub nowhere : Part
nowhere = record { start = 0; end = 0 }

abbrev pub start_of : Gathered → ℕ → ℕ
start_of m k = (get_or m.parts k nowhere).start

abbrev pub end_of : Gathered → ℕ → ℕ
end_of m k = (get_or m.parts k nowhere).end

-- a segment at a place: its frame passes its own checks, and its data stands from `start` to the frame's end, `next`
pub record SegmentLies (s : List ℕ) (at : ℕ) (h : Header) (start next : ℕ) : Type 0 where
  pub passes : first (own_checks (drop at s)) ≡ none
  pub header : (segment_in (drop at s)).header ≡ h
  pub content : take (next - start) (drop start s) ≡ (segment_in (drop at s)).content
  pub rest : drop next s ≡ after (drop at s)
  pub forward : at < start
  pub order : start ≤ next
  pub within : next ≤ length s
  pub small : next ≤ start + session_limit.0

-- what was noted describes the segments met: segment k + 1 is at index k
pub record Tells (s : List ℕ) (at : ℕ) (m : Gathered) (gs : List Segment) : Type 0 where
  pub flags_long : length m.flags ≡ most_segments
  pub parts_long : length m.parts ≡ most_segments
  pub flag : (k : ℕ) → k < most_segments → get_or m.flags k false ≡ found (numbered gs (suc k))
  pub part : (k : ℕ) → k < most_segments → take (end_of m k - start_of m k) (drop (start_of m k) s) ≡ data_numbered gs (suc k)
  pub after : (k : ℕ) → k < most_segments → start_of m k ≤ end_of m k
  pub within : (k : ℕ) → k < most_segments → end_of m k ≤ length s
  pub small : (k : ℕ) → k < most_segments → end_of m k ≤ start_of m k + session_limit.0
  pub first : (h : Header) → first_or gs h ≡ pick (eqb at 0) h m.first
  pub one : m.one ≡ header_numbered gs 1
  pub count : count gs ≡ m.first.segments
  pub most : m.first.segments ≤ most_segments
  pub place : at ≤ length s

-- the state after one frame's turn, where gs were met before it
pub record GoesOn (s : List ℕ) (at next : ℕ) (m : Gathered) (gs : List Segment) : Type 0 where
  pub passes : first (turn_checks gs (drop at s)) ≡ none
  pub tells : Tells s next m (gs ++ (segment_in (drop at s) ∷ []))
  pub rest : drop next s ≡ after (drop at s)
  pub forward : at < next

abbrev pub Turned : List ℕ → ℕ → Gathered → List Segment → Result ℕ Refusal → Type 0
Turned s at m gs (Err r) = first (turn_checks gs (drop at s)) ≡ some (number r)
Turned s at m gs (Ok next) = GoesOn s at next m gs

-- the turn, for any segments met before it
pub record TurnTaken (s : List ℕ) (at : ℕ) (before after : Gathered) (r : Result ℕ Refusal) : Type 0 where
  pub turned : (gs : List Segment) → Tells s at before gs → Turned s at after gs r

-- "all false at first": no segment was met
pub record Blank (m : Gathered) : Type 0 where
  pub first_blank : m.first ≡ (segment_in []).header
  pub one_blank : m.one ≡ (segment_in []).header
  pub flags_blank : m.flags ≡ replicate most_segments false
  pub parts_blank : m.parts ≡ replicate most_segments nowhere

-- the state after the first pass
pub record Met (s : List ℕ) (m : Gathered) : Type 0 where
  pub gs : List Segment
  pub at : ℕ
  pub walked : walk [] s ≡ given gs
  pub tells : Tells s at m gs

abbrev pub GatheredBy : List ℕ → Gathered → Result (Unit {0}) Refusal → Type 0
GatheredBy s m (Err r) = walk [] s ≡ refused (number r)
GatheredBy s m (Ok u) = Met s m

pub record Gathers (s : List ℕ) (m : Gathered) (r : Result (Unit {0}) Refusal) : Type 0 where
  pub gathered : GatheredBy s m r

-- each part of the buffer ends at or after its start, and is no longer than a frame's body; it ends within the buffer
abbrev pub Parts : Gathered → Type 0
Parts m =
    (k : ℕ) → k < most_segments → (start_of m k ≤ end_of m k) × (end_of m k ≤ start_of m k + session_limit.0)

abbrev pub Within : List ℕ → Gathered → Type 0
Within s m = (k : ℕ) → k < most_segments → end_of m k ≤ length s

-- from what was noted alone: whether the first n flags are set, the length of the first n parts, and these parts joined
unfoldable pub all_set : List Bool → ℕ → Bool
all_set flags zero = true
all_set flags (suc n) = both (all_set flags n) (get_or flags n false)

unfoldable pub parts_long : Gathered → ℕ → ℕ
parts_long m zero = 0
parts_long m (suc n) = parts_long m n + (end_of m n - start_of m n)

unfoldable pub parts : List ℕ → Gathered → ℕ → List ℕ
parts s m zero = []
parts s m (suc n) = parts s m n ++ take (end_of m n - start_of m n) (drop (start_of m n) s)

-- the first n parts lie in the buffer and have room in an output
pub record Joinable (s : List ℕ) (m : Gathered) (n : ℕ) (out : List ℕ) : Type 0 where
  pub most : n ≤ most_segments
  pub lie : Parts m
  pub within : Within s m
  pub room : parts_long m n ≤ length out
