-- "Set: each frame in turn, its frame checks, 9, header checks, 10, 11; after all, 12, 13."
use Rattle.std.specs.Prelude.{ℕ, zero, suc, Bool, true, not, List, [], ◌∷◌, ◌++◌, length}
use Rattle.wire.specs.Checks.{both, Check, check}
use Rattle.wire.specs.Answers.{Answer, refused, given, Outcome, refusal, outcome}
use Rattle.wire.specs.Writing.{filled, room_check}
use Rattle.wire.specs.Sizes.{bytes}
use Rattle.wire.specs.declared.Bytes.{Bytes}
use Rattle.frame.specs.Session.{whole_long}
use Rattle.frame.specs.Walk.{walked, Checked, answers}
use Rattle.header.specs.declared.Header.{Header}
use Rattle.set_spec.specs.Segment.{Segment, segment_in, own_checks, agree_checks, numbered, found, header_numbered, data_numbered}

-- the header of the first segment met, or h if none was met
abbrev pub first_or : List Segment → Header → Header
first_or [] h = h
first_or (g ∷ gs) h = g.header

-- segment k was met
abbrev pub seen : List Segment → ℕ → Bool
seen gs k = found (numbered gs k)

-- checks 10 and 11 of a header, where the segments gs were met before it
abbrev pub met_checks : List Segment → Header → List Check
met_checks gs h = agree_checks (first_or gs h) h ++ (check 11 (seen gs h.number) ∷ [])

-- one frame's turn: its own checks, 10, 11
abbrev pub turn_checks : List Segment → List ℕ → List Check
turn_checks gs rest = own_checks rest ++ met_checks gs (segment_in rest).header

-- "A set is a buffer of frames and nothing else": each frame in turn, with the segments met before it, in the buffer's order
abbrev pub each_frame : Checked (List Segment) ℕ
each_frame = record {
  takes = λ gs rest. whole_long rest;
  next = λ gs rest. gs ++ (segment_in rest ∷ []);
  checks = turn_checks;
}

-- the segments met up to the end of the buffer, or the number of the refusal that stops the walk
abbrev pub walk : List Segment → List ℕ → Answer (List Segment)
walk gs rest = walked (answers each_frame) gs rest

-- the set's N
abbrev pub count : List Segment → ℕ
count gs = (first_or gs (segment_in []).header).segments

-- "each of 1 to N appears": 1 to n all do
unfoldable pub all_seen : List Segment → ℕ → Bool
all_seen gs zero = true
all_seen gs (suc n) = both (all_seen gs n) (seen gs (suc n))

-- "the data of segment 1, then 2, and so on joined", up to n
unfoldable pub joined : List Segment → ℕ → List ℕ
joined gs zero = []
joined gs (suc n) = joined gs n ++ data_numbered gs (suc n)

abbrev pub body_of : List Segment → List ℕ
body_of gs = joined gs (count gs)

-- "12: a number absent at the end; also the empty set", "13: output too small for the whole answer"
abbrev pub end_checks : List Segment → ℕ → List Check
end_checks gs room =
    check 12 (not (seen gs 1)) ∷ check 12 (not (all_seen gs (count gs))) ∷ room_check room (body_of gs) ∷ []

-- "The answer is segment 1's header and, in the lent output, the data .. joined, with its length; output past that length stays"
pub record SetSays : Type 0 where
  pub header : Header
  pub long : Bytes

abbrev pub says : List Segment → SetSays
says gs = record { header = header_numbered gs 1; long = bytes (length (body_of gs)) }

abbrev pub finish : Answer (List Segment) → List ℕ → Outcome (List ℕ) SetSays
finish (refused n) out = refusal out n
finish (given gs) out =
    outcome (end_checks gs (length out)) out (says gs) (filled (body_of gs) out)

-- the answer for a buffer of frames read as a set, and the contents of the output after it
unfoldable pub set_of : List ℕ → List ℕ → Outcome (List ℕ) SetSays
set_of frames out = finish (walk [] frames) out
