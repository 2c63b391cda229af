-- Sets in two orders, with the outcome of each.
use Rattle.std.specs.Prelude.{ℕ, ◌≡◌, replicate}
use mathlib.Core.List.{List, [], ◌∷◌, ◌++◌, flatten, reverse, map}
use Rattle.wire.specs.Numbers.{be}
use Rattle.wire.specs.Answers.{Outcome, refusal}
use Rattle.wire.specs.Sizes.{halfwords}
use Rattle.header.specs.declared.Header.{Header}
use Rattle.set_spec.specs.Walk.{SetSays, set_of}
use Rattle.set_spec.specs.Theorems.{accepted}
use Rattle.set_spec.specs.Cases.{segment_with, frame_with, header_with, keep_alive}

-- frames, and what comes of them in this order with an output that holds sevens, and backwards with one that holds nines
pub record Case : Type 0 where
  pub each : List (List ℕ)
  pub room : ℕ
  pub forwards : List ℕ → Outcome (List ℕ) SetSays
  pub backwards : List ℕ → Outcome (List ℕ) SetSays

abbrev pub outcomes : Case → Outcome (List ℕ) SetSays × Outcome (List ℕ) SetSays
outcomes c = (set_of (flatten c.each) (replicate c.room 7), set_of (flatten (reverse c.each)) (replicate c.room 9))

abbrev pub expected : Case → Outcome (List ℕ) SetSays × Outcome (List ℕ) SetSays
expected c = (c.forwards (replicate c.room 7), c.backwards (replicate c.room 9))

-- the same in both orders
abbrev pub taken : List (List ℕ) → ℕ → Header → List ℕ → Case
taken each room h body = record { each = each; room = room; forwards = accepted h body; backwards = accepted h body }

abbrev pub refused_as : List (List ℕ) → ℕ → ℕ → ℕ → Case
refused_as each room n m =
    record { each = each; room = room; forwards = λ out. refusal out n; backwards = λ out. refusal out m }

-- three segments of a message
abbrev pub one : List ℕ
one = frame_with 9 3 1 0x3132

abbrev pub two : List ℕ
two = frame_with 9 3 2 0x3334

abbrev pub three : List ℕ
three = frame_with 9 3 3 0x3536

abbrev pub cases : List Case
cases =
    taken (two ∷ three ∷ one ∷ []) 8 (header_with 3 1) (0x31 ∷ 0x32 ∷ 0x33 ∷ 0x34 ∷ 0x35 ∷ 0x36 ∷ [])
    ∷ refused_as (three ∷ one ∷ []) 8 12 12
    ∷ refused_as [] 8 12 12
    ∷ refused_as (two ∷ three ∷ one ∷ []) 5 13 13
    -- 12 before 13, and both after all frames: a keep alive is 9, whatever the room
    ∷ refused_as (three ∷ one ∷ []) 0 12 12
    ∷ refused_as (two ∷ keep_alive ∷ one ∷ []) 0 9 9
    -- K1: one segment, whatever its two bytes; two are 11, since both count as number 1
    ∷ taken (frame_with 9 1 65535 0x3132 ∷ []) 5 (header_with 1 1) (0x31 ∷ 0x32 ∷ [])
    ∷ taken (frame_with 9 1 0 0x3132 ∷ []) 5 (header_with 1 1) (0x31 ∷ 0x32 ∷ [])
    ∷ refused_as (frame_with 9 1 65535 0x3132 ∷ []) 1 13 13
    ∷ refused_as (frame_with 9 1 65535 0x3132 ∷ frame_with 9 1 7 0x3132 ∷ []) 5 11 11
    -- "Other numbers are exempt.": 11 and 9 of the same frames
    ∷ refused_as (one ∷ one ∷ keep_alive ∷ []) 8 11 9
    ∷ []

abbrev pub InBothOrders : Type 0
InBothOrders = map outcomes cases ≡ map expected cases

-- K11: the shortest radial in the long form. It is the only frame of its set, so that its one order is all orders
abbrev pub long_frame : List ℕ
long_frame =
    be 4 0x00000002 ++ (be 4 0x00000000 ++ (be 4 131070
    ++ (be 2 65535
    ++ (be 1 0x00 ++ (be 1 31 ++ (be 2 0x0005 ++ (be 2 0x3E80 ++ (be 4 0x000003E8 ++ (be 4 131070 ++ replicate 131054 0)))))))))

abbrev pub long_header : Header
long_header = record {
  size = halfwords 65535;
  channel = 0;
  kind = 31;
  sequence = 5;
  date = 16000;
  milliseconds = 1000;
  segments = 1;
  number = 1;
}

abbrev pub LongTaken : Type 0
LongTaken = set_of long_frame (replicate 131056 7) ≡ accepted long_header (replicate 131054 0) (replicate 131056 7)

-- ---- a whole frame for each number that a turn can give, where segment 1 of two was met before it

abbrev pub met : List ℕ
met = frame_with 9 2 1 0x3132

-- a body above the session limit, which is not to be computed
unfoldable pub too_long : List ℕ
too_long = replicate 1048577 0

abbrev pub breaking : List (ℕ × List ℕ)
breaking =
    (2, be 4 5 ++ (be 4 0 ++ be 4 0))
    ∷ (3, be 4 2 ++ (be 4 0 ++ (be 4 1048577 ++ too_long)))
    ∷ (4, be 4 2 ++ (be 4 0 ++ be 4 0))
    ∷ (5, frame_with 8 2 2 0x3334)
    ∷ (6, segment_with 9 14 16000 2 2 0x3334)
    ∷ (7, frame_with 9 2 3 0x3334)
    ∷ (8, segment_with 9 9 0 2 2 0x3334)
    ∷ (9, keep_alive)
    ∷ (10, frame_with 9 3 2 0x3334)
    ∷ (11, met)
    ∷ []
