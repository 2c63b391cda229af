-- K12. "Order of arrival.": a set's whole frames in any order, as statements about the rule.
use Rattle.std.specs.Prelude.{ℕ, ◌≤◌, ◌≡◌, ◌⊎◌, length}
use mathlib.Core.List.{List, [], ◌∷◌, ◌++◌, flatten, Memᴰ, Permᴰ}
use Rattle.wire.specs.Properties.{One}
use Rattle.wire.specs.Answers.{refused, number_of, refusal}
use Rattle.header.specs.declared.Header.{Header}
use Rattle.set_spec.specs.Walk.{set_of}
use Rattle.set_spec.specs.Whole.{header_from}
use Rattle.set_spec.specs.Theorems.{accepted, Frames}

-- ---- the frames

-- "any rearrangement of its whole frames": `frames` is whole frames, and `frames'` is all of them joined in some order
pub record Rearranged (frames frames' : List ℕ) : Type 0 where
  pub each : List (List ℕ)
  pub each' : List (List ℕ)
  pub from : Frames frames each
  pub order : Permᴰ each each'
  pub joined : flatten each' ≡ frames'

-- "two lines": `each` is what came by the lines a and b, the order of each line kept
pub data Merged : List (List ℕ) → List (List ℕ) → List (List ℕ) → Type 0 where
  no_more : Merged [] [] []
  by_one : {a b each : List (List ℕ)} (f : List ℕ) → Merged a b each → Merged (f ∷ a) b (f ∷ each)
  by_other : {a b each : List (List ℕ)} (f : List ℕ) → Merged a b each → Merged a (f ∷ b) (f ∷ each)

-- however the frames of two lines come together, it is a rearrangement
abbrev pub TwoLines : Type 0
TwoLines = (a b each each' : List (List ℕ)) (frames frames' : List ℕ) → Frames frames each → Merged a b each → Merged a b each'
    → flatten each' ≡ frames' → Rearranged frames frames'

-- ---- what does not depend on the order

-- "after all, 12, 13": the numbers that are known only after all frames, and 0 for an accepted set
abbrev pub AfterAll : ℕ → Type 0
AfterAll n = (n ≡ 0) ⊎ ((n ≡ 12) ⊎ (n ≡ 13))

-- a set that is accepted, or refused as 12 or 13, is a list of whole frames, and of one list only
abbrev pub OneList : Type 0
OneList = (frames out : List ℕ) → AfterAll (number_of (set_of frames out).answer) → One (Frames frames)

-- "if a set is accepted, then any rearrangement .. is accepted too and gives the same header and the same body; and .. a set refused as 12,
-- or refused as 13, is refused by the same number"
pub record Same (frames out frames' out' : List ℕ) : Type 0 where
  pub taken : (h : Header) (body : List ℕ) → set_of frames out ≡ accepted h body out → set_of frames' out' ≡ accepted h body out'
  pub absent : set_of frames out ≡ refusal out 12 → set_of frames' out' ≡ refusal out' 12
  pub small : set_of frames out ≡ refusal out 13 → set_of frames' out' ≡ refusal out' 13

abbrev pub AnyOrder : Type 0
AnyOrder = (frames frames' out out' : List ℕ) → Rearranged frames frames' → length out ≡ length out' → Same frames out frames' out'

-- a frame of a message of one segment, among such frames, is the only one, so that there is only one order of them
abbrev pub OneFrame : Type 0
OneFrame = (frames out : List ℕ) (each : List (List ℕ)) (f : List ℕ) → AfterAll (number_of (set_of frames out).answer) → Frames frames each
    → Memᴰ f each → (header_from f).segments ≡ 1 → each ≡ f ∷ []

-- ---- "Other numbers are exempt."

-- the numbers that a whole frame's turn can give; no whole frame is cut off, so that 1 is none of them
pub record InTurn (n : ℕ) : Type 0 where
  pub least : 2 ≤ n
  pub most : n ≤ 11

-- n is one of these, and so is a number by which something else is refused: `refuses` says of a number that it is that one
pub record BothInTurn (n : ℕ) (refuses : ℕ → Type 0) : Type 0 where
  pub own : InTurn n
  pub number : ℕ
  pub other : InTurn number
  pub is : refuses number

-- whole frames that are refused by another number than 12 and 13 are refused by one of these, and so is every rearrangement of them,
-- whatever the outputs
abbrev pub OtherNumbers : Type 0
OtherNumbers = (frames frames' out out' : List ℕ) (n : ℕ) → Rearranged frames frames' → (set_of frames out).answer ≡ refused n
    → (AfterAll n → ⊥) → BothInTurn n (λ m. set_of frames' out' ≡ refusal out' m)

-- and what comes after such frames does not mend it
abbrev pub Stays : Type 0
Stays = (frames rest out out' : List ℕ) (each : List (List ℕ)) (n : ℕ) → Frames frames each → (set_of frames out).answer ≡ refused n
    → (AfterAll n → ⊥) → set_of (frames ++ rest) out' ≡ refusal out' n

-- the exemption is needed for every two of them: some frames are refused as m, and in another order as n
pub record Differ (m n : ℕ) (refuses : List ℕ → ℕ → Type 0) : Type 0 where
  pub frames : List ℕ
  pub frames' : List ℕ
  pub rearranged : Rearranged frames frames'
  pub one : refuses frames m
  pub other : refuses frames' n

abbrev pub AnyTwoDiffer : Type 0
AnyTwoDiffer = (m n : ℕ) → InTurn m → InTurn n → Differ m n (λ frames k. (out : List ℕ) → set_of frames out ≡ refusal out k)
