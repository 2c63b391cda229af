-- What an account of a damaged recording has to be, apart from how it is made: it cuts the recording into pieces, each a kept frame or
-- a skipped run.
use Rattle.std.specs.Prelude.{ℕ, ◌+◌, ◌<◌, ◌≡◌, length, drop}
use mathlib.Core.List.{List, [], ◌∷◌, ◌++◌, map, flatten}
use Rattle.wire.specs.Checks.{AllHold}
use Rattle.set_spec.specs.Segment.{own_checks}
use Rattle.set_spec.specs.Whole.{Passes}
use Rattle.salvage_spec.specs.Walk.{Run}

-- a piece, by its bytes
pub data Piece : Type 0 where
  kept : List ℕ → Piece
  skipped : List ℕ → Piece

abbrev pub bytes_in : Piece → List ℕ
bytes_in (kept frame) = frame
bytes_in (skipped bytes) = bytes

-- the bytes of all pieces, joined
abbrev pub joined : List Piece → List ℕ
joined pieces = flatten (map bytes_in pieces)

-- the buffer does not begin with a data frame whose header passes
abbrev pub NoneBegins : List ℕ → Type 0
NoneBegins rest = AllHold (own_checks rest) → ⊥

-- each frame kept passes
abbrev pub EachPasses : List Piece → Type 0
EachPasses [] = Unit {0}
EachPasses (kept frame ∷ pieces) = Passes frame × EachPasses pieces
EachPasses (skipped bytes ∷ pieces) = EachPasses pieces

-- no such frame begins at a skipped byte, with all that follows it in the recording
abbrev pub NoneSkipped : List Piece → Type 0
NoneSkipped [] = Unit {0}
NoneSkipped (kept frame ∷ pieces) = NoneSkipped pieces
NoneSkipped (skipped bytes ∷ pieces) =
    ((i : ℕ) → i < length bytes → NoneBegins (drop i (bytes ++ joined pieces))) × NoneSkipped pieces

-- "each longest run": a run is not empty, and no other run follows it directly
abbrev pub NotSkipped : List Piece → Type 0
NotSkipped [] = Unit {0}
NotSkipped (kept frame ∷ pieces) = Unit {0}
NotSkipped (skipped bytes ∷ pieces) = ⊥

abbrev pub LongestRuns : List Piece → Type 0
LongestRuns [] = Unit {0}
LongestRuns (kept frame ∷ pieces) = LongestRuns pieces
LongestRuns (skipped bytes ∷ pieces) = (0 < length bytes) × NotSkipped pieces × LongestRuns pieces

pub record Account (b : List ℕ) (pieces : List Piece) : Type 0 where
  -- "kept and skipped runs cover the input, each byte once, and lie in the order of the input"
  pub cover : joined pieces ≡ b
  pub pass : EachPasses pieces
  pub none : NoneSkipped pieces
  pub longest : LongestRuns pieces

-- the frames and the runs of an account; a run's place is the number of bytes before it
abbrev pub kept_in : List Piece → List (List ℕ)
kept_in [] = []
kept_in (kept frame ∷ pieces) = frame ∷ kept_in pieces
kept_in (skipped bytes ∷ pieces) = kept_in pieces

abbrev pub runs_in : ℕ → List Piece → List Run
runs_in place [] = []
runs_in place (kept frame ∷ pieces) = runs_in (place + length frame) pieces
runs_in place (skipped bytes ∷ pieces) = record { place = place; long = length bytes } ∷ runs_in (place + length bytes) pieces
