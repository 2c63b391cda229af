-- What is shown of salvages; the proofs stand in proofs/.
use Rattle.std.specs.Prelude.{ℕ, suc, ◌+◌, ◌*◌, ◌≤◌, ◌<◌, ◌≡◌, true, length, drop}
use mathlib.Core.List.{List, [], ◌∷◌, ◌++◌, flatten, Memᴰ}
use Rattle.wire.specs.Properties.{One}
use Rattle.wire.specs.Answers.{given, refusal}
use Rattle.wire.specs.Writing.{filled}
use Rattle.frame.specs.Session.{head_size, session_limit}
use Rattle.header.specs.Header.{header_size}
use Rattle.set_spec.specs.Whole.{Passes}
use Rattle.salvage_spec.specs.Walk.{stands, Run, kept_of, skipped_of, next_kept}
use Rattle.salvage_spec.specs.Salvage.{report, numbers, salvaged, salvage_of}
use Rattle.salvage_spec.specs.Account.{Piece, Account, kept_in, runs_in}

-- every recording has exactly one account
abbrev pub AccountedOnce : Type 0
AccountedOnce = (b : List ℕ) → One (Account b)

-- and that account gives the outcome of the salvage
abbrev pub ByAccount : Type 0
ByAccount = (b out runs : List ℕ) (pieces : List Piece) → Account b pieces
    → salvage_of b out runs ≡ salvaged (kept_in pieces) (runs_in 0 pieces) out runs

-- "An undamaged recording of data frames alone with such headers comes out unchanged with no runs"
abbrev pub AllPass : List (List ℕ) → Type 0
AllPass frames = (f : List ℕ) → Memᴰ f frames → Passes f

abbrev pub Undamaged : Type 0
Undamaged = (frames : List (List ℕ)) (out runs : List ℕ) → AllPass frames
    → salvage_of (flatten frames) out runs ≡ salvaged frames [] out runs

-- salvaging the kept frames again changes nothing and skips nothing
abbrev pub Again : Type 0
Again =
    (b out runs : List ℕ) (pieces : List Piece) → Account b pieces
    → salvage_of (flatten (kept_in pieces)) out runs ≡ salvaged (kept_in pieces) [] out runs

-- with room for both there is no refusal, and with too little of either 13
pub record InTurn (frames : List (List ℕ)) (skipped : List Run) (out runs : List ℕ) : Type 0 where
  pub little_output : length out < length (flatten frames) → salvaged frames skipped out runs ≡ refusal (out, runs) 13
  pub few_runs : length runs < 2 * length skipped → salvaged frames skipped out runs ≡ refusal (out, runs) 13
  pub enough : length (flatten frames) ≤ length out → 2 * length skipped ≤ length runs
      → salvaged frames skipped out runs
      ≡ record { answer = given (report frames skipped); output = (filled (flatten frames) out, filled (numbers skipped) runs) }

abbrev pub RefusedInOrder : Type 0
RefusedInOrder = (frames : List (List ℕ)) (skipped : List Run) (out runs : List ℕ) → InTurn frames skipped out runs

-- every byte is kept or skipped: the two counts add up to the length
abbrev pub long_all : List Run → ℕ
long_all [] = 0
long_all (r ∷ rs) = r.long + long_all rs

abbrev pub InAll : Type 0
InAll = (b : List ℕ) → length (flatten (kept_of b)) + long_all (skipped_of b) ≡ length b

-- the shortest frame that passes, a header alone, and the longest, with the most that a session body may hold
abbrev pub least_frame : ℕ
least_frame = head_size + header_size

abbrev pub most_frame : ℕ
most_frame = head_size + session_limit.0

-- runs are in rising order, have at least one frame between any two, and end within the recording
abbrev pub Apart : ℕ → ℕ → List Run → Type 0
Apart from long [] = Unit {0}
Apart from long (r ∷ rs) = (from ≤ r.place) × (0 < r.long) × (r.place + r.long ≤ long) × Apart (r.place + r.long + least_frame) long rs

abbrev pub RunsApart : Type 0
RunsApart = (b : List ℕ) → Apart 0 (length b) (skipped_of b)

-- the most runs, and the output length that is always enough
abbrev pub MostRuns : Type 0
MostRuns = (b : List ℕ) → suc least_frame * length (skipped_of b) ≤ length b + least_frame

abbrev pub MostKept : Type 0
MostKept = (b : List ℕ) → length (flatten (kept_of b)) ≤ length b

-- ---- a recording seen through a window: its first bytes, and what follows them
-- a frame that stands in the window stands in the recording; where even the longest frame would end in the window, both answers are equal
pub record Through (window rest : List ℕ) (place : ℕ) : Type 0 where
  pub stays : stands (drop place window) ≡ true → stands (drop place (window ++ rest)) ≡ true
  pub same : place + most_frame ≤ length window → stands (drop place (window ++ rest)) ≡ stands (drop place window)

abbrev pub ByWindow : Type 0
ByWindow = (window rest : List ℕ) (place : ℕ) → Through window rest place

-- the next frame kept begins at the first place, from a given one on, where a frame stands
pub record Next (b : List ℕ) (place next : ℕ) : Type 0 where
  pub from : place ≤ next
  pub up_to : place ≤ length b → next ≤ length b
  pub none : (i : ℕ) → place ≤ i → i < next → stands (drop i b) ≡ true → ⊥
  pub stands : next < length b → stands (drop next b) ≡ true

abbrev pub NextExactly : Type 0
NextExactly = (b : List ℕ) (place : ℕ) → Next b place (next_kept b place)
