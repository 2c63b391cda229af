-- The outcome of a salvage: what is reported, and what the two lent outputs, of bytes and of runs, then hold.
use Rattle.std.specs.Prelude.{ℕ, length}
use mathlib.Core.List.{List, [], ◌∷◌, map, flatten}
use Rattle.wire.specs.Checks.{Check}
use Rattle.wire.specs.Answers.{Outcome, outcome}
use Rattle.wire.specs.Writing.{filled, room_check}
use Rattle.salvage_spec.specs.Walk.{Run, kept_of, skipped_of}

-- "the number of frames kept", the bytes written, the number of runs
pub record Report : Type 0 where
  pub kept : ℕ
  pub long : ℕ
  pub runs : ℕ

-- two numbers a run: "place and length"
abbrev pub two_of : Run → List ℕ
two_of r = r.place ∷ r.long ∷ []

unfoldable pub numbers : List Run → List ℕ
numbers skipped = flatten (map two_of skipped)

-- "Should either output be too small, 13"
abbrev pub room_checks : List ℕ → List ℕ → List ℕ → List ℕ → List Check
room_checks clean list out runs = room_check (length out) clean ∷ room_check (length runs) list ∷ []

abbrev pub report : List (List ℕ) → List Run → Report
report frames skipped = record { kept = length frames; long = length (flatten frames); runs = length skipped }

-- the outcome for frames kept and runs skipped: "The output is exactly the kept frames in order"; on a refusal "nothing written"
abbrev pub salvaged : List (List ℕ) → List Run → List ℕ → List ℕ → Outcome (List ℕ × List ℕ) Report
salvaged frames skipped out runs =
    outcome (room_checks (flatten frames) (numbers skipped) out runs) (out, runs) (report frames skipped)
    (filled (flatten frames) out, filled (numbers skipped) runs)

-- the outcome for a buffer, an output of bytes and one of runs
unfoldable pub salvage_of : List ℕ → List ℕ → List ℕ → Outcome (List ℕ × List ℕ) Report
salvage_of b out runs = salvaged (kept_of b) (skipped_of b) out runs
