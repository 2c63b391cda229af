-- "Walk a buffer from its start": what is kept of it and what is skipped.
use Rattle.std.specs.Prelude.{ℕ, suc, ◌+◌, ◌-◌, Bool, not, List, [], ◌∷◌, ◌++◌, eqb, length, take, drop}
use Rattle.wire.specs.Checks.{pick, some_broken}
use Rattle.frame.specs.Session.{whole_long}
use Rattle.frame.specs.Walk.{Walk, walked}
use Rattle.set_spec.specs.Segment.{own_checks}

-- "where a data frame with a message header that passes .. stands": the buffer from a place on begins with such a frame
abbrev pub stands : List ℕ → Bool
stands rest = not (some_broken (own_checks rest))

-- its bytes, "whole"
abbrev pub whole : List ℕ → List ℕ
whole rest = take (whole_long rest) rest

-- the size of the frame that stands at a place, or 0 if there is none
abbrev pub whole_at : List ℕ → ℕ → ℕ
whole_at b place = pick (stands (drop place b)) (whole_long (drop place b)) 0

-- a step of the walk: a frame kept, or a byte skipped
pub data Step : Type 0 where
  kept : List ℕ → Step
  skipped : Step

-- "where a data frame .. stands, copy it whole to the output"; "otherwise skip one byte"
abbrev pub step_in : List ℕ → Step
step_in rest = pick (stands rest) (kept (whole rest)) skipped

-- how many bytes a step takes: "go on after it"
abbrev pub step_long : Step → ℕ
step_long (kept frame) = length frame
step_long skipped = 1

-- all steps in order, to the end; the walk carries no state
abbrev pub walk : Walk (Unit {0}) (List Step)
walk = record {
  takes = λ s rest. step_long (step_in rest);
  next = λ s rest. s;
  turn = λ s rest later. step_in rest ∷ later;
  end = λ s. [];
}

abbrev pub steps_of : List ℕ → List Step
steps_of b = walked walk tt b

-- "the kept frames in order"
unfoldable pub frames_of : List Step → List (List ℕ)
frames_of [] = []
frames_of (kept frame ∷ steps) = frame ∷ frames_of steps
frames_of (skipped ∷ steps) = frames_of steps

-- "each longest run of skipped bytes as place and length"
pub record Run : Type 0 where
  pub place : ℕ
  pub long : ℕ

-- the bytes from `first` to before `next` as a run, or nothing if there are none
abbrev pub run : ℕ → ℕ → List Run
run first next = pick (eqb first next) [] (record { place = first; long = next - first } ∷ [])

-- the runs from the place `next` on; the bytes from `first` to before `next` were skipped
unfoldable pub runs_of : ℕ → ℕ → List Step → List Run
runs_of first next [] = run first next
runs_of first next (kept frame ∷ steps) = run first next ++ runs_of (next + length frame) (next + length frame) steps
runs_of first next (skipped ∷ steps) = runs_of first (suc next) steps

-- what is kept and what is skipped of a buffer
abbrev pub kept_of : List ℕ → List (List ℕ)
kept_of b = frames_of (steps_of b)

abbrev pub skipped_of : List ℕ → List Run
skipped_of b = runs_of 0 0 (steps_of b)

-- how many bytes are skipped before the first frame kept
unfoldable pub skipped_first : List Step → ℕ
skipped_first [] = 0
skipped_first (kept frame ∷ steps) = 0
skipped_first (skipped ∷ steps) = suc (skipped_first steps)

-- where the walk from a place on keeps its first frame, or the end of the buffer if it keeps none
abbrev pub next_kept : List ℕ → ℕ → ℕ
next_kept b place = place + skipped_first (steps_of (drop place b))
