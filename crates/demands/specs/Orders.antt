-- "Order": the checks of each entry that asks more than one rule, one list after the other.
use Rattle.std.specs.Prelude.{ℕ, Bool, true, false, eqb, leb, length, drop}
use mathlib.Core.List.{List, [], ◌∷◌, ◌++◌, flatten}
use Rattle.wire.specs.Checks.{pick, Check, check}
use Rattle.wire.specs.Answers.{Answer, refused, given}
use Rattle.wire.specs.Writing.{then_room}
use Rattle.frame.specs.Session.{frame_checks}
use Rattle.frame.specs.Walk.{walked, in_order}
use Rattle.set_spec.specs.Walk.{each_frame, end_checks}
use Rattle.salvage_spec.specs.Walk.{kept_of, skipped_of}
use Rattle.salvage_spec.specs.Salvage.{numbers, room_checks}
use Rattle.radial_spec.specs.Description.{Moment, gates}
use Rattle.radial_spec.specs.Refusal.{description, radial_checks}
use Rattle.radial_spec.specs.Lookups.{moment_named}
use Rattle.gate_value.specs.Value.{value_checks}
use Rattle.map_spec.specs.Reading.{map_checks, map_in}
use Rattle.compare_spec.specs.Differences.{differences}
use Rattle.compare_spec.specs.Comparing.{halfwords}

-- a stream at a place: nothing is checked at its end
abbrev pub stream_checks : List ℕ → ℕ → List Check
stream_checks stream place = pick (eqb place (length stream)) [] (frame_checks (drop place stream))

-- "Set: each frame in turn, its frame checks, 9, header checks, 10, 11; after all, 12, 13."
abbrev pub set_checks : List ℕ → ℕ → List Check
set_checks frames room = walked (in_order each_frame (λ gs. end_checks gs room)) [] frames

-- "Gates as a part (a body, a moment's name): the radial's checks, 21."
abbrev pub missing : ℕ → List Moment → Bool
missing name [] = true
missing name (m ∷ ms) = pick (eqb m.name name) false (missing name ms)

-- the checks of what is asked of the moment with a name: those, then the moment's own
abbrev pub of_moment : Answer Moment → (Moment → List Check) → List Check
of_moment (refused n) own = []
of_moment (given m) own = own m

abbrev pub asked_of : List ℕ → ℕ → (Moment → List Check) → List Check
asked_of b name own =
    radial_checks b ++ (check 21 (missing name (description b).moments) ∷ of_moment (moment_named name (description b).moments) own)

abbrev pub moment_checks : List ℕ → ℕ → List Check
moment_checks b name = asked_of b name (λ m. [])

-- a gate's code: 21 of the gate
abbrev pub coded_checks : List ℕ → ℕ → ℕ → List Check
coded_checks b name gate = asked_of b name (λ m. check 21 (leb (gates m) gate) ∷ [])

-- "Gate: the radial's checks, 21, 22"
abbrev pub gate_checks : List ℕ → ℕ → ℕ → List Check
gate_checks b name gate = asked_of b name (λ m. check 21 (leb (gates m) gate) ∷ value_checks m.scale m.offset)

-- K2: "A bad map is refused by its own number, the first map first; too little output is 13"
abbrev pub comparison_checks : List ℕ → List ℕ → ℕ → List Check
comparison_checks old new room = then_room (map_checks old ++ map_checks new) (halfwords (differences (map_in old) (map_in new))) room

-- K10: "Should either output be too small, 13"
abbrev pub salvage_checks : List ℕ → List ℕ → List ℕ → List Check
salvage_checks b out runs = room_checks (flatten (kept_of b)) (numbers (skipped_of b)) out runs
