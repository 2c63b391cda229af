-- Two bodies 15 and a lent output of halfwords: how a comparison is refused, what it reports, and what it leaves in the output.
use Rattle.std.specs.Prelude.{ℕ, ◌*◌, length}
use mathlib.Core.List.{List, [], ◌∷◌, ◌++◌, map, flatten}
use Rattle.wire.specs.Answers.{Outcome}
use Rattle.wire.specs.Writing.{wrote_all}
use Rattle.map_spec.specs.Map.{most_elevations, azimuths, FilterMap}
use Rattle.map_spec.specs.Reading.{map_checks, map_in}
use Rattle.compare_spec.specs.Differences.{Difference, most_runs, differences}

-- "both elevation counts and the number of differences are reported"
pub record Comparison : Type 0 where
  pub old_elevations : ℕ
  pub new_elevations : ℕ
  pub differences : ℕ

abbrev pub comparison : FilterMap → FilterMap → Comparison
comparison m n =
    record { old_elevations = length m.elevations; new_elevations = length n.elevations; differences = length (differences m n) }

-- six halfwords a difference
abbrev pub difference_size : ℕ
difference_size = 6

abbrev pub six_of : Difference → List ℕ
six_of d = d.elevation ∷ d.azimuth ∷ d.first ∷ d.last ∷ d.old ∷ d.new ∷ []

unfoldable pub halfwords : List Difference → List ℕ
halfwords ds = flatten (map six_of ds)

-- halfwords that have room for the differences of any two maps in range: 421,200
abbrev pub most_halfwords : ℕ
most_halfwords = difference_size * (most_elevations * (azimuths * most_runs))

-- "A bad map is refused by its own number, the first map first; too little output is 13": "with nothing written", and "all 0 on refusal",
-- since a refusal has no other number
abbrev pub comparison_of : List ℕ → List ℕ → List ℕ → Outcome (List ℕ) Comparison
comparison_of old new out =
    let m = map_in old in
    let n = map_in new in
    wrote_all (map_checks old ++ map_checks new) (comparison m n) (halfwords (differences m n)) out
