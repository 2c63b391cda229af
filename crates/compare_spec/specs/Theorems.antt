-- What is shown of comparisons; the proofs stand in proofs/.
use Rattle.std.specs.Prelude.{ℕ, ◌*◌, ◌≤◌, ◌<◌, ◌≡◌, ◌↔◌, List, [], map, length}
use Rattle.wire.specs.Properties.{Each}
use Rattle.wire.specs.Answers.{refused, given, refusal}
use Rattle.wire.specs.Writing.{filled}
use Rattle.map_spec.specs.Map.{azimuths, most_halfword, FilterMap, InRange, code_at}
use Rattle.map_spec.specs.Reading.{map_of}
use Rattle.compare_spec.specs.Differences.{Difference, most_runs, present_in_both, differences, swapped}
use Rattle.compare_spec.specs.Compared.{Present, Compared, RunInRange}
use Rattle.compare_spec.specs.Comparing.{comparison, halfwords, most_halfwords, comparison_of}

-- the list is sound, complete, of longest runs and in order; and it is the only such list
abbrev pub ComparedExactly : Type 0
ComparedExactly = (m n : FilterMap) (ds : List Difference) → (ds ≡ differences m n) ↔ Compared m n ds

-- it is empty exactly if the codes are the same on every kilometre of the elevation segments present in both
abbrev pub NoneExactly : Type 0
NoneExactly =
    (m n : FilterMap)
    → (differences m n ≡ [])
    ↔ ((elevation azimuth kilometre : ℕ) → Present m n elevation azimuth kilometre → code_at m elevation azimuth kilometre
    ≡ code_at n elevation azimuth kilometre)

-- a map compared with itself has no differences
abbrev pub WithItself : Type 0
WithItself = (m : FilterMap) → differences m m ≡ []

-- swapping the maps swaps the codes
abbrev pub Swapped : Type 0
Swapped = (m n : FilterMap) → differences n m ≡ map swapped (differences m n)

-- "Date and time aren't compared"
abbrev pub DateApart : Type 0
DateApart =
    (m n : FilterMap) (date minutes date' minutes' : ℕ)
    → differences (record { date = date; minutes = minutes; elevations = m.elevations })
    (record { date = date'; minutes = minutes'; elevations = n.elevations })
    ≡ differences m n

-- the most differences, and room that is always enough
abbrev pub MostDifferences : Type 0
MostDifferences = (m n : FilterMap) → InRange m → InRange n → length (differences m n) ≤ present_in_both m n * (azimuths * most_runs)

abbrev pub RoomForAll : Type 0
RoomForAll = (m n : FilterMap) → InRange m → InRange n → length (halfwords (differences m n)) ≤ most_halfwords

-- every value listed is in its range
abbrev pub RunsInRange : Type 0
RunsInRange = (m n : FilterMap) → InRange m → InRange n → Each RunInRange (differences m n)

-- and fits a halfword
abbrev pub HalfwordsFit : Type 0
HalfwordsFit = (m n : FilterMap) → InRange m → InRange n → Each (λ value. value ≤ most_halfword) (halfwords (differences m n))

-- ---- two bodies, whatever stands in them
-- "A bad map is refused by its own number, the first map first; too little output is 13, with nothing written"; two good maps with enough
-- room are compared
pub record InTurn (old new out : List ℕ) : Type 0 where
  pub old_bad : (number : ℕ) → map_of old ≡ refused number → comparison_of old new out ≡ refusal out number
  pub new_bad : (m : FilterMap) (number : ℕ) → map_of old ≡ given m → map_of new ≡ refused number
      → comparison_of old new out ≡ refusal out number
  pub too_little : (m n : FilterMap) → map_of old ≡ given m → map_of new ≡ given n → length out < length (halfwords (differences m n))
      → comparison_of old new out ≡ refusal out 13
  pub enough : (m n : FilterMap) → map_of old ≡ given m → map_of new ≡ given n → length (halfwords (differences m n)) ≤ length out
      → comparison_of old new out ≡ record { answer = given (comparison m n); output = filled (halfwords (differences m n)) out }

abbrev pub RefusedInOrder : Type 0
RefusedInOrder = (old new out : List ℕ) → InTurn old new out

-- a checked body compared with itself has 0 differences and leaves the output as it was
abbrev pub ItselfAnswered : Type 0
ItselfAnswered =
    (b out : List ℕ) (m : FilterMap) → map_of b ≡ given m
    → comparison_of b b out
    ≡ record {
      answer = given (record { old_elevations = length m.elevations; new_elevations = length m.elevations; differences = 0 });
      output = out;
    }

-- swapping two checked bodies swaps the two counts and the codes listed, where there is room
abbrev pub SwappedAnswered : Type 0
SwappedAnswered =
    (old new out : List ℕ) (m n : FilterMap) → map_of old ≡ given m → map_of new ≡ given n → length (halfwords (differences m n)) ≤ length out
    → comparison_of new old out
    ≡ record {
      answer = given (record {
        old_elevations = length n.elevations;
        new_elevations = length m.elevations;
        differences = length (differences m n);
      });
      output = filled (halfwords (map swapped (differences m n))) out;
    }
