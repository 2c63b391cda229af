-- What the private functions promise each other. No public promise cites this file.
use Rattle.std.specs.Prelude.{ℕ, ◌+◌, ◌*◌, ◌-◌, ◌<◌, ◌≡◌, Bool, List, [], ◌∷◌, map, get_or}
use Rattle.wire.specs.Numbers.{fetched}
use Rattle.wire.specs.Checks.{pick, AllHold}
use Rattle.wire.specs.Sheets.{Sheet, onto}
use Rattle.map_spec.specs.Map.{last_kilometre, kilometres, most_elevations, azimuths, field_size, zone_size, code_from}
use Rattle.map_spec.specs.Reading.{azimuth_part, segments_in, map_checks, map_in}
use Rattle.compare_spec.specs.Differences.{Difference, stretches, present_in_both, differences}
use Rattle.compare_spec.specs.Comparing.{six_of, halfwords}

-- differences added to a sheet in order, six halfwords each
abbrev pub listing : List Difference → Sheet → Sheet
listing ds s = onto (map six_of ds) s

-- the stretch from `first` to before `next` as a difference if `lists` is true, else nothing
abbrev pub one_if : Bool → ℕ → ℕ → ℕ → ℕ → ℕ → ℕ → List Difference
one_if lists elevation azimuth first next old new =
    pick lists (record { elevation = elevation; azimuth = azimuth; first = first; last = next - 1; old = old; new = new } ∷ []) []

-- the differences of the azimuth that each part begins with
abbrev pub zones_differences : ℕ → ℕ → List ℕ → List ℕ → List Difference
zones_differences elevation azimuth old new =
    stretches elevation azimuth (code_from 0 (azimuth_part.read old)) (code_from 0 (azimuth_part.read new)) 0 1 last_kilometre

-- the size of the azimuth that a part begins with; its zone count counts as 0 if it is not there
abbrev pub size_fetched : List ℕ → ℕ
size_fetched b = field_size + zone_size * fetched field_size b 0

-- the first n bytes of two parts are the same
abbrev pub Same : ℕ → List ℕ → List ℕ → Type 0
Same n old new = (k : ℕ) → k < n → get_or old k 0 ≡ get_or new k 0

-- a body passes all checks and has this number of elevation segments
pub record Counts (elevations : ℕ) (b : List ℕ) : Type 0 where
  pub checked : AllHold (map_checks b)
  pub all : elevations ≡ segments_in b

-- both bodies pass all checks, and this number of elevation segments is present in both
pub record Checked (elevations : ℕ) (old new : List ℕ) : Type 0 where
  pub in_old : AllHold (map_checks old)
  pub in_new : AllHold (map_checks new)
  pub present : elevations ≡ present_in_both (map_in old) (map_in new)

-- the halfwords listed for two bodies
abbrev pub list_of : List ℕ → List ℕ → List ℕ
list_of old new = halfwords (differences (map_in old) (map_in new))

-- one difference for each kilometre of each azimuth: no walk counts more
abbrev pub most_counted : ℕ
most_counted = most_elevations * azimuths * kilometres
