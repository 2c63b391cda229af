-- Where azimuths and zones stand in a body.
use Rattle.std.specs.Prelude.{ℕ, ◌+◌, ◌*◌, ◌-◌, ◌≤◌, ◌≡◌, List, length, drop}
use Rattle.form_spec.specs.Parts.{run_size}
use Rattle.wire.specs.Numbers.{num}
use Rattle.wire.specs.Checks.{AllHold}
use Rattle.map_spec.specs.Map.{azimuths, field_size, head_size, Zone, AzimuthInRange, zones_at}
use Rattle.map_spec.specs.Reading.{azimuth_part, map_in}

-- the index of an azimuth, over all elevation segments from 0
abbrev pub index_of : ℕ → ℕ → ℕ
index_of elevation azimuth = (elevation - 1) * azimuths + azimuth

-- where the azimuth with an index begins: after the fields before the azimuths, and after `index` azimuths
abbrev pub place_of : ℕ → List ℕ → ℕ
place_of index b = head_size + run_size azimuth_part index (drop head_size b)

-- an azimuth of the map stands at a place: it lies within the body, all its checks hold, its zones are the map's, and they are in range
pub record AzimuthStands (b : List ℕ) (elevation azimuth place : ℕ) : Type 0 where
  pub within : place + azimuth_part.size (drop place b) ≤ length b
  pub passes : AllHold (azimuth_part.checks (drop place b))
  pub zones : azimuth_part.read (drop place b) ≡ zones_at (map_in b) elevation azimuth
  pub range : AzimuthInRange (zones_at (map_in b) elevation azimuth)

-- the zone whose bytes stand at a place
unfoldable pub zone_at : List ℕ → ℕ → Zone
zone_at b at = record { code = num field_size b at; end = num field_size b (at + field_size) }
