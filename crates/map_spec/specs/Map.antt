-- What a clutter filter map is, apart from any reader: its values, its table, its ranges and its meaning.
use Rattle.std.specs.Prelude.{ℕ, zero, suc, ◌+◌, ◌*◌, ◌-◌, ◌≤◌, ◌<◌, ◌≡◌, List, [], ◌∷◌, leb, length, get_or}
use Rattle.wire.specs.Properties.{Each}
use Rattle.wire.specs.Checks.{pick, both}
use Rattle.wire.specs.Tables.{Field, field, render}
use Rattle.form_spec.specs.Parts.{fields_of}

-- ---- the limits, each once
abbrev pub most_minutes : ℕ
most_minutes = 1440

abbrev pub most_elevations : ℕ
most_elevations = 5

abbrev pub azimuths : ℕ
azimuths = 360

abbrev pub most_zones : ℕ
most_zones = 20

abbrev pub most_code : ℕ
most_code = 2

abbrev pub last_kilometre : ℕ
last_kilometre = 511

-- counted from 0
abbrev pub kilometres : ℕ
kilometres = suc last_kilometre

-- every field is a halfword: its greatest number, and how many numbers it can hold
abbrev pub most_halfword : ℕ
most_halfword = 65535

abbrev pub halfword_numbers : ℕ
halfword_numbers = suc most_halfword

-- bytes: of a field, of a zone, and of the fields before the azimuths
abbrev pub field_size : ℕ
field_size = 2

abbrev pub zone_size : ℕ
zone_size = 2 * field_size

abbrev pub head_size : ℕ
head_size = 3 * field_size

-- the greatest size of an azimuth
abbrev pub most_azimuth_size : ℕ
most_azimuth_size = field_size + zone_size * most_zones

-- ---- the map
-- "pairs of code (0-2) and end range (0-511)"
pub record Zone : Type 0 where
  pub code : ℕ
  pub end : ℕ

-- date, minutes and, for each elevation segment, its azimuths; for each azimuth its zones
pub record FilterMap : Type 0 where
  pub date : ℕ
  pub minutes : ℕ
  pub elevations : List (List (List Zone))

-- ---- its table, every field a halfword: "date, minutes, elevation segments; for each of these, 360 azimuths; for each, zone count, then
-- pairs"
abbrev pub zone_fields : Zone → List Field
zone_fields z = field 2 z.code ∷ field 2 z.end ∷ []

abbrev pub azimuth_fields : List Zone → List Field
azimuth_fields a = field 2 (length a) ∷ fields_of zone_fields a

abbrev pub elevation_fields : List (List Zone) → List Field
elevation_fields e = fields_of azimuth_fields e

abbrev pub map_fields : FilterMap → List Field
map_fields m = field 2 m.date ∷ field 2 m.minutes ∷ field 2 (length m.elevations) ∷ fields_of elevation_fields m.elevations

abbrev pub map_bytes : FilterMap → List ℕ
map_bytes m = render (map_fields m)

-- ---- its ranges
-- "House rule: ends rise strictly and the last is 511."
abbrev pub EndsRise : List Zone → Type 0
EndsRise [] = Unit {0}
EndsRise (z ∷ []) = z.end ≡ last_kilometre
EndsRise (z ∷ (y ∷ zs)) = (z.end < y.end) × EndsRise (y ∷ zs)

-- "code (0-2) and end range (0-511)"
pub record ZoneInRange (z : Zone) : Type 0 where
  pub code : z.code ≤ most_code
  pub end : z.end ≤ last_kilometre

-- "zone count 1 to 20"
pub record AzimuthInRange (a : List Zone) : Type 0 where
  pub some : 1 ≤ length a
  pub most : length a ≤ most_zones
  pub zones : Each ZoneInRange a
  pub rise : EndsRise a

-- "360 azimuths"
pub record ElevationInRange (e : List (List Zone)) : Type 0 where
  pub all : length e ≡ azimuths
  pub each : Each AzimuthInRange e

-- "date (1 up), minutes (0 to 1,440), elevation segments (1 to 5)"
pub record InRange (m : FilterMap) : Type 0 where
  pub date : 1 ≤ m.date
  pub halfword : m.date ≤ most_halfword
  pub minutes : m.minutes ≤ most_minutes
  pub some : 1 ≤ length m.elevations
  pub most : length m.elevations ≤ most_elevations
  pub each : Each ElevationInRange m.elevations

-- ---- its meaning
-- "Zone k covers whole kilometres after the previous end up to its own; the first from 0."
-- The code of the zone that covers the kilometre, where the first zone listed covers kilometres from `from` on; 0 where none covers it.
unfoldable pub code_from : ℕ → List Zone → ℕ → ℕ
code_from from [] kilometre = 0
code_from from (z ∷ zs) kilometre =
    pick (both (leb from kilometre) (leb kilometre z.end)) z.code (code_from (suc z.end) zs kilometre)

-- "an elevation segment (from 1), azimuth (0-359)": its zones
abbrev pub zones_at : FilterMap → ℕ → ℕ → List Zone
zones_at m elevation azimuth = get_or (get_or m.elevations (elevation - 1) []) azimuth []

-- "Asked for an elevation segment (from 1), azimuth (0-359) and kilometre, it answers the code."
abbrev pub code_at : FilterMap → ℕ → ℕ → ℕ → ℕ
code_at m elevation azimuth kilometre = code_from 0 (zones_at m elevation azimuth) kilometre

-- the same, said of one zone: zone k of the list (from 0) covers the kilometre
abbrev pub no_zone : Zone
no_zone = record { code = 0; end = 0 }

abbrev pub start_of : List Zone → ℕ → ℕ
start_of zs zero = 0
start_of zs (suc k) = suc (get_or zs k no_zone).end

pub record Covers (zs : List Zone) (k kilometre : ℕ) : Type 0 where
  pub listed : k < length zs
  pub after : start_of zs k ≤ kilometre
  pub up_to : kilometre ≤ (get_or zs k no_zone).end
