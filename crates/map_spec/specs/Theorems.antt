-- What is shown of maps and bodies; the proofs stand in proofs/.
use Rattle.std.specs.Prelude.{ℕ, ◌≤◌, ◌<◌, ◌≡◌, ◌↔◌, List, length, get_or}
use Rattle.wire.specs.Numbers.{Octets}
use Rattle.wire.specs.Checks.{AllHold}
use Rattle.wire.specs.Answers.{refused, given, rule}
use Rattle.map_spec.specs.Map.{azimuths, most_code, last_kilometre, Zone, FilterMap, map_bytes, InRange, zones_at, code_at, no_zone, Covers}
use Rattle.map_spec.specs.Reading.{segments_in, map_checks, map_of, summary_of, asked_checks, code_of}
use Rattle.map_spec.specs.Places.{index_of, place_of, AzimuthStands}

-- the accepted bodies are exactly the bytes of maps in range, and the answer is that map
abbrev pub AcceptedExactly : Type 0
AcceptedExactly = (b : List ℕ) → Octets b → (m : FilterMap) → (map_of b ≡ given m) ↔ (InRange m × (b ≡ map_bytes m))

-- two maps in range with the same bytes are the same map
abbrev pub OneMap : Type 0
OneMap = (m n : FilterMap) → InRange m → InRange n → map_bytes m ≡ map_bytes n → m ≡ n

-- exactly one zone of a list covers a kilometre, and it has this code
pub record OneZone (zs : List Zone) (kilometre code : ℕ) : Type 0 where
  pub zone : ℕ
  pub covers : Covers zs zone kilometre
  pub only : (k : ℕ) → Covers zs k kilometre → k ≡ zone
  pub coded : (get_or zs zone no_zone).code ≡ code
  pub range : code ≤ most_code

-- in a map in range every kilometre 0 to 511 of every azimuth has exactly one code, 0 to 2
abbrev pub OneCode : Type 0
OneCode =
    (m : FilterMap) → InRange m → (elevation azimuth kilometre : ℕ) → 1 ≤ elevation → elevation ≤ length m.elevations
    → azimuth < azimuths
    → kilometre ≤ last_kilometre → OneZone (zones_at m elevation azimuth) kilometre (code_at m elevation azimuth kilometre)

-- in a body that no check refuses, every azimuth begins where the one before it ends
abbrev pub AzimuthsStand : Type 0
AzimuthsStand =
    (b : List ℕ) → AllHold (map_checks b) → (elevation azimuth : ℕ) → 1 ≤ elevation → elevation ≤ segments_in b → azimuth < azimuths
    → AzimuthStands b elevation azimuth (place_of (index_of elevation azimuth) b)

-- for the bytes of a map in range the answer is the map's date, minutes and number of elevation segments
abbrev pub CheckAnswers : Type 0
CheckAnswers = (m : FilterMap) → InRange m
    → summary_of (map_bytes m) ≡ given (record { date = m.date; minutes = m.minutes; elevations = length m.elevations })

-- and, for an elevation segment, azimuth and kilometre that exist, the map's code there
abbrev pub QueryAnswers : Type 0
QueryAnswers =
    (m : FilterMap) → InRange m → (elevation azimuth kilometre : ℕ)
    → code_of (map_bytes m) elevation azimuth kilometre ≡ rule (asked_checks (length m.elevations) elevation azimuth kilometre)
    (code_at m elevation azimuth kilometre)

-- a refused body is refused by its own number, for every question
abbrev pub RefusedFirst : Type 0
RefusedFirst =
    (b : List ℕ) (n : ℕ) → map_of b ≡ refused n
    → (summary_of b ≡ refused n) × ((elevation azimuth kilometre : ℕ) → code_of b elevation azimuth kilometre ≡ refused n)
