-- The rule of refusal of a body 15, what stands in an accepted one, and what is answered of it.
use Rattle.std.specs.Prelude.{ℕ, zero, suc, ◌+◌, ◌*◌, Bool, not, List, [], ◌∷◌, ◌++◌, ltb, eqb, length, drop}
use Rattle.wire.specs.Numbers.{num}
use Rattle.wire.specs.Checks.{either, both, Check, check}
use Rattle.wire.specs.Answers.{Answer, rule}
use Rattle.form_spec.specs.Parts.{Part, run_size, run_checks, run_in}
use Rattle.map_spec.specs.Map.{most_minutes, most_elevations, azimuths, most_zones, most_code, last_kilometre, field_size, zone_size, head_size, Zone, FilterMap, code_at}

-- ---- "Body 15: fields in byte order, 23 for one that is cut off"; 24 for one out of range. Each rule is over the bytes that are left.
-- the number in the field that the bytes begin with, and the bytes after it
abbrev pub value : List ℕ → ℕ
value b = num field_size b 0

abbrev pub after : List ℕ → List ℕ
after b = drop field_size b

abbrev pub field_checks : List ℕ → Bool → List Check
field_checks b outOfRange = check 23 (ltb (length b) field_size) ∷ check 24 outOfRange ∷ []

-- "end range (0-511)", "ends rise strictly and the last is 511": `from` is the least end allowed, `left` the number of zones that follow
abbrev pub end_broken : ℕ → ℕ → ℕ → Bool
end_broken left from end = either (ltb last_kilometre end) (either (ltb end from) (both (eqb left 0) (not (eqb end last_kilometre))))

-- "pairs of code (0-2) and end range"
abbrev pub zone_checks : ℕ → ℕ → List ℕ → List Check
zone_checks left from b = field_checks b (ltb most_code (value b)) ++ field_checks (after b) (end_broken left from (value (after b)))

unfoldable pub zones_checks : ℕ → ℕ → List ℕ → List Check
zones_checks zero from b = []
zones_checks (suc left) from b = zone_checks left from b ++ zones_checks left (suc (value (after b))) (after (after b))

-- what stands there
unfoldable pub zones_in : ℕ → List ℕ → List Zone
zones_in zero b = []
zones_in (suc n) b = record { code = value b; end = value (after b) } ∷ zones_in n (after (after b))

-- ---- parts of the body
-- "zone count 1 to 20, then pairs"
abbrev pub azimuth_part : Part (List Zone)
azimuth_part = record {
  size = λ b. field_size + zone_size * value b;
  checks = λ b. field_checks b (either (ltb (value b) 1) (ltb most_zones (value b))) ++ zones_checks (value b) 0 (after b);
  read = λ b. zones_in (value b) (after b);
}

-- "for each of these, 360 azimuths"
abbrev pub elevation_part : Part (List (List Zone))
elevation_part = record { size = run_size azimuth_part azimuths; checks = run_checks azimuth_part azimuths; read = run_in azimuth_part azimuths }

-- ---- the body
-- "date (1 up), minutes (0 to 1,440), elevation segments (1 to 5)"
abbrev pub date_in : List ℕ → ℕ
date_in b = value b

abbrev pub minutes_in : List ℕ → ℕ
minutes_in b = value (drop 2 b)

abbrev pub segments_in : List ℕ → ℕ
segments_in b = value (drop 4 b)

abbrev pub head_checks : List ℕ → List Check
head_checks b =
    field_checks b (ltb (date_in b) 1)
    ++ field_checks (drop 2 b) (ltb most_minutes (minutes_in b))
    ++ field_checks (drop 4 b) (either (ltb (segments_in b) 1) (ltb most_elevations (segments_in b)))

-- "leftovers 23 last"
abbrev pub leftover_checks : List ℕ → List Check
leftover_checks b = check 23 (ltb (head_size + run_size elevation_part (segments_in b) (drop head_size b)) (length b)) ∷ []

abbrev pub map_checks : List ℕ → List Check
map_checks b = head_checks b ++ run_checks elevation_part (segments_in b) (drop head_size b) ++ leftover_checks b

-- ---- the map that stands in the bytes
abbrev pub map_in : List ℕ → FilterMap
map_in b = record { date = date_in b; minutes = minutes_in b; elevations = run_in elevation_part (segments_in b) (drop head_size b) }

-- ---- what is answered
-- the map of a body, or the number of the first broken check
abbrev pub map_of : List ℕ → Answer FilterMap
map_of b = rule (map_checks b) (map_in b)

-- a checked map: date, minutes and the number of elevation segments
pub record Summary : Type 0 where
  pub date : ℕ
  pub minutes : ℕ
  pub elevations : ℕ

abbrev pub summary : FilterMap → Summary
summary m = record { date = m.date; minutes = m.minutes; elevations = length m.elevations }

abbrev pub summary_of : List ℕ → Answer Summary
summary_of b = rule (map_checks b) (summary (map_in b))

-- 21: "elevation, azimuth or kilometre asked for doesn't exist", in a map of so many elevation segments
abbrev pub asked_checks : ℕ → ℕ → ℕ → ℕ → List Check
asked_checks elevations elevation azimuth kilometre =
    check 21 (eqb elevation 0)
    ∷ check 21 (ltb elevations elevation)
    ∷ check 21 (not (ltb azimuth azimuths))
    ∷ check 21 (ltb last_kilometre kilometre)
    ∷ []

-- "A query on map 15 checks the map first, then 21."
abbrev pub code_of : List ℕ → ℕ → ℕ → ℕ → Answer ℕ
code_of b elevation azimuth kilometre =
    rule (map_checks b ++ asked_checks (segments_in b) elevation azimuth kilometre) (code_at (map_in b) elevation azimuth kilometre)
