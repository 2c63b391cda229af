-- What the private functions promise each other. No public promise cites this file.
use Rattle.std.specs.Prelude.{ℕ, zero, suc, ◌*◌, ◌/◌, ◌%◌, ◌<◌, ◌≡◌, Bool, List, ltb, length, Option, Some, None}
use Rattle.wire.specs.Checks.{pick, either}
use Rattle.wire.specs.Answers.{Answer, refused, rule}
use Rattle.map_spec.specs.Map.{most_code, halfword_numbers, zone_size}
use Rattle.map_spec.specs.Reading.{value, after, zones_checks}

-- the check of `count` zones: their size in bytes, or a refusal
abbrev pub zones_step : ℕ → List ℕ → Answer ℕ
zones_step count b = rule (zones_checks count 0 b) (zone_size * count)

-- of a zone as one number: its code is above 2 or its end is below `from`
abbrev pub zone_broken : ℕ → ℕ → Bool
zone_broken from zone = either (ltb most_code (zone / halfword_numbers)) (ltb (zone % halfword_numbers) from)

-- the least end that may follow the first zones: one more than the last end, or `from` without zones. None if a code is above 2 or an end
-- does not rise
abbrev pub next_end : ℕ → ℕ → List ℕ → Option ℕ
next_end zero from b = Some from
next_end (suc left) from b =
    pick (ltb most_code (value b)) None
    (pick (ltb (value (after b)) from) None (next_end left (suc (value (after b))) (after (after b))))

-- the number of refusal of zones that are cut off, whatever their count
abbrev pub CutOff : List ℕ → ℕ → Type 0
CutOff b r = (count : ℕ) → length b < zone_size * count → refused r ≡ zones_step count b
