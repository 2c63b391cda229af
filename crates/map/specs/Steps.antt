-- What the private functions promise each other. No public promise cites this file.
use Rattle.std.specs.Prelude.{ℕ, ◌*◌, min, List, ltb, leb, eqb, Result, Option, None, Some}
use Rattle.form_spec.specs.Parts.{run_size, run_checks}
use Rattle.wire.specs.Checks.{pick}
use Rattle.wire.specs.Answers.{Answer, rule}
use Rattle.wire.specs.Refusals.{tell}
use Rattle.wire.specs.declared.refusal.Refusal.{Refusal}
use Rattle.map_spec.specs.Map.{most_elevations, azimuths}
use Rattle.map_spec.specs.Reading.{azimuth_part, segments_in, head_checks, map_checks}
use Rattle.map_spec.specs.Places.{index_of, place_of}
use Rattle.map.specs.declared.Checked.{Checked}
use Rattle.map.specs.declared.Found.{Found}

-- the fields before the azimuths: how many elevation segments
abbrev pub tell_count : Result ℕ Refusal → Answer ℕ
tell_count = tell (λ count. count)

abbrev pub head_count : List ℕ → Answer ℕ
head_count b = rule (head_checks b) (segments_in b)

-- so many azimuths: the bytes that they take, and where the one with the index begins
abbrev pub tell_found : Result Found Refusal → Answer Found
tell_found = tell (λ found. found)

abbrev pub azimuths_found : ℕ → ℕ → List ℕ → Answer Found
azimuths_found count index b =
    rule (run_checks azimuth_part count b) (record { size = run_size azimuth_part count b; place = run_size azimuth_part index b })

-- the whole body: how many elevation segments, and where the azimuth with the index begins, or the end of the azimuths if it has none such
abbrev pub tell_checked : Result Checked Refusal → Answer Checked
tell_checked = tell (λ checked. checked)

abbrev pub body_checked : ℕ → List ℕ → Answer Checked
body_checked index b =
    rule (map_checks b)
    (record { elevations = segments_in b; place = place_of (min index (segments_in b * azimuths)) b })

-- ---- a query, the azimuths of all elevation segments counted through from 0
-- the azimuth asked for, if some map has one
abbrev pub asked_index : ℕ → ℕ → Option ℕ
asked_index elevation azimuth =
    pick (eqb elevation 0) None
    (pick (ltb most_elevations elevation) None (pick (leb azimuths azimuth) None (Some (index_of elevation azimuth))))
