-- Ends that do not rise, and both sides of each range, as one statement over a list of whole bodies and the rules' answers.
-- The starred case stands in `demands`.
use Rattle.std.specs.Prelude.{ℕ, ◌≡◌, List, [], ◌∷◌, ◌++◌, take, replicate}
use Rattle.wire.specs.Properties.{Each}
use Rattle.wire.specs.Numbers.{be}
use Rattle.wire.specs.Answers.{Answer, refused, given}
use Rattle.map_spec.specs.Map.{Zone, map_bytes}
use Rattle.map_spec.specs.Reading.{Summary, summary_of, code_of}

abbrev pub zone : ℕ → ℕ → Zone
zone c e = record { code = c; end = e }

-- a body of one elevation segment: the zones given at azimuth 0, one zone of code 1 at each of the 359 others
abbrev pub body_with : List Zone → List ℕ
body_with zs = map_bytes (record { date = 16000; minutes = 720; elevations = (zs ∷ replicate 359 (zone 1 511 ∷ [])) ∷ [] })

-- "Ends 100, 511 with codes 0, 2"
abbrev pub body13 : List ℕ
body13 = body_with (zone 0 100 ∷ zone 2 511 ∷ [])

-- the three fields before the azimuths
abbrev pub head : ℕ → ℕ → ℕ → List ℕ
head date minutes elevations = be 2 date ++ be 2 minutes ++ be 2 elevations

pub data Case : Type 0 where
  asked : List ℕ → ℕ → ℕ → ℕ → Answer ℕ → Case
  checked : List ℕ → Answer Summary → Case

abbrev pub Holds : Case → Type 0
Holds (asked b elevation azimuth kilometre answer) = code_of b elevation azimuth kilometre ≡ answer
Holds (checked b answer) = summary_of b ≡ answer

abbrev pub cases : List Case
cases =
    -- 14: "Ends 100, 100, 511: 24. Only 100: 24."
    asked (body_with (zone 0 100 ∷ zone 1 100 ∷ zone 2 511 ∷ [])) 1 0 100 (refused 24)
    ∷ asked (body_with (zone 0 100 ∷ [])) 1 0 100 (refused 24)
    -- what is asked for
    ∷ asked body13 1 0 0 (given 0)
    ∷ asked body13 1 0 511 (given 2)
    ∷ asked body13 1 0 512 (refused 21)
    ∷ asked body13 1 359 511 (given 1)
    ∷ asked body13 1 360 0 (refused 21)
    ∷ asked body13 0 0 0 (refused 21)
    ∷ asked body13 2 0 0 (refused 21)
    -- zones: a first end of 0, a code, a count, an end past 511
    ∷ asked (body_with (zone 1 0 ∷ zone 2 511 ∷ [])) 1 0 0 (given 1)
    ∷ asked (body_with (zone 1 0 ∷ zone 2 511 ∷ [])) 1 0 1 (given 2)
    ∷ asked (body_with (zone 3 511 ∷ [])) 1 0 0 (refused 24)
    ∷ asked (body_with []) 1 0 0 (refused 24)
    ∷ asked (body_with (zone 0 100 ∷ zone 1 512 ∷ [])) 1 0 0 (refused 24)
    -- fields before the azimuths, cut off and out of range
    ∷ checked body13 (given (record { date = 16000; minutes = 720; elevations = 1 }))
    ∷ checked [] (refused 23)
    ∷ checked (0 ∷ []) (refused 23)
    ∷ checked (be 2 0) (refused 24)
    ∷ checked (be 2 1) (refused 23)
    ∷ checked (head 1 1440 1) (refused 23)
    ∷ checked (head 1 1441 1) (refused 24)
    ∷ checked (head 1 0 0) (refused 24)
    ∷ checked (head 1 0 5) (refused 23)
    ∷ checked (head 1 0 6) (refused 24)
    -- an early 24 comes before a later cut; the last byte is missing; one byte too many
    ∷ checked (head 1 0 1 ++ be 2 21) (refused 24)
    ∷ checked (head 1 0 1 ++ be 2 20) (refused 23)
    ∷ checked (take 2169 body13) (refused 23)
    ∷ checked (body13 ++ (0 ∷ [])) (refused 23)
    ∷ []

abbrev pub Table : Type 0
Table = Each Holds cases
