-- Comparisons on either side of each rule, as one statement over a list: of one azimuth, of what is written of some differences, and of
-- bodies that are refused.
use Rattle.std.specs.Prelude.{ℕ, ◌≡◌, List, [], ◌∷◌, length, take}
use Rattle.wire.specs.Properties.{Each}
use Rattle.wire.specs.Answers.{given, Outcome, refusal}
use Rattle.wire.specs.Writing.{wrote_all}
use Rattle.map_spec.specs.Map.{Zone, FilterMap}
use Rattle.map_spec.specs.Cases.{zone, body_with, body13}
use Rattle.compare_spec.specs.Differences.{Difference, azimuth_differences, most_runs, differences}
use Rattle.compare_spec.specs.Comparing.{Comparison, halfwords, comparison_of}

-- a difference at azimuth 0 of the first elevation segment
abbrev pub run : ℕ → ℕ → ℕ → ℕ → Difference
run first last old new = record { elevation = 1; azimuth = 0; first = first; last = last; old = old; new = new }

-- a map with only what a case needs: elevation segments, and the zones of azimuth 0 of the first
abbrev pub map_with : List (List (List Zone)) → FilterMap
map_with elevations = record { date = 16000; minutes = 720; elevations = elevations }

abbrev pub map_at0 : List Zone → FilterMap
map_at0 zs = map_with ((zs ∷ []) ∷ [])

pub data Case : Type 0 where
  -- the zones of two azimuths, and what is listed of them, or how many
  azimuth : List Zone → List Zone → List Difference → Case
  many : List Zone → List Zone → ℕ → Case
  -- the elevation segments of two maps, and what is listed of them
  segments : List (List (List Zone)) → List (List (List Zone)) → List Difference → Case
  -- some differences and an output, and what comes of them
  room : List Difference → List ℕ → Outcome (List ℕ) ℕ → Case
  -- two bodies and an output, and what comes of them
  bodies : List ℕ → List ℕ → List ℕ → Outcome (List ℕ) Comparison → Case

abbrev pub Holds : Case → Type 0
Holds (azimuth zs ys ds) = azimuth_differences (map_at0 zs) (map_at0 ys) 1 0 ≡ ds
Holds (many zs ys count) = length (azimuth_differences (map_at0 zs) (map_at0 ys) 1 0) ≡ count
Holds (segments es fs ds) = differences (map_with es) (map_with fs) ≡ ds
Holds (room ds out right) = wrote_all [] (length ds) (halfwords ds) out ≡ right
Holds (bodies old new out right) = comparison_of old new out ≡ right

-- twenty zones in each of two azimuths, which share only the last end: at each end one of the codes changes, and the codes differ at
-- every kilometre
abbrev pub twenty_old : List Zone
twenty_old =
    zone 0 10 ∷ zone 1 30 ∷ zone 2 50 ∷ zone 0 70 ∷ zone 1 90
    ∷ zone 2 110 ∷ zone 0 130 ∷ zone 1 150 ∷ zone 2 170 ∷ zone 0 190
    ∷ zone 1 210 ∷ zone 2 230 ∷ zone 0 250 ∷ zone 1 270 ∷ zone 2 290
    ∷ zone 0 310 ∷ zone 1 330 ∷ zone 2 350 ∷ zone 0 370 ∷ zone 1 511
    ∷ []

abbrev pub twenty_new : List Zone
twenty_new =
    zone 2 20 ∷ zone 0 40 ∷ zone 1 60 ∷ zone 2 80 ∷ zone 0 100
    ∷ zone 1 120 ∷ zone 2 140 ∷ zone 0 160 ∷ zone 1 180 ∷ zone 2 200
    ∷ zone 0 220 ∷ zone 1 240 ∷ zone 2 260 ∷ zone 0 280 ∷ zone 1 300
    ∷ zone 2 320 ∷ zone 0 340 ∷ zone 1 360 ∷ zone 2 380 ∷ zone 0 511
    ∷ []

abbrev pub cases : List Case
cases =
    -- the same zones; the same codes in other zones
    azimuth (zone 0 100 ∷ zone 2 511 ∷ []) (zone 0 100 ∷ zone 2 511 ∷ []) []
    ∷ azimuth (zone 0 100 ∷ zone 0 511 ∷ []) (zone 0 511 ∷ []) []
    -- a zone edge at which neither code changes ends no run; one at which either changes does
    ∷ azimuth (zone 0 100 ∷ zone 0 511 ∷ []) (zone 1 511 ∷ []) (run 0 511 0 1 ∷ [])
    ∷ azimuth (zone 0 100 ∷ zone 2 511 ∷ []) (zone 1 511 ∷ []) (run 0 100 0 1 ∷ run 101 511 2 1 ∷ [])
    ∷ azimuth (zone 1 511 ∷ []) (zone 0 100 ∷ zone 2 511 ∷ []) (run 0 100 1 0 ∷ run 101 511 1 2 ∷ [])
    -- the first and the last kilometre alone
    ∷ azimuth (zone 1 0 ∷ zone 2 511 ∷ []) (zone 2 511 ∷ []) (run 0 0 1 2 ∷ [])
    ∷ azimuth (zone 2 510 ∷ zone 1 511 ∷ []) (zone 2 511 ∷ []) (run 511 511 1 2 ∷ [])
    -- two runs with the same codes and kilometres between them that do not differ
    ∷ azimuth (zone 1 9 ∷ zone 2 19 ∷ zone 1 511 ∷ []) (zone 2 511 ∷ []) (run 0 9 1 2 ∷ run 20 511 1 2 ∷ [])
    -- as many runs as there can be
    ∷ many twenty_old twenty_new most_runs
    -- an elevation segment that one map lacks
    ∷ segments [] (((zone 1 511 ∷ []) ∷ []) ∷ []) []
    ∷ segments (((zone 1 511 ∷ []) ∷ []) ∷ []) [] []
    -- an output with room, with more, with one halfword too little, and none for no difference
    ∷ room (run 0 9 1 2 ∷ []) (7 ∷ 7 ∷ 7 ∷ 7 ∷ 7 ∷ 7 ∷ []) (record { answer = given 1; output = 1 ∷ 0 ∷ 0 ∷ 9 ∷ 1 ∷ 2 ∷ [] })
    ∷ room (run 0 9 1 2 ∷ []) (7 ∷ 7 ∷ 7 ∷ 7 ∷ 7 ∷ 7 ∷ 7 ∷ []) (record { answer = given 1; output = 1 ∷ 0 ∷ 0 ∷ 9 ∷ 1 ∷ 2 ∷ 7 ∷ [] })
    ∷ room (run 0 9 1 2 ∷ []) (7 ∷ 7 ∷ 7 ∷ 7 ∷ 7 ∷ []) (refusal (7 ∷ 7 ∷ 7 ∷ 7 ∷ 7 ∷ []) 13)
    ∷ room [] [] (record { answer = given 0; output = [] })
    -- the first map's refusal, whatever the second is, and the second's
    ∷ bodies (take 5 body13) (body_with []) (7 ∷ []) (refusal (7 ∷ []) 23)
    ∷ bodies (body_with []) (take 5 body13) (7 ∷ []) (refusal (7 ∷ []) 24)
    ∷ bodies body13 (body_with []) (7 ∷ []) (refusal (7 ∷ []) 24)
    ∷ []

abbrev pub Table : Type 0
Table = Each Holds cases
