-- Buffers on either side of each rule, as one statement over a list.
use Rattle.std.specs.Prelude.{ℕ, ◌≡◌, List, [], ◌∷◌, ◌++◌, replicate, take, drop}
use Rattle.wire.specs.Properties.{Each}
use Rattle.wire.specs.Answers.{refused, given, Outcome}
use Rattle.set_spec.specs.Cases.{frame_with, keep_alive}
use Rattle.salvage_spec.specs.Walk.{Run, kept_of, skipped_of}
use Rattle.salvage_spec.specs.Salvage.{Report, salvage_of}

-- a request for 129, 30 bytes
abbrev pub request : List ℕ
request = frame_with 9 1 1 0x0081

-- the same with a size that is not its body's: a frame whose header is refused
abbrev pub altered : List ℕ
altered = frame_with 8 1 1 0x0081

abbrev pub run_at : ℕ → ℕ → Run
run_at place long = record { place = place; long = long }

pub data Case : Type 0 where
  -- a buffer, the frames kept of it and the runs skipped
  walked : List ℕ → List (List ℕ) → List Run → Case
  -- a buffer, an output and one for runs, and what comes of them
  comes : List ℕ → List ℕ → List ℕ → Outcome (List ℕ × List ℕ) Report → Case

abbrev pub Holds : Case → Type 0
Holds (walked b frames runs) = (kept_of b ≡ frames) × (skipped_of b ≡ runs)
Holds (comes b out runs right) = salvage_of b out runs ≡ right

abbrev pub cases : List Case
cases =
    -- nothing; nothing but bytes that no frame begins with
    walked [] [] []
    ∷ walked (1 ∷ 2 ∷ 3 ∷ []) [] (run_at 0 3 ∷ [])
    -- undamaged
    ∷ walked request (request ∷ []) []
    ∷ walked (request ++ request) (request ∷ request ∷ []) []
    -- inserted bytes before, between and after; a keep alive is skipped
    ∷ walked (7 ∷ 7 ∷ request) (request ∷ []) (run_at 0 2 ∷ [])
    ∷ walked (request ++ (0 ∷ request)) (request ∷ request ∷ []) (run_at 30 1 ∷ [])
    ∷ walked (request ++ (keep_alive ++ request)) (request ∷ request ∷ []) (run_at 30 12 ∷ [])
    ∷ walked (request ++ (7 ∷ [])) (request ∷ []) (run_at 30 1 ∷ [])
    -- a zero before the kind, which the frame's own three follow
    ∷ walked (0 ∷ 0 ∷ request) (request ∷ []) (run_at 0 2 ∷ [])
    -- cut: the last byte is missing; the first one is
    ∷ walked (take 29 request) [] (run_at 0 29 ∷ [])
    ∷ walked (drop 1 request ++ request) (request ∷ []) (run_at 0 29 ∷ [])
    -- altered: two runs that would touch are one
    ∷ walked (request ++ (altered ++ (keep_alive ++ request))) (request ∷ request ∷ []) (run_at 30 42 ∷ [])
    -- an output with room for all, with more, and with one too little of either
    ∷ comes (7 ∷ request) (replicate 30 9) (5 ∷ 5 ∷ []) (record {
      answer = given (record { kept = 1; long = 30; runs = 1 });
      output = (request, 0 ∷ 1 ∷ []);
    })
    ∷ comes (7 ∷ request) (replicate 31 9) (5 ∷ 5 ∷ 5 ∷ []) (record {
      answer = given (record { kept = 1; long = 30; runs = 1 });
      output = (request ++ (9 ∷ []), 0 ∷ 1 ∷ 5 ∷ []);
    })
    -- two frames kept and one run
    ∷ comes (request ++ (7 ∷ request)) (replicate 60 9) (5 ∷ 5 ∷ []) (record {
      answer = given (record { kept = 2; long = 60; runs = 1 });
      output = (request ++ request, 30 ∷ 1 ∷ []);
    })
    ∷ comes (7 ∷ request) (replicate 29 9) (5 ∷ 5 ∷ []) (record { answer = refused 13; output = (replicate 29 9, 5 ∷ 5 ∷ []) })
    ∷ comes (7 ∷ request) (replicate 30 9) (5 ∷ []) (record { answer = refused 13; output = (replicate 30 9, 5 ∷ []) })
    ∷ comes [] [] [] (record { answer = given (record { kept = 0; long = 0; runs = 0 }); output = ([], []) })
    ∷ []

abbrev pub Table : Type 0
Table = Each Holds cases
