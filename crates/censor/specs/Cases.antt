-- Message 8 on either side of each limit.
use Rattle.std.specs.Prelude.{ℕ, zero, suc, ◌≡◌, List, [], ◌∷◌, ◌++◌, map, replicate}
use Rattle.wire.specs.Answers.{Answer, refused, given, Outcome, refusal}
use Rattle.wire.specs.Sizes.{bytes}
use Rattle.wire.specs.Tables.{run}
use Rattle.wire.specs.declared.Bytes.{Bytes}
use Rattle.censor.specs.Censor.{censor_of, censor_written}

-- a body with the reader's right answer; a list and the output before, with the writer's right outcome
pub data Case : Type 0 where
  read : List ℕ → Answer (List ℕ) → Case
  write : List ℕ → List ℕ → Outcome (List ℕ) Bytes → Case

pub data Reply : Type 0 where
  answered : Answer (List ℕ) → Reply
  wrote : Outcome (List ℕ) Bytes → Reply

abbrev pub found : Case → Reply
found (read body answer) = answered (censor_of body)
found (write list out outcome) = wrote (censor_written list out)

abbrev pub right : Case → Reply
right (read body answer) = answered answer
right (write list out outcome) = wrote outcome

-- in every case the rules give the right answer
abbrev pub All : List Case → Type 0
All cs = map found cs ≡ map right cs

-- a region, and n regions with every field in range
abbrev pub zone : ℕ → ℕ → ℕ → ℕ → ℕ → ℕ → List ℕ
zone startRange stopRange startAzimuth stopAzimuth segment code =
    startRange ∷ stopRange ∷ startAzimuth ∷ stopAzimuth ∷ segment ∷ code ∷ []

abbrev pub zones : ℕ → List ℕ
zones zero = []
zones (suc n) = zone 0 511 0 360 1 2 ++ zones n

-- one region, as a list and as a body: both are accepted, or both are refused as 24
abbrev pub one : List ℕ → List ℕ
one fields = 1 ∷ fields

abbrev pub room : List ℕ
room = replicate 14 7

abbrev pub passes : List ℕ → List Case
passes fields =
    read (run 2 (one fields)) (given (one fields))
    ∷ write (one fields) room (record { answer = given (bytes 14); output = run 2 (one fields) })
    ∷ []

abbrev pub breaks : List ℕ → List Case
breaks fields = read (run 2 (one fields)) (refused 24) ∷ write (one fields) room (refusal room 24) ∷ []

abbrev pub field_cases : List Case
field_cases =
    passes (zone 0 0 0 0 1 0)
    ++ passes (zone 511 0 0 0 1 0)
    ++ breaks (zone 512 0 0 0 1 0)
    ++ passes (zone 0 511 0 0 1 0)
    ++ breaks (zone 0 512 0 0 1 0)
    ++ passes (zone 0 0 360 0 1 0)
    ++ breaks (zone 0 0 361 0 1 0)
    ++ passes (zone 0 0 0 360 1 0)
    ++ breaks (zone 0 0 0 361 1 0)
    ++ breaks (zone 0 0 0 0 0 0)
    ++ passes (zone 0 0 0 0 5 0)
    ++ breaks (zone 0 0 0 0 6 0)
    ++ passes (zone 0 0 0 0 1 2)
    ++ breaks (zone 0 0 0 0 1 3)

abbrev pub body_cases : List Case
body_cases =
    read [] (refused 23)
    ∷ read (0 ∷ []) (refused 23)
    ∷ read (0 ∷ 0 ∷ []) (given (0 ∷ []))
    ∷ read (0 ∷ 0 ∷ 0 ∷ []) (refused 23)
    ∷ read (0 ∷ 1 ∷ 1 ∷ 255 ∷ 0 ∷ 0 ∷ 1 ∷ 104 ∷ 0 ∷ 0 ∷ 0 ∷ 5 ∷ 0 ∷ 2 ∷ []) (given (1 ∷ zone 511 0 360 0 5 2))
    ∷ read (0 ∷ 1 ∷ 1 ∷ 255 ∷ 0 ∷ 0 ∷ 1 ∷ 104 ∷ 0 ∷ 0 ∷ 0 ∷ 5 ∷ 0 ∷ []) (refused 23)
    ∷ read (0 ∷ 1 ∷ 1 ∷ 255 ∷ 0 ∷ 0 ∷ 1 ∷ 104 ∷ 0 ∷ 0 ∷ 0 ∷ 5 ∷ 0 ∷ 2 ∷ 0 ∷ []) (refused 23)
    ∷ read (run 2 (2 ∷ zones 2)) (given (2 ∷ zones 2))
    ∷ read (run 2 (2 ∷ (zones 1 ++ zone 0 511 361 360 1 2))) (refused 24)
    ∷ read (run 2 (25 ∷ zones 25)) (given (25 ∷ zones 25))
    ∷ read (run 2 (26 ∷ zones 26)) (refused 24)
    ∷ read (run 2 (26 ∷ [])) (refused 24)
    ∷ read (run 2 (25 ∷ zones 24)) (refused 23)
    ∷ read (run 2 (25 ∷ zones 26)) (refused 23)
    ∷ []

abbrev pub list_cases : List Case
list_cases =
    write [] [] (refusal [] 23)
    ∷ write (0 ∷ []) (7 ∷ []) (refusal (7 ∷ []) 13)
    ∷ write (0 ∷ []) (7 ∷ 7 ∷ 7 ∷ []) (record { answer = given (bytes 2); output = 0 ∷ 0 ∷ 7 ∷ [] })
    ∷ write (0 ∷ 0 ∷ []) room (refusal room 23)
    ∷ write (1 ∷ zone 511 0 360 0 5 2) (replicate 13 7) (refusal (replicate 13 7) 13)
    ∷ write (1 ∷ zone 511 0 360 0 5 2) (replicate 15 7)
    (record { answer = given (bytes 14); output = 0 ∷ 1 ∷ 1 ∷ 255 ∷ 0 ∷ 0 ∷ 1 ∷ 104 ∷ 0 ∷ 0 ∷ 0 ∷ 5 ∷ 0 ∷ 2 ∷ 7 ∷ [] })
    ∷ write (1 ∷ (zones 1 ++ (0 ∷ []))) room (refusal room 23)
    ∷ write (25 ∷ zones 25) (replicate 302 7) (record { answer = given (bytes 302); output = run 2 (25 ∷ zones 25) })
    ∷ write (25 ∷ zones 25) (replicate 301 7) (refusal (replicate 301 7) 13)
    ∷ write (26 ∷ zones 26) room (refusal room 24)
    ∷ write (26 ∷ []) room (refusal room 24)
    ∷ write (25 ∷ zones 24) room (refusal room 23)
    ∷ []

abbrev pub cases : List Case
cases = field_cases ++ body_cases ++ list_cases
