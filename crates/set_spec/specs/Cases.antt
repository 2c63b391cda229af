-- Sets on either side of each rule, and what the rule answers to them. The starred cases stand in `demands`.
use Rattle.std.specs.Prelude.{ℕ, ◌≡◌, List, [], ◌∷◌, ◌++◌, replicate}
use Rattle.wire.specs.Properties.{Each}
use Rattle.wire.specs.Numbers.{be}
use Rattle.wire.specs.Answers.{Outcome, refusal}
use Rattle.wire.specs.Sizes.{halfwords}
use Rattle.header.specs.declared.Header.{Header}
use Rattle.set_spec.specs.Walk.{SetSays, set_of}
use Rattle.set_spec.specs.Theorems.{accepted}

-- "Request 129, channel 0, sequence 5, date 16,000, 1,000 ms: `00000002 00000000 00000012 0009 00 09 0005 3E80 000003E8 0001 0001 0081`",
-- with another size, type, date, N, segment number or data of two bytes in its place
abbrev pub segment_with : ℕ → ℕ → ℕ → ℕ → ℕ → ℕ → List ℕ
segment_with size kind date n k two =
    be 4 0x00000002 ++ (be 4 0x00000000 ++ (be 4 0x00000012
    ++ (be 2 size
    ++ (be 1 0x00 ++ (be 1 kind ++ (be 2 0x0005 ++ (be 2 date ++ (be 4 0x000003E8 ++ (be 2 n ++ (be 2 k ++ be 2 two))))))))))

abbrev pub frame_with : ℕ → ℕ → ℕ → ℕ → List ℕ
frame_with size n k two = segment_with size 0x09 0x3E80 n k two

abbrev pub header_with : ℕ → ℕ → Header
header_with n k = record {
  size = halfwords 9;
  channel = 0;
  kind = 9;
  sequence = 5;
  date = 16000;
  milliseconds = 1000;
  segments = n;
  number = k;
}

-- a case: a buffer of frames, what the output holds before, and the outcome
pub record Case : Type 0 where
  pub frames : List ℕ
  pub out : List ℕ
  pub right : Outcome (List ℕ) SetSays

abbrev pub refuses : List ℕ → ℕ → Case
refuses frames n = record { frames = frames; out = 7 ∷ 7 ∷ 7 ∷ 7 ∷ 7 ∷ []; right = refusal (7 ∷ 7 ∷ 7 ∷ 7 ∷ 7 ∷ []) n }

abbrev pub accepts : List ℕ → Header → List ℕ → Case
accepts frames h body = record { frames = frames; out = 7 ∷ 7 ∷ 7 ∷ 7 ∷ 7 ∷ []; right = accepted h body (7 ∷ 7 ∷ 7 ∷ 7 ∷ 7 ∷ []) }

abbrev pub Answered : Case → Type 0
Answered c = set_of c.frames c.out ≡ c.right

-- "4 keep alive", with no body
abbrev pub keep_alive : List ℕ
keep_alive = be 4 4 ++ be 4 0 ++ be 4 0

abbrev pub limit_cases : List Case
limit_cases =
    -- 12: number 2 of three absent, and number 1; 9, after a segment that is good; 10, another N; 1 before all of these
    refuses (frame_with 9 3 1 0x3132 ++ frame_with 9 3 3 0x3536) 12
    ∷ refuses (frame_with 9 3 2 0x3334 ++ frame_with 9 3 3 0x3536) 12
    ∷ refuses (frame_with 9 1 1 0x3132 ++ keep_alive) 9
    ∷ refuses (frame_with 9 2 1 0x3132 ++ frame_with 9 3 2 0x3334) 10
    ∷ refuses (frame_with 9 1 1 0x3132 ++ replicate 11 0) 1
    -- 13: three segments of two bytes, and room for five
    ∷ refuses (frame_with 9 3 1 0x3132 ++ (frame_with 9 3 2 0x3334 ++ frame_with 9 3 3 0x3536)) 13
    -- K1: one segment with any number
    ∷ accepts (frame_with 9 1 65535 0x3132) (header_with 1 1) (0x31 ∷ 0x32 ∷ [])
    ∷ accepts (frame_with 9 2 2 0x3334 ++ frame_with 9 2 1 0x3132) (header_with 2 1) (0x31 ∷ 0x32 ∷ 0x33 ∷ 0x34 ∷ [])
    ∷ []

abbrev pub Limits : Type 0
Limits = Each Answered limit_cases
