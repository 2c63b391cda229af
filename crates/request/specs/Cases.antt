-- Message 9 on either side of each limit.
use Rattle.std.specs.Prelude.{ℕ, ◌≡◌, List, [], ◌∷◌, map}
use Rattle.wire.specs.Answers.{Answer, refused, given, Outcome, refusal}
use Rattle.wire.specs.Sizes.{bytes}
use Rattle.wire.specs.declared.Bytes.{Bytes}
use Rattle.request.specs.Request.{request_of, request_written}

-- a body with the reader's right answer; a list and the output before, with the writer's right outcome
pub data Case : Type 0 where
  read : List ℕ → Answer ℕ → Case
  write : List ℕ → List ℕ → Outcome (List ℕ) Bytes → Case

pub data Reply : Type 0 where
  answered : Answer ℕ → Reply
  wrote : Outcome (List ℕ) Bytes → Reply

abbrev pub found : Case → Reply
found (read body answer) = answered (request_of body)
found (write list out outcome) = wrote (request_written list out)

abbrev pub right : Case → Reply
right (read body answer) = answered answer
right (write list out outcome) = wrote outcome

-- in every case the rules give the right answer
abbrev pub All : List Case → Type 0
All cs = map found cs ≡ map right cs

abbrev pub cases : List Case
cases =
    read [] (refused 23)
    ∷ read (129 ∷ []) (refused 23)
    ∷ read (0 ∷ 129 ∷ 0 ∷ []) (refused 23)
    ∷ read (0 ∷ 0 ∷ []) (refused 24)
    ∷ read (0 ∷ 128 ∷ []) (refused 24)
    ∷ read (0 ∷ 129 ∷ []) (given 129)
    ∷ read (0 ∷ 130 ∷ []) (given 130)
    ∷ read (0 ∷ 131 ∷ []) (refused 24)
    ∷ read (0 ∷ 132 ∷ []) (given 132)
    ∷ read (0 ∷ 133 ∷ []) (refused 24)
    ∷ read (0 ∷ 135 ∷ []) (refused 24)
    ∷ read (0 ∷ 136 ∷ []) (given 136)
    ∷ read (0 ∷ 137 ∷ []) (refused 24)
    ∷ read (0 ∷ 143 ∷ []) (refused 24)
    ∷ read (0 ∷ 144 ∷ []) (given 144)
    ∷ read (0 ∷ 145 ∷ []) (refused 24)
    ∷ read (0 ∷ 159 ∷ []) (refused 24)
    ∷ read (0 ∷ 160 ∷ []) (given 160)
    ∷ read (0 ∷ 161 ∷ []) (refused 24)
    ∷ read (1 ∷ 129 ∷ []) (refused 24)
    ∷ read (129 ∷ 0 ∷ []) (refused 24)
    ∷ write [] (7 ∷ 7 ∷ []) (refusal (7 ∷ 7 ∷ []) 23)
    ∷ write (129 ∷ 129 ∷ []) (7 ∷ 7 ∷ []) (refusal (7 ∷ 7 ∷ []) 23)
    ∷ write (128 ∷ []) (7 ∷ []) (refusal (7 ∷ []) 24)
    ∷ write (160 ∷ []) (7 ∷ []) (refusal (7 ∷ []) 13)
    ∷ write (160 ∷ []) (7 ∷ 7 ∷ []) (record { answer = given (bytes 2); output = 0 ∷ 160 ∷ [] })
    ∷ write (160 ∷ []) (7 ∷ 7 ∷ 7 ∷ []) (record { answer = given (bytes 2); output = 0 ∷ 160 ∷ 7 ∷ [] })
    ∷ []
