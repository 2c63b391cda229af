-- What a C caller that lends memory to be written receives, and what it is promised. "On a refusal every other field is 0."
use Rattle.std.specs.Prelude.{ℕ, ◌≡◌, Result, Ok, Err}
use Rattle.wire.specs.Answers.{Answer, refused, given, Outcome}
use Rattle.wire.specs.declared.Bytes.{Bytes}
use Rattle.c_lent.specs.declared.UlmWritten.{UlmWritten}

-- the struct shows the answer, and the lent memory holds the output of the outcome
pub record Leaves {R O A : Type 0} (face : Answer A → R) (right : Outcome O A) (r : R) (after : O) : Type 0 where
  pub answers : r ≡ face right.answer
  pub leaves : after ≡ right.output

-- an answer with the number of its refusal
abbrev pub numbered : Result Bytes ℕ → Answer Bytes
numbered (Ok long) = given long
numbered (Err number) = refused number

-- the struct of every writer
abbrev pub written_face : Answer Bytes → UlmWritten
written_face (refused n) = record { refusal = n; length = 0 }
written_face (given long) = record { refusal = 0; length = long.0 }
