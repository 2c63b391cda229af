-- What a public entry promises: for every input one answer, and the contents of lent memory when it returns.
use Rattle.std.specs.Prelude.{ℕ, ◌≡◌, List}
use Rattle.wire.specs.Checks.{CheckOf, decide}

-- "Each ends with an answer or with one refusal number". N is what a refusal carries, as in a check
pub data AnswerOf (N A : Type 0) : Type 0 where
  refused : N → AnswerOf N A
  given : A → AnswerOf N A

abbrev pub Answer : Type 0 → Type 0
Answer A = AnswerOf ℕ A

-- the number of a refusal; 0 where there is none
abbrev pub number_of : {A : Type 0} → Answer A → ℕ
number_of (refused n) = n
number_of (given v) = 0

-- a refusal stays; f is applied to any other answer
abbrev pub onward : {N A B : Type 0} → AnswerOf N A → (A → AnswerOf N B) → AnswerOf N B
onward (refused n) f = refused n
onward (given v) f = f v

-- the answer by a list of checks: the first broken one's number, or v
abbrev pub rule : {N A : Type 0} → List (CheckOf N) → A → AnswerOf N A
rule ks v = decide ks refused (given v)

-- an answer, and the contents of the lent output after the call: O is one output or a pair of two
pub record Outcome (O A : Type 0) : Type 0 where
  pub answer : Answer A
  pub output : O

-- "A refusal changes no lent byte"
abbrev pub refusal : {O A : Type 0} → O → ℕ → Outcome O A
refusal out n = record { answer = refused n; output = out }

-- the outcome by a list of checks: refused, with the output as it was, or v with the output `after`
abbrev pub outcome : {O A : Type 0} → List (CheckOf ℕ) → O → A → O → Outcome O A
outcome ks out v after = decide ks (refusal out) (record { answer = given v; output = after })

-- the promise of an entry: `tell` of its result r is the right answer, and `after` in the lent output is the right output
pub record Promise {R O A : Type 0} (tell : R → Answer A) (right : Outcome O A) (r : R) (after : O) : Type 0 where
  pub answers : tell r ≡ right.answer
  pub leaves : after ≡ right.output
