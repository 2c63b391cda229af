-- "Each frame in turn": one walk over a buffer from a place to the end. The reading of a set, a salvage and the order of a set's
-- checks are instances of it.
use Rattle.std.specs.Prelude.{ℕ, zero, suc, List, [], ◌∷◌, ◌++◌, length, drop}
use Rattle.wire.specs.Checks.{CheckOf, decide}
use Rattle.wire.specs.Answers.{AnswerOf, refused, given}

-- a walk. S is its state, A its answer; `rest` is the buffer from the current place on
pub record Walk (S A : Type 0) : Type 0 where
  -- at a place: how many bytes to take, the state after them, and the answer. The answer is made from the answer for what follows
  pub takes : S → List ℕ → ℕ
  pub next : S → List ℕ → S
  pub turn : S → List ℕ → A → A
  -- at the end of the buffer
  pub end : S → A

-- one turn after the other, to the end. Each turn takes bytes, so there are at most as many turns as bytes.
unfoldable pub turns : {S A : Type 0} → Walk S A → ℕ → S → List ℕ → A
turns w zero s rest = w.end s
turns w (suc n) s [] = w.end s
turns w (suc n) s (byte ∷ more) =
    let rest : List ℕ = byte ∷ more in w.turn s rest (turns w n (w.next s rest) (drop (w.takes s rest) rest))

abbrev pub walked : {S A : Type 0} → Walk S A → S → List ℕ → A
walked w s rest = turns w (length rest) s rest

-- a walk that makes checks at each place. N is what a refusal carries
pub record Checked (S N : Type 0) : Type 0 where
  pub takes : S → List ℕ → ℕ
  pub next : S → List ℕ → S
  pub checks : S → List ℕ → List (CheckOf N)

-- the answer: the first broken check of the first place that has one, or the state at the end
abbrev pub answers : {S N : Type 0} → Checked S N → Walk S (AnswerOf N S)
answers c = record {
  takes = c.takes;
  next = c.next;
  turn = λ s rest later. decide (c.checks s rest) refused later;
  end = given;
}

-- "Order": all checks of the walk, place by place, then the checks of the state at the end
abbrev pub in_order : {S N : Type 0} → Checked S N → (S → List (CheckOf N)) → Walk S (List (CheckOf N))
in_order c at_end = record {
  takes = c.takes;
  next = c.next;
  turn = λ s rest later. c.checks s rest ++ later;
  end = at_end;
}
