-- Generic laws of what comes of an entry and of its C function, by the rule's outcome. Assumes nothing.
use Prim.Native.Nat.{ℕ}
use mathlib.Core.Path.{◌≡◌, refl, sym, ap, ◌∙◌}
use Rattle.wire.specs.Answers.{Answer, refused, given, number_of, Outcome, Promise}
use Rattle.wire.proofs.AnswerLaws.{kept, only}
use Rattle.c_lent.specs.Face.{Leaves}
use Rattle.demands.specs.Notions.{OfTheTable, Comes}
use Rattle.demands.proofs.ByChecksLaws.{above_0}

-- the rule's outcome is what `answer` tells with `left`, and no two answers tell the same
pub comes : {R S O A : Type 0} (tell : R → Answer A) → ((a b : R) → tell a ≡ tell b → a ≡ b)
    → (face : Answer A → S) (right : Outcome O A) (answer : R) (left : O)
    → right ≡ record { answer = tell answer; output = left } → Comes (Promise tell right) (Leaves face right) answer
    (face (tell answer)) left
comes tell apart face right answer left e =
    let met = kept tell right answer left left e refl in
    record {
      met = met;
      met_for_c = record { answers = ap face met.answers; leaves = met.leaves };
      only = λ r after p. only tell apart right r answer after left p met;
      only_for_c = λ r after p. (p.answers ∙ ap face (sym met.answers), p.leaves ∙ sym met.leaves);
    }

-- an answer whose number is 0 is no refusal, where refusals have numbers of the table
pub was_given : {A : Type 0} (right : Answer A) → ((n : ℕ) → right ≡ refused n → OfTheTable n) → number_of right ≡ 0
    → (v : A) × (right ≡ given v)
was_given (refused n) table e = absurd (above_0 n (table n refl) e)
was_given (given v) table e = (v, refl)

-- and so a struct whose number is 0 is that of a value
pub given_for_c : {S A C : Type 0} (face : Answer A → S) (number : S → ℕ) → ((n : ℕ) → number (face (refused n)) ≡ n) → (right : Answer A)
    → ((n : ℕ) → right ≡ refused n → OfTheTable n) → (r : S) → r ≡ face right → number r ≡ 0 → ((v : A) → right ≡ given v → C) → C
given_for_c {S} {A} {C} face number shows right table r e z then = by right refl
  where
    by : (a : Answer A) → right ≡ a → C
    by (refused n) p = absurd (above_0 n (table n p) (sym (shows n) ∙ ap number (sym (e ∙ ap face p)) ∙ z))
    by (given v) p = then v p
