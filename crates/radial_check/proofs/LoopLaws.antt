-- The walk over the moments: what is left of the checks decides as all of them. Assumes nothing.
use Prim.Native.Nat.{ℕ, suc, ◌+◌, ◌-◌, ◌*◌, ◌≤◌, ◌<◌}
use native.Mathlib.Nat.{sub-zero}
use native.Mathlib.Omega.{arith}
use mathlib.Core.Path.{◌≡◌, refl, sym, ap, ◌∙◌}
use mathlib.Core.Bool.{Bool, true, false}
use mathlib.Core.List.{List, [], ◌∷◌, ◌++◌}
use lib.Bits.{bit_or}
use borrow.Author.Tests.{not-false}
use Rattle.wire.specs.Checks.{Check, among, decide}
use Rattle.wire.specs.Answers.{refused, given, rule}
use Rattle.wire.proofs.CheckLaws.{all_hold}
use Rattle.wire.proofs.AnswerLaws.{rule_given}
use Rattle.radial_spec.specs.Description.{permitted, most_moments, moment_pointer}
use Rattle.radial_spec.specs.Refusal.{pointer, part, name_in, head_in, moment_says, moment_checks, moments_checks}
use Rattle.radial_head.specs.Told.{key_of}
use Rattle.radial_check.specs.Steps.{bit_of, marked, moment_step, moment_next, moments_of}
use Rattle.radial_check.proofs.ChainLaws.{stops, goes, given_is}
use Rattle.radial_check.proofs.BitLaws.{Marks, marks_none, marks_more}

-- a moment's checks by the marks are the rule's by the names
by_marks : (q z from p : ℕ) (l : List ℕ) (seen : ℕ) (names : List ℕ) → Marks seen names
    → moment_step z from p (key_of (head_in l)) seen ≡ rule (moment_checks q z from p l names []) (bit_of (name_in l), p + moment_says l)
by_marks q z from p l seen names m = go (among (name_in l) permitted) refl
  where
    go : (t : Bool) → among (name_in l) permitted ≡ t
        → moment_step z from p (key_of (head_in l)) seen ≡ rule (moment_checks q z from p l names []) (bit_of (name_in l), p + moment_says l)
    go true e = simp (m (name_in l) e)
    go false e = simp e

-- the walk stands before moment i of n, in a radial of z bytes whose first moment begins at `first` or later
pub record Going (b : List ℕ) (z first n seen from i : ℕ) : Type 0 where
  pub below : i ≤ n
  pub small : n ≤ most_moments
  pub names : List ℕ
  pub marks : Marks seen names
  pub same : decide (moments_checks z b from (moment_pointer + 4 * i) names (n - i)) (λ k. k) 0 ≡ moments_of b z first n

pub begins : (b : List ℕ) (z first n : ℕ) → n ≤ most_moments → Going b z first n 0 first 0
begins b z first n h = record {
  below = omega arith;
  small = h;
  names = [];
  marks = marks_none;
  same = ap (λ (k : ℕ). decide (moments_checks z b first moment_pointer [] k) (λ j. j) 0) (sub-zero n);
}

module _ (b : List ℕ) (z first n seen from i : ℕ) (g : Going b z first n seen from i) where
  abbrev q : ℕ
  q = moment_pointer + 4 * i

  abbrev p : ℕ
  p = pointer b q

  abbrev l : List ℕ
  l = part b q

  -- the checks of this moment, and what they hand on
  abbrev these : List Check
  these = moment_checks q z from p l g.names []

  abbrev met : ℕ × ℕ
  met = (bit_of (name_in l), p + moment_says l)

  -- the checks of those after it
  abbrev rest : List Check
  rest = moments_checks z b (p + moment_says l) (q + 4) (g.names ++ (name_in l ∷ [])) (n - (i + 1))

  module _ (more : i < n) where
    split : decide these (λ k. k) (decide rest (λ k. k) 0) ≡ moments_of b z first n
    split =
        let e : n - i ≡ suc (n - (i + 1)) = omega arith in
        ap (λ (k : ℕ). decide (moments_checks z b from q g.names k) (λ j. j) 0) (sym e) ∙ g.same

    pub refuses : (k : ℕ) → refused k ≡ moment_next b z from q seen → k ≡ moments_of b z first n
    refuses k e = stops these met k (λ j. j) (decide rest (λ j. j) 0) (e ∙ by_marks q z from p l seen g.names g.marks) ∙ split

    pub turns : (bit end : ℕ) → given (bit, end) ≡ moment_next b z from q seen → Going b z first n (bit_or seen bit) end (i + 1)
    turns bit end e = record {
      below = omega arith;
      small = g.small;
      names = g.names ++ (name_in l ∷ []);
      marks = λ y h. ap (λ (m : ℕ × ℕ). marked (bit_or seen m.0) y) is ∙ marks_more seen g.names (name_in l) g.marks known y h;
      same =
          ap (λ (k : ℕ). decide (moments_checks z b end k (g.names ++ (name_in l ∷ [])) (n - (i + 1))) (λ j. j) 0) next
          ∙ ap (λ (m : ℕ × ℕ). decide (moments_checks z b m.1 (q + 4) (g.names ++ (name_in l ∷ [])) (n - (i + 1))) (λ j. j) 0) is
          ∙ goes these met (bit, end) (λ j. j) (decide rest (λ j. j) 0) ok
          ∙ split;
    }
      where
        ok : given (bit, end) ≡ rule these met
        ok = e ∙ by_marks q z from p l seen g.names g.marks

        is : (bit, end) ≡ met
        is = given_is these met (bit, end) ok

        known : among (name_in l) permitted ≡ true
        known = not-false (among (name_in l) permitted) (all_hold these (rule_given these met (bit, end) (sym ok)).0).1.1.0

        next : moment_pointer + 4 * (i + 1) ≡ q + 4
        next = omega arith

  pub ends : n ≤ i → 0 ≡ moments_of b z first n
  ends h =
      let left : n - i ≡ 0 = omega (arith, g.below) in
      ap (λ (k : ℕ). decide (moments_checks z b from q g.names k) (λ j. j) 0) (sym left) ∙ g.same
