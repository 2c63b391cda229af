-- Laws of the header's rules: the number reported, a radial's segment, and the checks of the size by the form. Assumes nothing.
use Prim.Native.Nat.{ℕ, ◌%◌, ◌≤◌}
use mathlib.Core.Path.{◌≡◌, refl, ◌∙◌}
use mathlib.Core.Bool.{Bool, true, false, not}
use mathlib.Core.List.{List, []}
use native.Mathlib.Omega.{arith}
use lib.Dec.{eqb}
use borrow.Author.Tests.{lt-ltb, le-ltb, eq-eqb, ne_eqb, eqb-true, not-false}
use Rattle.wire.specs.Checks.{pick, both, Check, some_broken}
use Rattle.wire.specs.Sizes.{odd}
use Rattle.wire.specs.declared.Halfwords.{Halfwords}
use Rattle.wire.proofs.CheckLaws.{never, either_true, both_true}
use Rattle.header_rule.specs.Rules.{most_size, size_checks, radial_type}
use Rattle.header_rule.specs.Rules.{reported_number, most_segments, segment_checks}
use Rattle.header_rule.specs.Rules.{long_mark, marked, length_in, length_checks, long_form, form_checks}

-- the number reported: 1 if N is 1, else the one stored; a number from 1 to N is not changed
pub number_lone : (n k : ℕ) → n ≡ 1 → reported_number n k ≡ 1
number_lone n k e = simp (eq-eqb n 1 e)

pub number_other : (n k : ℕ) → (n ≡ 1 → ⊥) → reported_number n k ≡ k
number_other n k e = simp (ne_eqb n 1 e)

pub number_kept : (n k : ℕ) → 1 ≤ k → k ≤ n → reported_number n k ≡ k
number_kept n k low high = go (eqb n 1) refl
  where
    go : (t : Bool) → eqb n 1 ≡ t → reported_number n k ≡ k
    go true q = let one : n ≡ 1 = eqb-true n 1 q in number_lone n k one ∙ omega (arith, one)
    go false q = simp q

pub number_twice : (n k : ℕ) → reported_number n (reported_number n k) ≡ reported_number n k
number_twice n k = go (eqb n 1)
  where
    go : (t : Bool) → pick t 1 (pick t 1 k) ≡ pick t 1 k
    go true = refl
    go false = refl

-- the segment's checks of a radial: it is the one segment there is
pub radial_alone : (size : Halfwords) (kind n k : ℕ) → kind ≡ radial_type
    → some_broken (segment_checks size kind n (reported_number n k)) ≡ not (eqb n 1)
radial_alone size kind n k r = go (eqb n 1) refl
  where
    go : (t : Bool) → eqb n 1 ≡ t → some_broken (segment_checks size kind n (reported_number n k)) ≡ not (eqb n 1)
    go false q = simp (eq-eqb kind radial_type r, q, either_true)
    go true q =
        let one : n ≡ 1 = eqb-true n 1 q in
        let few : n ≤ most_segments = omega (arith, one) in
        simp (le-ltb n 1 (omega (arith, one)), le-ltb most_segments n few, eq-eqb kind radial_type r, q)

-- ---- the forms: whatever holds of each form's checks of the size holds of those of a message
pub by_form {ℓ} : (C : List Check → Type ℓ) (size : Halfwords) (kind high low long : ℕ) → C (length_checks (length_in high low) long) → C []
    → C (size_checks size long) → C (form_checks size kind high low long)
by_form C size kind high low long inLong other inShort = go (marked size) (eqb kind radial_type)
  where
    go : (t u : Bool) → C (pick t (pick u (length_checks (length_in high low) long) []) (size_checks size long))
    go true true = inLong
    go true false = other
    go false u = inShort

-- of a size that is not 65,535 they are the short form's, whatever the type; of 65,535 they are the length's for a radial, else none
pub form_short : (size : Halfwords) (kind high low long : ℕ) → marked size ≡ false
    → form_checks size kind high low long ≡ size_checks size long
form_short size kind high low long e = rw e

pub form_long : (size : Halfwords) (kind high low long : ℕ) → long_form size kind ≡ true
    → form_checks size kind high low long ≡ length_checks (length_in high low) long
form_long size kind high low long e = let p = both_true (marked size) (eqb kind radial_type) e in rw (p.0, p.1)

pub form_other : (size : Halfwords) (kind high low long : ℕ) → long_form size kind ≡ false
    → form_checks size kind high low long ≡ pick (marked size) [] (size_checks size long)
form_other size kind high low long e = go (marked size) (eqb kind radial_type) e
  where
    go : (t u : Bool) → both t u ≡ false
        → pick t (pick u (length_checks (length_in high low) long) []) (size_checks size long) ≡ pick t [] (size_checks size long)
    go true true q = never (cc q)
    go true false q = refl
    go false u q = refl

-- the short form's own rule refuses 65,535
pub marked_large : (size : Halfwords) (long : ℕ) → marked size ≡ true → some_broken (size_checks size long) ≡ true
marked_large size long e =
    let is : size.0 ≡ long_mark.0 = eqb-true size.0 long_mark.0 e in
    simp (lt-ltb most_size.0 size.0 (omega (arith, is)), either_true)

-- a length that is even
pub even_holds : (n : ℕ) → n % 2 ≡ 0 → odd n ≡ false
even_holds n h = simp (eq-eqb (n % 2) 0 h)

pub even_from : (n : ℕ) → odd n ≡ false → n % 2 ≡ 0
even_from n h = eqb-true (n % 2) 0 (not-false _ h)
