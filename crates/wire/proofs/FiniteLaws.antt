-- A rule at every number below a bound, by one test that is computed. Assumes nothing.
use Prim.Native.Nat.{ℕ, zero, suc, ◌<◌}
use mathlib.Core.Path.{◌≡◌, refl, subst, sym}
use mathlib.Core.Bool.{Bool, true, false}
use native.Mathlib.Omega.{arith}
use lib.Dec.{eqb}
use borrow.Author.Tests.{eqb-true, eqb-false}
use Rattle.wire.specs.Checks.{both}
use Rattle.wire.proofs.CheckLaws.{both_true}

abbrev pub all_below : (ℕ → Bool) → ℕ → Bool
all_below f zero = true
all_below f (suc n) = both (f n) (all_below f n)

pub below : (f : ℕ → Bool) (n : ℕ) → all_below f n ≡ true → (k : ℕ) → k < n → f k ≡ true
below f zero e k h = absurd (omega arith)
below f (suc n) e k h = go (eqb k n) refl (λ q. below f n (both_true (f n) (all_below f n) e).1 k q)
  where
    go : (t : Bool) → eqb k n ≡ t → (k < n → f k ≡ true) → f k ≡ true
    go true p later = subst (λ (m : ℕ). f m ≡ true) (sym (eqb-true k n p)) (both_true (f n) (all_below f n) e).0
    go false p later = later (let ne = eqb-false k n p in smaller ne)
      where
        smaller : (k ≡ n → ⊥) → k < n
        smaller ne = omega (arith, ne)

-- two truth values compared
abbrev pub same : Bool → Bool → Bool
same true b = b
same false true = false
same false false = true

pub same_is : (a b : Bool) → same a b ≡ true → a ≡ b
same_is true b e = sym e
same_is false true e = e
same_is false false e = refl
