-- Which 32 bits are a finite float's, and which a finite float's above 0. Assumes nothing.
use Prim.Native.Nat.{ℕ, zero, suc, ◌+◌, ◌*◌, ◌/◌, ◌%◌, ◌^◌, ◌<◌}
use mathlib.Core.Path.{◌≡◌, refl, sym, ap, ◌∙◌}
use mathlib.Core.Bool.{Bool, true, false, not, cond}
use native.Mathlib.Nat.{zero-mul, mul-pos}
use native.Mathlib.Omega.{arith}
use lib.Dec.{T, leb, ltb, eqb}
use lib.Pow.{pow_pos}
use lib.Ieee.{Float, nan, inf, fin, up, down, binary32, lt, odd, of_fields, of_bits, nan_bits}
use lib.Ieee.Bits.{is_true}
use lib.Ieee.Exact.{odd_sign}
use lib.Ieee.Fits.{up_pos}
use lib.Ieee.Positive.{positive, positive_of_value}
use lib.Ieee.Scale.{finite}
use borrow.Author.Tests.{eqb-true, eqb-false, eq-eqb, ne_eqb, le-leb, lt-leb, leb-true, leb-false, lt-ltb, ltb-true}
use Rattle.wire.specs.Numbers.{infinite, sign}
use Rattle.wire.specs.Checks.{either, both, some_broken}
use Rattle.wire.proofs.CheckLaws.{either_false, either_true}
use Rattle.wire.proofs.FloatLaws.{no_nan}
use Rattle.gate_value.specs.Value.{float, not_finite, not_above0, value_checks}

odd_finite : (d : ℕ) (s : Bool) (q k l : ℕ) → finite (odd d s q k l) ≡ true
unfolding odd
odd_finite d s zero k l = refl
odd_finite d s (suc q) k l = refl

-- the exponent's field alone decides
by_field : (a b s : Bool) (v : Float) → finite v ≡ true → not (finite (cond a (cond b (inf s) nan) v)) ≡ a
by_field true true s v h = refl
by_field true false s v h = refl
by_field false b s v h = ap not h

fields_finite : (s : Bool) (x t : ℕ) → not (finite (of_fields binary32 s x t)) ≡ eqb x 255
unfolding of_fields
fields_finite s zero t = ap not (odd_finite 24 s t 0 149)
fields_finite s (suc x) t = by_field (eqb (suc x) 255) (eqb t 0) s (odd 24 s (8388608 + t) x 149) (odd_finite 24 s (8388608 + t) x 149)

field_test : (r : ℕ) → r < sign → eqb (r / 8388608) 255 ≡ leb infinite r
field_test r h = go (eqb (r / 8388608) 255) refl
  where
    go : (t : Bool) → eqb (r / 8388608) 255 ≡ t → t ≡ leb infinite r
    go true e = let k = eqb-true (r / 8388608) 255 e in sym (le-leb infinite r (omega arith))
    go false e = sym (lt-leb infinite r (below (eqb-false (r / 8388608) 255 e)))
      where
        below : (r / 8388608 ≡ 255 → ⊥) → r < infinite
        below ne = omega (arith, ne)

pub not_finite_bits : (bits : ℕ) → not_finite bits ≡ leb infinite (bits % sign)
unfolding of_bits
not_finite_bits bits =
    fields_finite (leb sign bits) (bits % sign / 8388608) (bits % 8388608) ∙ field_test (bits % sign) (omega arith)

-- ---- which are above 0
not-not : (t : Bool) → not (not t) ≡ t
not-not true = refl
not-not false = refl

either-three : (a b c : Bool) → either a (either b (either c false)) ≡ either (either a b) c
either-three true b c = refl
either-three false true c = refl
either-three false false c = either_false c

positive_above : (x : Float) → T (positive x) → lt (float 0) x ≡ true
unfolding lt of_bits of_fields odd
positive_above nan p = absurd p
positive_above (inf s) p = absurd p
positive_above (fin true m e) p = absurd p
positive_above (fin false m e) p =
    let h : 0 < m * up e = mul-pos (ltb-true 0 m (is_true (ltb 0 m) p)) (up_pos e) in
    lt-ltb (0 * 1 * down e) (m * up e * 1) (omega (arith, h, zero-mul (down e)))

odd_above : (s : Bool) (q k : ℕ) → lt (float 0) (odd 24 s q k 149) ≡ both (not s) (not (eqb q 0))
unfolding lt of_bits of_fields odd
odd_above true zero k = refl
odd_above false zero k = refl
odd_above true (suc q) k = refl
odd_above false (suc q) k =
    positive_above (odd 24 false (suc q) k 149)
    (positive_of_value (odd 24 false (suc q) k 149) (suc q * 2 ^ k) (2 ^ 149) (odd_sign 24 false (suc q) k 149) (mul-pos
    (omega arith) (pow_pos k)))
    ∙ sym (ap not (ne_eqb (suc q) 0 (λ e. omega (arith, e))))

-- no float with the sign is above 0
signed_above : (x t : ℕ) → lt (float 0) (of_fields binary32 true x t) ≡ false
unfolding lt of_bits of_fields
signed_above zero t = odd_above true t 0
signed_above (suc x) t = go (eqb (suc x) 255) (eqb t 0)
  where
    go : (a b : Bool) → lt (float 0) (cond a (cond b (inf true) nan) (odd 24 true (8388608 + t) x 149)) ≡ false
    go true true = refl
    go true false = refl
    go false b = odd_above true (8388608 + t) x

-- without the sign, every finite float but 0 is above 0
plain_above : (x t : ℕ) → eqb x 255 ≡ false → not (lt (float 0) (of_fields binary32 false x t)) ≡ both (eqb x 0) (eqb t 0)
unfolding of_fields
plain_above zero t h = ap not (odd_above false t 0) ∙ not-not (eqb t 0)
plain_above (suc x) t h =
    let some : eqb (8388608 + t) 0 ≡ false = ne_eqb (8388608 + t) 0 (λ e. omega (arith, e)) in
    let more : eqb (suc x) 0 ≡ false = ne_eqb (suc x) 0 (λ e. omega (arith, e)) in
    simp (h, more) (ap not (odd_above false (8388608 + t) x ∙ ap not some))

-- ---- so the bits of a scale that is not refused are those from 1 to before an infinity's
zero_bits : (s : ℕ) → s < infinite → both (eqb (s % sign / 8388608) 0) (eqb (s % 8388608) 0) ≡ eqb s 0
zero_bits s h = go (eqb s 0) refl (eqb (s % sign / 8388608) 0) refl
  where
    go : (t : Bool) → eqb s 0 ≡ t → (u : Bool) → eqb (s % sign / 8388608) 0 ≡ u → both u (eqb (s % 8388608) 0) ≡ t
    go true e true f = let z = eqb-true s 0 e in eq-eqb (s % 8388608) 0 (omega arith)
    go true e false f = let z = eqb-true s 0 e in absurd (eqb-false (s % sign / 8388608) 0 f (omega arith))
    go false e true f =
        let x = eqb-true (s % sign / 8388608) 0 f in
        ne_eqb (s % 8388608) 0 (λ z. eqb-false s 0 e (omega (arith, z)))
    go false e false f = refl

pub scale_bits : (s : ℕ) → s < 4294967296 → either (not_finite s) (not_above0 s) ≡ either (eqb s 0) (leb infinite s)
unfolding of_bits
scale_bits s fits = go (leb infinite s) refl (leb sign s) refl
  where
    above : (t : Bool) → leb sign s ≡ t → not_above0 s ≡ not (lt (float 0) (of_fields binary32 t
        (s % sign / 8388608) (s % 8388608)))
    above t e = ap (λ (x : Bool). not (lt (float 0) (of_fields binary32 x (s % sign / 8388608) (s % 8388608)))) e

    go : (t : Bool) → leb infinite s ≡ t → (u : Bool) → leb sign s ≡ u → either (not_finite s) (not_above0 s) ≡ either (eqb s 0) t
    go true e true f =
        ap (λ (x : Bool). either (not_finite s) x) (above true f ∙ ap not (signed_above (s % sign / 8388608) (s % 8388608)))
        ∙ either_true (not_finite s)
        ∙ sym (either_true (eqb s 0))
    go true e false f =
        let l = leb-true infinite s e in
        let k = leb-false sign s f in
        let n : not_finite s ≡ true = not_finite_bits s ∙ le-leb infinite (s % sign) (omega arith) in
        ap (λ (x : Bool). either x (not_above0 s)) n ∙ sym (either_true (eqb s 0))
    go false e u f =
        let l = leb-false infinite s e in
        let n : not_finite s ≡ false = not_finite_bits s ∙ lt-leb infinite (s % sign) (omega arith) in
        let x : eqb (s % sign / 8388608) 255 ≡ false = field_test (s % sign) (omega arith) ∙ lt-leb infinite
        (s % sign) (omega arith) in
        ap (λ (y : Bool). either y (not_above0 s)) n
        ∙ above false (lt-leb sign s (omega arith))
        ∙ plain_above (s % sign / 8388608) (s % 8388608) x
        ∙ zero_bits s l
        ∙ sym (either_false (eqb s 0))

-- the three tests of 22, by bits
pub tests : (scale offset : ℕ) → scale < 4294967296
    → some_broken (value_checks scale offset) ≡ either (either (eqb scale 0) (leb infinite scale)) (leb infinite (offset % sign))
tests scale offset h =
    either-three (not_finite scale) (not_above0 scale) (not_finite offset)
    ∙ (λ i. either (scale_bits scale h i) (not_finite_bits offset i))

-- no NaN is finite
pub finite_no_nan : (bits : ℕ) → not_finite bits ≡ false → nan_bits binary32 bits ≡ false
finite_no_nan bits h =
    let k = leb-false infinite (bits % sign) (sym (not_finite_bits bits) ∙ h) in
    no_nan bits (omega arith)
