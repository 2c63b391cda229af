-- One rounded subtraction and one rounded division of finite numbers, the divisor above 0, give no NaN. Assumes nothing.
use Prim.Native.Nat.{ℕ, zero, suc, ◌+◌, ◌-◌, ◌*◌, ◌/◌, ◌%◌, ◌^◌, compare}
use mathlib.Core.Path.{◌≡◌, refl}
use mathlib.Core.Bool.{Bool, true, false, not, cond, ◌&&◌, beq}
use native.Mathlib.Nat.{zero-mul}
use lib.Dec.{ltb, eqb, eqb-suc-zero}
use lib.IntN.{ℤ, pos}
use lib.Ieee.{Float, nan, inf, fin, binary32, unlike, up, down, low, prec, emax, size, nearest, odd, units, round, neg, sum, add, sub}
use lib.Ieee.{div, lt, of_int, of_bits, of_fields, is_nan}
use lib.Ieee.Scale.{finite}
use borrow.Author.Tests.{not-false}
use Rattle.wire.specs.Checks.{pick}
use Rattle.wire.proofs.CheckLaws.{never, all_hold}
use Rattle.wire.proofs.AnswerLaws.{rule_given}
use Rattle.gate_value.specs.Value.{float, value_checks, below_threshold, range_folded, worth, scaled, worth_of, value_of}
use Rattle.gate_value.specs.Theorems.{NeverNan}

odd_no_nan : (d : ℕ) (s : Bool) (q k l : ℕ) → is_nan (odd d s q k l) ≡ false
unfolding odd is_nan
odd_no_nan d s zero k l = refl
odd_no_nan d s (suc q) k l = refl

cond_no_nan : (t : Bool) (x y : Float) → is_nan x ≡ false → is_nan y ≡ false → is_nan (cond t x y) ≡ false
cond_no_nan true x y h k = h
cond_no_nan false x y h k = k

inf_no_nan : (s : Bool) → is_nan (inf s) ≡ false
unfolding is_nan
inf_no_nan s = refl

units_no_nan : (s : Bool) (q k : ℕ) → is_nan (units binary32 s q k) ≡ false
unfolding units
units_no_nan s q k =
    cond_no_nan (ltb (q * 2 ^ k) (2 ^ (low binary32 + suc (emax binary32)))) (odd 25 s q k 149) (inf s) (odd_no_nan 25 s q k 149)
    (inf_no_nan s)

round_no_nan : (s : Bool) (n d : ℕ) → is_nan (round binary32 s n d) ≡ false
unfolding round
round_no_nan s n d =
    let m = n * 2 ^ low binary32 in
    let k = size (m / d) - prec binary32 in
    let u = d * 2 ^ k in
    units_no_nan s (nearest (m / u) (compare (m % u * 2) u)) k

sum_no_nan : (s : Bool) (a : ℕ) (t : Bool) (b c : ℕ) → is_nan (sum binary32 s a t b c) ≡ false
unfolding sum
sum_no_nan s a t b c =
    cond_no_nan (beq s t) (round binary32 s (a + b) c) (cond (ltb a b) (round binary32 t (b - a) c)
    (round binary32 (s && ltb b a) (a - b) c))
    (round_no_nan s (a + b) c)
    (cond_no_nan (ltb a b) (round binary32 t (b - a) c) (round binary32 (s && ltb b a) (a - b) c) (round_no_nan t (b - a) c)
    (round_no_nan (s && ltb b a) (a - b) c))

-- a number minus a finite one is no NaN
sub_no_nan : (x y : Float) → is_nan x ≡ false → finite y ≡ true → is_nan (sub binary32 x y) ≡ false
unfolding sub add neg is_nan
sub_no_nan nan y h k = never (cc h)
sub_no_nan (inf s) nan h k = never (cc k)
sub_no_nan (inf s) (inf t) h k = never (cc k)
sub_no_nan (inf s) (fin t n d) h k = refl
sub_no_nan (fin s m e) nan h k = never (cc k)
sub_no_nan (fin s m e) (inf t) h k = never (cc k)
sub_no_nan (fin s m e) (fin t n d) h k = sum_no_nan s (m * up e * down d) (not t) (n * up d * down e) (down e * down d)

-- a number divided by a finite one that is not 0 is no NaN
div_no_nan : (x : Float) (t : Bool) (n : ℕ) (d : ℤ) → is_nan x ≡ false → is_nan (div binary32 x (fin t (suc n) d)) ≡ false
unfolding div is_nan
div_no_nan nan t n d h = never (cc h)
div_no_nan (inf s) t n d h = refl
div_no_nan (fin s m e) t n d h = rw (eqb-suc-zero n) (round_no_nan (unlike s t) (m * up e * down d) (suc n * up d * down e))

-- nor is one divided by a finite one above 0
above_not_zero : (x y : Float) → is_nan x ≡ false → finite y ≡ true → lt (float 0) y ≡ true → is_nan (div binary32 x y) ≡ false
unfolding lt of_bits of_fields odd
above_not_zero x nan h k p = never (cc k)
above_not_zero x (inf t) h k p = never (cc k)
above_not_zero x (fin false zero d) h k p = never (cc (simp zero-mul at p))
above_not_zero x (fin true zero d) h k p = never (cc p)
above_not_zero x (fin t (suc n) d) h k p = div_no_nan x t n d h

int_no_nan : (code : ℕ) → is_nan (of_int binary32 (pos code)) ≡ false
unfolding of_int
int_no_nan code = round_no_nan false code 1

worth_is : (a b : Bool) (v w : Float) → pick a below_threshold (pick b range_folded (worth v)) ≡ worth w → v ≡ w
worth_is true b v w e = never (cc e)
worth_is false true v w e = never (cc e)
worth_is false false v w e = cc e

pub never_nan : NeverNan
unfolding value_of
never_nan code scale offset v e =
    let p = rule_given (value_checks scale offset) (worth_of code scale offset) (worth v) e in
    let h = all_hold (value_checks scale offset) p.0 in
    let w : scaled code (float scale) (float offset)
    ≡ v = worth_is (eqb code 0) (eqb code 1) (scaled code (float scale) (float offset)) v p.1 in
    rw (← w)
    (above_not_zero (sub binary32 (of_int binary32 (pos code)) (float offset)) (float scale)
    (sub_no_nan (of_int binary32 (pos code)) (float offset) (int_no_nan code) (not-false (finite (float offset)) h.1.1.0))
    (not-false (finite (float scale)) h.0)
    (not-false (lt (float 0) (float scale)) h.1.0))
