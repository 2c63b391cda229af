-- Floats by their 32 bits: a pattern that is a NaN's reads as the one NaN, which 0 / 0 is too. Assumes nothing.
use Prim.Native.Nat.{ℕ, ◌%◌, ◌<◌, ◌≤◌}
use mathlib.Core.Path.{◌≡◌, refl, sym, ◌∙◌}
use mathlib.Core.Bool.{true, false}
use lib.Ieee as Ieee
use lib.Ieee.{Float, nan, inf, fin, binary32, of_bits, nan_bits, is_nan, div}
use lib.Ieee.Bits.{nan_bits_above, nan_bits_is}
use borrow.Author.Tests.{lt-ltb, le-ltb}
use Rattle.wire.specs.Numbers.{infinite, sign}
use Rattle.wire.proofs.CheckLaws.{never}

pub zero_by_zero : div binary32 (of_bits binary32 0) (of_bits binary32 0) ≡ nan
unfolding of_bits Ieee.div Ieee.round Ieee.units Ieee.odd Ieee.size Ieee.span Ieee.climb Ieee.of_fields
zero_by_zero = refl

is_nan_lem : (x : Float) → is_nan x ≡ true → x ≡ nan
unfolding is_nan
is_nan_lem nan e = refl
is_nan_lem (inf s) e = never (cc e)
is_nan_lem (fin s m x) e = never (cc e)

pub nan_read : (n : ℕ) → infinite < n % sign → of_bits binary32 n ≡ nan
nan_read n h = is_nan_lem (of_bits binary32 n) (sym (nan_bits_is binary32 n) ∙ nan_bits_above binary32 n ∙ lt-ltb infinite (n % sign) h)

pub no_nan : (n : ℕ) → n % sign ≤ infinite → nan_bits binary32 n ≡ false
no_nan n h = nan_bits_above binary32 n ∙ le-ltb infinite (n % sign) h
