-- What a code is worth, by whether a test of 22 is broken. Assumes nothing.
use Prim.Native.Nat.{ℕ}
use mathlib.Core.Path.{◌≡◌, refl, sym, ap, ◌∙◌}
use mathlib.Core.Bool.{Bool, true, false}
use mathlib.Core.List.{[]}
use lib.Ieee.{Float}
use Rattle.wire.specs.Checks.{pick, some_broken}
use Rattle.wire.specs.Answers.{Answer, refused, given}
use Rattle.wire.proofs.CheckLaws.{decide-same}
use Rattle.gate_value.specs.Value.{float, Worth, value_checks, worth_by, worth_of, value_of}

module _ (code scale offset : ℕ) where
  by_tests : (t : Bool) → some_broken (value_checks scale offset) ≡ t
      → value_of code scale offset ≡ pick t (refused 22) (given (worth_of code scale offset))
  unfolding value_of
  by_tests t e =
      decide-same 22 (value_checks scale offset) [] refused (given (worth_of code scale offset)) (refl, (refl, (refl, tt)))
      ∙ ap (λ (x : Bool). pick {X = Answer Worth} x (refused 22) (given (worth_of code scale offset))) e

  pub value-refused : some_broken (value_checks scale offset) ≡ true → refused 22 ≡ value_of code scale offset
  value-refused e = sym (by_tests true e)

  -- s and o are the floats of these bits
  pub value-given : (s o : Float) → some_broken (value_checks scale offset) ≡ false → s ≡ float scale → o ≡ float offset
      → given (worth_by code s o) ≡ value_of code scale offset
  value-given s o e p q = (λ i. given (worth_by code (p i) (q i))) ∙ sym (by_tests false e)
