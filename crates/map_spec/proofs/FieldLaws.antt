-- Laws of one halfword field, and of tests joined. Assumes nothing.
use Prim.Native.Nat.{ℕ, ◌≤◌}
use native.Mathlib.Omega.{arith}
use mathlib.Core.Path.{◌≡◌, ap, ◌∙◌}
use mathlib.Core.Bool.{Bool, true, false}
use mathlib.Core.List.{List, ◌++◌}
use lib.ListN.{length, drop, take-append-drop}
use Rattle.wire.specs.Numbers.{num, be, Octets}
use Rattle.wire.specs.Checks.{both}
use Rattle.wire.proofs.NumberLaws.{num-be, be-num}
use Rattle.wire.proofs.CheckLaws.{never}

-- ---- a field: what is read, written, is what stood there; what is written is read back
pub field_back : (b : List ℕ) → Octets b → 2 ≤ length b → be 2 (num 2 b 0) ++ drop 2 b ≡ b
field_back b o h = ap (λ (l : List ℕ). l ++ drop 2 b) (be-num 2 b 0 o h) ∙ take-append-drop 2 b

pub value_of : (v : ℕ) (t : List ℕ) → v ≤ 65535 → num 2 (be 2 v ++ t) 0 ≡ v
value_of v t h = num-be 2 v t (omega arith)

-- ---- tests joined
pub both_rest : (a b : Bool) → a ≡ true → both a b ≡ false → b ≡ false
both_rest true b p e = e
both_rest false b p e = never (cc p)
