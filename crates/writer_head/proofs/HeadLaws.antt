-- A written header has three fields that go by the form, and its other fields between them. Assumes nothing.
use Prim.Native.Nat.{ℕ, ◌/◌, ◌%◌}
use mathlib.Core.Path.{◌≡◌, refl, sym, ap}
use mathlib.Core.Bool.{Bool, true, false}
use mathlib.Core.List.{List, [], ◌∷◌, ◌++◌}
use native.Mathlib.Omega.{arith}
use Rattle.wire.specs.Numbers.{be}
use Rattle.wire.specs.Checks.{pick}
use Rattle.wire.specs.Tables.{field, render}
use Rattle.wire.specs.Sizes.{doubled}
use Rattle.header_rule.specs.Rules.{too_large, long_mark}
use Rattle.header.specs.declared.Header.{Header}
use Rattle.header.specs.Header.{between, short_table, long_table, header_table}
use Rattle.writer_head.specs.Steps.{size_written, high_written, low_written}

-- four bytes are two halves
two_halves : (v : ℕ) → be 4 v ≡ be 2 (v / 65536) ++ be 2 (v % 65536)
two_halves v =
    let a : v / 256 / 256 / 256 % 256 ≡ v / 65536 / 256 % 256 = omega arith in
    let b : v / 256 / 256 % 256 ≡ v / 65536 % 256 = omega arith in
    let c : v / 256 % 256 ≡ v % 65536 / 256 % 256 = omega arith in
    let d : v % 256 ≡ v % 65536 % 256 = omega arith in
    λ i. a i ∷ b i ∷ c i ∷ d i ∷ []

pub header-bytes : (h : Header)
    → render (field 2 (size_written h.size) ∷ between h ++ (field 2 (high_written h.segments h.size)
    ∷ field 2 (low_written h.number h.size) ∷ []))
    ≡ render (header_table h)
header-bytes h = go (too_large h.size)
  where
    v : ℕ
    v = (doubled h.size).0

    go : (t : Bool)
        → render (field 2 (pick t long_mark.0 h.size.0) ∷ between h ++ (field 2 (pick t (v / 65536) h.segments)
        ∷ field 2 (pick t (v % 65536) h.number) ∷ []))
        ≡ render (pick t (long_table h) (short_table h))
    go true = ap (λ (l : List ℕ). render (field 2 long_mark.0 ∷ between h) ++ l) (sym (two_halves v))
    go false = refl
