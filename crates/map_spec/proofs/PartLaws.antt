-- A part of a body, `drop p b`: whether a field of it is cut off, and its number by a fetch. Assumes nothing.
use Prim.Native.Nat.{ℕ, ◌+◌, ◌≤◌, ◌<◌}
use native.Mathlib.Nat.{add-zero}
use native.Mathlib.Omega.{arith}
use mathlib.Core.Path.{◌≡◌, sym, ap, ◌∙◌}
use mathlib.Core.Bool.{true, false}
use mathlib.Core.List.{List}
use lib.Dec.{ltb}
use lib.ListN.{length, drop, length-drop}
use lib.Seq.{drop-drop}
use borrow.Author.Tests.{lt-ltb, le-ltb}
use Rattle.wire.specs.Numbers.{num, fetched}
use Rattle.wire.proofs.NumberLaws.{num-drop, fetched-whole}
use Rattle.map_spec.specs.Reading.{value, after}

pub after-drop : (b : List ℕ) (p : ℕ) → after (drop p b) ≡ drop (p + 2) b
after-drop b p = drop-drop 2 p b

-- a field that begins at p
pub cut_off : (b : List ℕ) (p : ℕ) → length b < p + 2 → ltb (length (drop p b)) 2 ≡ true
cut_off b p h = let l : length (drop p b) < 2 = rw length-drop (omega arith) in lt-ltb (length (drop p b)) 2 l

pub in_full : (b : List ℕ) (p : ℕ) → p + 2 ≤ length b → ltb (length (drop p b)) 2 ≡ false
in_full b p h = let l : 2 ≤ length (drop p b) = rw length-drop (omega arith) in le-ltb (length (drop p b)) 2 l

pub fetched-value : (b : List ℕ) (p : ℕ) → p + 2 ≤ length b → fetched 2 b p ≡ value (drop p b)
fetched-value b p h = fetched-whole 2 b p h ∙ ap (λ (k : ℕ). num 2 b k) (sym (add-zero p)) ∙ sym (num-drop 2 b p 0)

-- ---- the field after it
module _ (b : List ℕ) (p : ℕ) where
  pub next-cut_off : length b < p + 4 → ltb (length (after (drop p b))) 2 ≡ true
  next-cut_off h = rw (after-drop b p) (cut_off b (p + 2) (omega arith))

  pub next_in_full : p + 4 ≤ length b → ltb (length (after (drop p b))) 2 ≡ false
  next_in_full h = rw (after-drop b p) (in_full b (p + 2) (omega arith))

  pub next_rest : after (after (drop p b)) ≡ drop (p + 4) b
  next_rest =
      let e : p + 2 + 2 ≡ p + 4 = omega arith in
      ap (λ (l : List ℕ). drop 2 l) (after-drop b p) ∙ drop-drop 2 (p + 2) b ∙ ap (λ (k : ℕ). drop k b) e
