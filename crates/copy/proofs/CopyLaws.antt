-- Laws of a copy: what it leaves by the two lengths, and what a copy block by block comes to. Assumes nothing.
use Prim.Native.Nat.{ℕ, ◌+◌, ◌-◌, ◌≤◌}
use native.Mathlib.Omega.{arith}
use mathlib.Core.Path.{◌≡◌, ap, ◌∙◌}
use mathlib.Core.List.{List, ◌++◌, append_assoc}
use lib.ListN.{length, take, drop, length-drop, length-append}
use lib.Seq.{take-add, take_at, drop_at, drop-drop, length-take-le}
use borrow.Author.Tests.{eq-eqb}
use Rattle.copy.specs.Copying.{copied}

pub copied-same : (from to : List ℕ) → length from ≡ length to → copied from to ≡ from
unfolding copied
copied-same from to h = simp (eq-eqb (length from) (length to) h)

-- so far copied: the first i of the one before the rest of the other
abbrev pub Copied : List ℕ → List ℕ → List ℕ → ℕ → Type 0
Copied from before to i = (i ≤ length before) × (to ≡ take i from ++ drop i before) × (length to ≡ length before)

-- a part more: the next n of the one in the place of the next n of the other
module _ (from before to : List ℕ) (i n : ℕ) (same : length from ≡ length before) (c : Copied from before to i)
    (room : i + n ≤ length before)
    (j k : ℕ) (ys : List ℕ) (some : j ≡ n) (gone : k ≡ n) (part : ys ≡ take j (drop i from)) where
  part_in : take i to ++ (ys ++ drop k (drop i to)) ≡ take (i + n) from ++ drop (i + n) before
  part_in =
      let l : length (take i from) ≡ i = length-take-le i from (omega arith) in
      let a : take i to ≡ take i from = ap (λ (x : List ℕ). take i x) c.1 ∙ take_at (take i from) (drop i before) i l in
      let b : drop i to ≡ drop i before = ap (λ (x : List ℕ). drop i x) c.1 ∙ drop_at (take i from) (drop i before) i l in
      rw (a, b, part, some, gone, take-add, append_assoc, drop-drop)

  part-long : length (take (i + n) from ++ drop (i + n) before) ≡ length before
  part-long =
      let a : length (take (i + n) from) ≡ i + n = length-take-le (i + n) from (omega arith) in
      let b : length (drop (i + n) before) ≡ length before - (i + n) = length-drop (i + n) before in
      length-append (take (i + n) from) (drop (i + n) before) ∙ omega (arith, a, b)

  pub part_turn : Copied from before (take i to ++ (ys ++ drop k (drop i to))) (i + n)
  part_turn = (room, part_in, ap length part_in ∙ part-long)

-- a whole block
pub block_turn : (from before to : List ℕ) (i n : ℕ) (ys : List ℕ) → length from ≡ length before → Copied from before to i
    → i + n ≤ length to
    → ys ≡ take (i + n - i) (drop i from)
    → Copied from before (take i to ++ (ys ++ drop (i + n - i) (drop i to))) (i + n)
block_turn from before to i n ys same c room part =
    let d : i + n - i ≡ n = omega arith in
    part_turn from before to i n same c (omega (arith, room, c.2)) (i + n - i) (i + n - i) ys d d part
