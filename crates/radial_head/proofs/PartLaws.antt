-- The first bytes of a block, cut from the body: what is read there is what stands in the body. Assumes nothing.
use Prim.Native.Nat.{ℕ, ◌+◌, ◌-◌, ◌≤◌}
use mathlib.Core.Path.{◌≡◌, refl, sym, ap, ◌∙◌}
use mathlib.Core.Bool.{true}
use mathlib.Core.List.{List}
use native.Mathlib.Nat.{add-zero}
use native.Mathlib.Omega.{arith}
use lib.Dec.{leb}
use lib.ListN.{length, take, drop}
use borrow.Author.Tests.{leb-true}
use Rattle.wire.specs.Numbers.{num, fetched}
use Rattle.wire.proofs.NumberLaws.{cut_is, num-drop}
use Rattle.radial_spec.specs.Description.{moment_head}
use Rattle.radial_spec.specs.Refusal.{head_by, head_in, pointer}
use Rattle.radial_head.specs.Told.{fetched_head}

-- ---- the first n bytes of the block at p
abbrev pub there : List ℕ → ℕ → ℕ → List ℕ
there b p n = take (p + n - p) (drop p b)

-- a fetch from them gives the number there
pub there_number : (b : List ℕ) (p n w k : ℕ) → p + n ≤ length b → k + w ≤ n → fetched w (there b p n) k ≡ num w (drop p b) k
there_number b p n w k h l = cut_is w (p + n - p) b p k (fetched w (there b p n) k) (omega arith) (omega arith) refl ∙ sym
    (num-drop w b p k)

-- a pointer from four bytes of its own
pub pointer_there : (b : List ℕ) (q r : ℕ) → q + 4 ≤ length b → r ≡ fetched 4 (there b q 4) 0 → pointer b q ≡ r
pointer_there b q r h e = sym (cut_is 4 (q + 4 - q) b q 0 r (omega arith) (omega arith) e ∙ ap (pointer b) (add-zero q))

-- two ways to read that agree within the first 28 bytes read the same head
head-same : (f g : ℕ → ℕ → ℕ) → ((w k : ℕ) → leb (k + w) moment_head ≡ true → f w k ≡ g w k) → head_by f ≡ head_by g
head-same f g e = λ i. record {
  name = e 4 0 refl i;
  reserved = e 4 4 refl i;
  gates = e 2 8 refl i;
  first = e 2 10 refl i;
  interval = e 2 12 refl i;
  overlay = e 2 14 refl i;
  noise = e 2 16 refl i;
  flags = e 1 18 refl i;
  word = e 1 19 refl i;
  scale = e 4 20 refl i;
  offset = e 4 24 refl i;
}

pub head_there : (b : List ℕ) (p : ℕ) → p + moment_head ≤ length b → fetched_head (there b p moment_head) ≡ head_in (drop p b)
head_there b p h =
    head-same (λ w k. fetched w (there b p moment_head) k) (λ w k. num w (drop p b) k)
    (λ w k l. there_number b p moment_head w k h (leb-true (k + w) moment_head l))
