-- The heads of blocks are cut from the body. What is read there is what the description says. Assumes nothing.
use Prim.Native.Nat.{ℕ, ◌+◌, ◌≤◌}
use mathlib.Core.Path.{◌≡◌, sym, ap, ◌∙◌}
use mathlib.Core.List.{List}
use native.Mathlib.Omega.{arith}
use lib.ListN.{length, drop}
use Rattle.wire.specs.Numbers.{fetched}
use Rattle.radial_spec.specs.Description.{constant_head, moment_head, length_place}
use Rattle.radial_spec.specs.Refusal.{Head, pointer, name_in, block_says}
use Rattle.radial_spec.proofs.Blocks.{head_is}
use Rattle.radial_head.specs.declared.MomentHead.{MomentHead}
use Rattle.radial_head.specs.Told.{fetched_head, head_told}
use Rattle.radial_head.proofs.PartLaws.{there, there_number, head_there}
use Rattle.radial.specs.Steps.{span_at, head_at}

-- a block's name
pub name_cut : (b : List ℕ) (p r : ℕ) → p + 4 ≤ length b → r ≡ fetched 4 (there b p 4) 0 → r ≡ name_in (drop p b)
name_cut b p r h e = e ∙ there_number b p 4 4 0 h (omega arith)

-- where a constant block lies
pub span_cut : (b : List ℕ) (q p r : ℕ) → pointer b q ≡ p → p + constant_head ≤ length b → r ≡ fetched 2 (there b p constant_head) length_place
    → record { place = p; length = r } ≡ span_at b q
span_cut b q p r e h f =
    let says = f ∙ there_number b p constant_head 2 length_place h (omega arith) ∙ ap (λ (k : ℕ). block_says (drop k b)) (sym e) in
    λ i. record { place = sym e i; length = says i }

-- a moment's head
pub head_cut : (b : List ℕ) (p : ℕ) (h : MomentHead) → p + moment_head ≤ length b → h ≡ head_told p (fetched_head (there b p moment_head))
    → h ≡ head_at b p
head_cut b p h l e = e ∙ ap (λ (x : Head). head_told p x) (head_there b p l ∙ sym (head_is p (drop p b)))
