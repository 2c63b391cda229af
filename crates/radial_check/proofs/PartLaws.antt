-- A block's checker is passed the block's first bytes, cut from the body. It answers as the rule does of the body. Assumes nothing.
use Prim.Native.Nat.{ℕ, ◌+◌, ◌≤◌}
use mathlib.Core.Path.{◌≡◌, ap, ◌∙◌}
use mathlib.Core.List.{List}
use native.Mathlib.Omega.{arith}
use lib.ListN.{length, drop}
use borrow.Author.Tests.{le-ltb}
use Rattle.radial_spec.specs.Description.{moment_head, constant_head, length_place}
use Rattle.radial_spec.specs.Refusal.{head_in, Head}
use Rattle.radial_head.specs.Told.{fetched_head, key_of}
use Rattle.radial_head.proofs.PartLaws.{there, there_number, head_there}
use Rattle.radial_check.specs.Steps.{constant_by, constant_step, moment_in, moment_step}

module _ (b : List ℕ) (z from p : ℕ) (after : from ≤ p) where
  pub constant_there : (q name least : ℕ) → p + constant_head ≤ length b → p + constant_head ≤ z
      → constant_by z p (there b p constant_head) name least
      ≡ constant_step q z from p (drop p b) name least
  constant_there q name least h room =
      simp (
        le-ltb p from after,
        le-ltb z (p + constant_head) room,
        there_number b p constant_head 4 0 h (omega arith),
        there_number b p constant_head 2 length_place h (omega arith),
      )

  pub moment_there : (seen : ℕ) → p + moment_head ≤ length b → p + moment_head ≤ z
      → moment_in z p (key_of (fetched_head (there b p moment_head))) seen ≡ moment_step z from p (key_of (head_in (drop p b))) seen
  moment_there seen h room =
      ap (λ (x : Head). moment_in z p (key_of x) seen) (head_there b p h) ∙ simp (le-ltb p from after, le-ltb z (p + moment_head) room)
