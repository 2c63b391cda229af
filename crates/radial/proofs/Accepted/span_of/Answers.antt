use Prim.Native.Nat.{ℕ, ◌+◌, ◌≤◌}
use mathlib.Core.Path.{◌≡◌}
use mathlib.Core.List.{List}
use lib.ListN.{length}
use Rattle.wire.proofs.NumberLaws.{number_is}
use Rattle.radial_spec.specs.Description.{constant_head}
use Rattle.radial_spec.specs.Refusal.{pointer}
use Rattle.radial_spec.proofs.Held.{held}
use Rattle.radial.proofs.PartLaws.{span_cut}
use Rattle.radial.proofs.HeadLaws.{Constant, constant_held}
use Rattle.radial.proofs.Accepted.span_of.Goals as goal

-- the head of the block that the pointer points at is in the body
inside : (b : List ℕ) (q p : ℕ) → pointer b q ≡ p → Constant b q → p + constant_head ≤ length b
inside b q p points h = rw (← points) h.held.inside

pub returns : goal.returns
returns c =
    let h = constant_held _ _ (held _ _ c.args.self.accepted) c.requires in
    let points = number_is 4 _ _ _ c.fetch-place.ensures h.points in
    span_cut c.args.self.body.now c.args.at _ _ points (inside _ _ _ points h) c.fetch.ensures

pub slice_bounds-fetch-end : goal.slice_bounds-fetch-end
slice_bounds-fetch-end c =
    let h = constant_held _ _ (held _ _ c.args.self.accepted) c.requires in
    inside c.args.self.body.now c.args.at _ (number_is 4 _ _ _ c.fetch-place.ensures h.points) h
