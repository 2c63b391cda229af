use Prim.Native.Nat.{ℕ, ◌+◌, ◌*◌, ◌<◌}
use native.Mathlib.Omega.{arith}
use mathlib.Core.Path.{◌≡◌}
use mathlib.Core.List.{List}
use Rattle.wire.specs.Numbers.{fetched}
use Rattle.radial_spec.specs.Description.{first_pointer}
use Rattle.radial_spec.specs.Refusal.{pointer}
use Rattle.radial_spec.proofs.Held.{held}
use Rattle.radial_head.proofs.PartLaws.{there, pointer_there}
use Rattle.radial.proofs.StepLaws.{Searching, search_begins, pointer-inside, block_held, search-found, search-on}
use Rattle.radial.proofs.Accepted.moment_place.Goals as goal

-- the place that was fetched is where the pointer of block k points
pointed : (b : List ℕ) (name n k p : ℕ) → Searching b name n k → k < n → p ≡ fetched 4 (there b (first_pointer + 4 * k) 4) 0
    → pointer b (first_pointer + 4 * k) ≡ p
pointed b name n k p s more e = pointer_there b (first_pointer + 4 * k) p (pointer-inside b name n k s more) e

pub loop-k-init : goal.loop-k-init
loop-k-init c = search_begins c.args.self.body.now c.args.name _ (held _ _ c.args.self.accepted) c.count-count.ensures.is

pub returns-then-fetch-name : goal.returns-then-fetch-name
returns-then-fetch-name c =
    let points = pointed _ _ _ _ _ c.loop-k.invariant c.loop-k-test.true c.fetch-place.ensures in
    search-found _ _ _ _ c.loop-k.invariant c.loop-k-test.true _ _ points c.fetch.ensures c.if-fetch-name.true

pub loop-k-preserved : goal.loop-k-preserved
loop-k-preserved c =
    let points = pointed _ _ _ _ _ c.loop-k.invariant c.loop-k-test.true c.fetch-place.ensures in
    search-on _ _ _ _ c.loop-k.invariant c.loop-k-test.true _ _ points c.fetch.ensures c.if-fetch-name.false

pub slice_bounds-fetch-end-in-loop-k : goal.slice_bounds-fetch-end-in-loop-k
slice_bounds-fetch-end-in-loop-k c =
    let points = pointed _ _ _ _ _ c.loop-k.invariant c.loop-k-test.true c.fetch-place.ensures in
    omega (arith, points, (block_held _ _ _ _ c.loop-k.invariant c.loop-k-test.true).inside)
