use native.Mathlib.Omega.{arith}
use mathlib.Core.Path.{refl}
use Rattle.std.proofs.lemmas.List.{get_or-take}
use Rattle.set.specs.Steps.{nowhere, parts_long, parts}
use Rattle.set.proofs.ArrayLaws.{next_fits, join_more}
use Rattle.set.proofs.Gathered.join.Goals as goal

pub loop-part-init : goal.loop-part-init
unfolding parts_long parts
loop-part-init c = record { up_to = omega arith; filled = refl; long = refl; holds = refl }

pub overflow_add-next : goal.overflow_add-next
overflow_add-next c =
    omega (arith, next_fits c.requires c.loop-part.invariant (omega arith) (get_or-take c.args.n c.args.self.now.parts c.loop-part.part-index nowhere (omega arith)))

pub slice_bounds-copy-end : goal.slice_bounds-copy-end
slice_bounds-copy-end c =
    omega (arith, next_fits c.requires c.loop-part.invariant (omega arith) (get_or-take c.args.n c.args.self.now.parts c.loop-part.part-index nowhere (omega arith)))

pub loop-part-preserved : goal.loop-part-preserved
loop-part-preserved c =
    join_more c.requires c.loop-part.invariant (omega arith) (get_or-take c.args.n c.args.self.now.parts c.loop-part.part-index nowhere (omega arith)) c.copy.ensures
