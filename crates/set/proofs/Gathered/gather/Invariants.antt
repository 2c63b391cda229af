use Rattle.set.proofs.GatherLaws.{Going}
use Prim.Native.Nat.{◌-◌}
use lib.ListN.{length}
use Rattle.set.proofs.Gathered.gather.Given as goal

abbrev pub invariant-loop-at : goal.invariant-loop-at
invariant-loop-at l = Going l.frames l.at l.self

abbrev pub decreases-loop-at : goal.decreases-loop-at
decreases-loop-at l = length l.frames - l.at
