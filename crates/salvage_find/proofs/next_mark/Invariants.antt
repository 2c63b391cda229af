use Prim.Native.Nat.{◌-◌}
use lib.ListN.{length}
use Rattle.salvage_find.specs.Steps.{NoneFrom}
use Rattle.salvage_find.proofs.next_mark.Given as goal

abbrev pub invariant-loop-at : goal.invariant-loop-at
invariant-loop-at l = NoneFrom l.buf l.from l.at

abbrev pub decreases-loop-at : goal.decreases-loop-at
decreases-loop-at l = length l.buf - l.at
