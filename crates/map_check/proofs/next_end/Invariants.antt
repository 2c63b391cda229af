use Prim.Native.Nat.{◌-◌}
use lib.ListN.{length}
use Rattle.map_check.proofs.RisingLaws.{Rising}
use Rattle.map_check.proofs.next_end.Given as goal

abbrev pub invariant-loop-at : goal.invariant-loop-at
invariant-loop-at l = Rising l.zones l.zone l.from l.at

abbrev pub decreases-loop-at : goal.decreases-loop-at
decreases-loop-at l = length l.zones - l.at
