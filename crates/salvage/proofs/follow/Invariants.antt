use Prim.Native.Nat.{◌-◌}
use lib.ListN.{length}
use Rattle.salvage.specs.Steps.{Frames}
use Rattle.salvage.proofs.follow.Given as goal

abbrev pub invariant-loop-long : goal.invariant-loop-long
invariant-loop-long l = Frames l.buf l.place l.next l.frames

abbrev pub decreases-loop-long : goal.decreases-loop-long
decreases-loop-long l = length l.buf - l.next
