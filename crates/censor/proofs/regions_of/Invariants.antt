use Prim.Native.Nat.{◌-◌}
use mathlib.Core.List.{◌++◌}
use mathlib.Core.Path.{◌≡◌}
use lib.ListN.{replicate}
use Rattle.wire.specs.Numbers.{nums}
use Rattle.censor.specs.Told.{places}
use Rattle.censor.proofs.regions_of.Given as goal

abbrev pub invariant-loop-i : goal.invariant-loop-i
invariant-loop-i l = l.regions ≡ nums 2 l.body 2 l.i ++ replicate (places - l.i) 0
