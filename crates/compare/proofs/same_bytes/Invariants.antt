use Prim.Native.Nat.{◌*◌}
use Rattle.map_spec.specs.Map.{zone_size}
use Rattle.compare.specs.Steps.{Same}
use Rattle.compare.proofs.same_bytes.Given as goal

abbrev pub invariant-loop-turn : goal.invariant-loop-turn
invariant-loop-turn l = Same (2 * zone_size * l.turn) l.old l.new
