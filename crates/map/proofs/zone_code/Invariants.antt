use mathlib.Core.Path.{◌≡◌}
use Rattle.std.specs.Slice.Iter.{chunks_exact_size, chunks_exact_rest}
use Rattle.map_spec.specs.Map.{zone_size}
use Rattle.map.proofs.QueryLaws.{Looking}
use Rattle.map.proofs.zone_code.Given as goal

abbrev pub invariant-loop-bytes : goal.invariant-loop-bytes
invariant-loop-bytes l = (chunks_exact_size l.bytes-iterator ≡ zone_size) × Looking l.part l.kilometre (chunks_exact_rest l.bytes-iterator)
