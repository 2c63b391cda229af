use Prim.Native.Nat.{◌*◌, ◌-◌, ◌≤◌}
use mathlib.Core.Path.{◌≡◌}
use lib.ListN.{length}
use Rattle.map_spec.specs.Map.{azimuths, most_elevations}
use Rattle.compare.proofs.AzimuthWalk.{Reached}
use Rattle.compare.proofs.compare_azimuths.Given as goal

abbrev pub invariant-loop-index : goal.invariant-loop-index
invariant-loop-index l =
    (l.elevations ≤ most_elevations) × (l.total ≡ azimuths * l.elevations) × (l.index ≤ l.total) × (l.i ≤ length l.old) × (l.j ≤ length l.new)
    × (length l.out ≡ length l.initial.out) × Reached l.old l.new l.initial.out l.index l.out l.i l.j l.count

abbrev pub decreases-loop-index : goal.decreases-loop-index
decreases-loop-index l = l.total - l.index
