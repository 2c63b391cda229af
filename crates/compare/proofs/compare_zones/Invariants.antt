use Prim.Native.Nat.{◌-◌, ◌≤◌}
use mathlib.Core.Path.{◌≡◌}
use lib.ListN.{length}
use Rattle.map_spec.specs.Map.{kilometres, most_azimuth_size}
use Rattle.compare.proofs.TurnLaws.{Walking}
use Rattle.compare.proofs.compare_zones.Given as goal

abbrev pub invariant-loop-open : goal.invariant-loop-open
invariant-loop-open l =
    (l.i ≤ most_azimuth_size) × (l.j ≤ most_azimuth_size) × (l.open.next ≤ kilometres) × (length l.out ≡ length l.initial.out)
    × Walking l.old l.new l.place.elevation l.place.azimuth l.count l.initial.out l.out l.i l.j l.open.next l.open.first l.open.old l.open.new
    l.listed

abbrev pub decreases-loop-open : goal.decreases-loop-open
decreases-loop-open l = kilometres - l.open.next
