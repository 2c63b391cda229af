use Prim.Native.Nat.{◌≤◌}
use mathlib.Core.Path.{◌≡◌}
use lib.ListN.{length}
use Rattle.map_spec.specs.Reading.{azimuth_part}
use Rattle.map_check.specs.Told.{run_step}
use Rattle.map_check.proofs.StepLaws.{walk}
use Rattle.map_check.proofs.check_azimuths.Given as goal

abbrev pub invariant-loop : goal.invariant-loop
invariant-loop l = (l.at ≤ length l.part) × (walk azimuth_part l.counter l.at l.part ≡ run_step azimuth_part l.count l.part)
