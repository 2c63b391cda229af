use Prim.Native.Nat.{◌≤◌}
use mathlib.Core.Path.{◌≡◌}
use lib.ListN.{length}
use Rattle.map_spec.specs.Reading.{azimuth_part}
use Rattle.form_spec.specs.Parts.{run_size}
use Rattle.compare.proofs.pass.Given as goal

abbrev pub invariant-loop-count : goal.invariant-loop-count
invariant-loop-count l = (l.same ≤ length l.part) × (l.at ≤ l.same) × (l.at ≡ run_size azimuth_part l.count l.part)
