-- The cases, computed by the definitions themselves. Assumes nothing.
use mathlib.Core.Path.{refl}
use mathlib.Core.List.{flatten}
use Rattle.form_spec.specs.Parts.{run_size, run_checks, run_in}
use Rattle.wire.specs.Numbers.{num}
use Rattle.map_spec.specs.Map.{code_from}
use Rattle.map_spec.specs.Reading.{zones_checks, zones_in}
use Rattle.compare_spec.specs.Differences.{stretches, in_order}
use Rattle.compare_spec.specs.Comparing.{halfwords}
use Rattle.compare_spec.specs.Cases.{Table}

pub table : Table
unfolding num code_from zones_checks zones_in run_size run_checks run_in stretches in_order halfwords flatten
table = (
  refl,
  (
    refl,
    (
      refl,
      (refl, (refl, (refl, (refl, (refl, (refl, (refl, (refl, (refl, (refl, (refl, (refl, (refl, (refl, (refl, tt))))))))))))))),
    ),
  ),
)
