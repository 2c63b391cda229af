-- The cases, computed by the definitions themselves. Assumes nothing.
use mathlib.Core.Path.{refl}
use mathlib.Core.List.{flatten}
use Rattle.wire.specs.Numbers.{num}
use Rattle.header.specs.Header.{stored_in, header_in}
use Rattle.frame.specs.Walk.{turns}
use Rattle.salvage_spec.specs.Walk.{frames_of, runs_of}
use Rattle.salvage_spec.specs.Salvage.{numbers, salvage_of}
use Rattle.salvage_spec.specs.Cases.{Table}

pub table : Table
unfolding num stored_in header_in turns frames_of runs_of numbers salvage_of flatten
table = (
  (refl, refl),
  (
    (refl, refl),
    (
      (refl, refl),
      (
        (refl, refl),
        (
          (refl, refl),
          (
            (refl, refl),
            (
              (refl, refl),
              (
                (refl, refl),
                ((refl, refl), ((refl, refl), ((refl, refl), ((refl, refl), (refl, (refl, (refl, (refl, (refl, (refl, tt)))))))))),
              ),
            ),
          ),
        ),
      ),
    ),
  ),
)
