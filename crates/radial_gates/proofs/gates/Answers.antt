use mathlib.Core.Path.{refl}
use native.Mathlib.Omega.{arith}
use Rattle.radial_gates.proofs.GatesLaws.{located-part, refused-part}
use Rattle.radial_gates.proofs.gates.Goals as goal

pub returns-in-Ok : goal.returns-in-Ok
returns-in-Ok c = rw (← (located-part _ _ c.in-Ok.found c.in-Ok.ensures.is).2) c.part.ensures

pub returns-in-Err : goal.returns-in-Err
returns-in-Err c =
    rw (← (refused-part _ _ _ c.in-Err.ensures.is).2) (record { memory = refl; place = omega arith; size = refl; bytes = refl })
