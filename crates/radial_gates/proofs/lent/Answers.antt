use mathlib.Core.Path.{refl, sym, ◌∙◌}
use native.Mathlib.Omega.{arith}
use Rattle.radial_gates.proofs.GatesLaws.{located-part, refused-part}
use Rattle.radial_gates.proofs.lent.Goals as goal

pub returns-in-Ok : goal.returns-in-Ok
returns-in-Ok c =
    let l = located-part _ _ c.in-Ok.found c.in-Ok.ensures.is in
    record { number = sym l.0; gates = l.1; part = rw (← l.2) c.part.ensures }

pub returns-in-Err : goal.returns-in-Err
returns-in-Err c =
    let l = refused-part _ _ _ c.in-Err.ensures.is in
    record {
      number = c.number.ensures ∙ sym l.0;
      gates = sym l.1;
      part = rw (← l.2) (record { memory = refl; place = omega arith; size = refl; bytes = refl });
    }
