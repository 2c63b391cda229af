use Rattle.radial_spec.proofs.Held.{number_given}
use Rattle.radial.proofs.accept.Goals as goal

pub invariant_of-result : goal.invariant_of-result
invariant_of-result c = record { accepted = number_given _ c.in_ok-check_radial.ensures }
