use Rattle.radial_gates.proofs.GatesLaws.{located-given}
use Rattle.radial_gates.proofs.locate.Goals as goal

pub returns : goal.returns
returns c = located-given _ _ c.in_ok-head.head c.moment_size.result (λ i. (c.type_inv.body i).fits) c.in_ok-head.ensures c.moment_size.ensures
