use Rattle.radial.proofs.StepLaws.{Searching}
use Rattle.radial.proofs.Accepted.moment_place.Given as goal

abbrev pub invariant-loop-k : goal.invariant-loop-k
invariant-loop-k l = Searching l.self.body.now l.name l.count l.k
