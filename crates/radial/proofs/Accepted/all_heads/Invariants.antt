use Rattle.radial.proofs.HeadLaws.{Filling}
use Rattle.radial.proofs.Accepted.all_heads.Given as goal

abbrev pub invariant-loop-i : goal.invariant-loop-i
invariant-loop-i l = Filling l.self.body.now l.count l.heads l.i
