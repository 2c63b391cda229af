use Rattle.radial_check.proofs.LoopLaws.{Going}
use Rattle.radial_check.proofs.all_moments.Given as goal

abbrev pub invariant-loop-i : goal.invariant-loop-i
invariant-loop-i l = Going l.body l.size l.first l.count l.seen l.from l.i
