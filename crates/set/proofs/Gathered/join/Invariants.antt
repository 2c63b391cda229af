use Rattle.set.proofs.ArrayLaws.{Joining}
use Rattle.set.proofs.Gathered.join.Given as goal

abbrev pub invariant-loop-part : goal.invariant-loop-part
invariant-loop-part l = Joining l.frames l.self l.n l.initial.out l.out l.place l.part-index
