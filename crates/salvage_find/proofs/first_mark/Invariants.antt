use Rattle.salvage_find.specs.Steps.{Unmarked}
use Rattle.salvage_find.proofs.first_mark.Given as goal

abbrev pub invariant-loop-i : goal.invariant-loop-i
invariant-loop-i l = Unmarked l.i l.part
