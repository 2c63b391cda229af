use mathlib.Core.Path.{◌≡◌}
use mathlib.Core.Bool.{false}
use Rattle.salvage_find.specs.Steps.{Unmarked}
use Rattle.salvage_find.proofs.may_begin.Given as goal

abbrev pub invariant-loop-i : goal.invariant-loop-i
invariant-loop-i l = l.any ≡ false → Unmarked l.i l.part
