use mathlib.Core.Path.{◌≡◌}
use lib.ListN.{take}
use Rattle.wire.specs.Tables.{run}
use Rattle.wire.specs.Writing.{filled}
use Rattle.censor.proofs.put_all.Given as goal

-- the first i numbers are written
abbrev pub invariant-loop-i : goal.invariant-loop-i
invariant-loop-i l = l.out ≡ filled (run 2 (take l.i l.list)) l.initial.out
