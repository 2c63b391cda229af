use native.Mathlib.Omega.{arith}
use lib.ListN.{length-set}
use Rattle.compare.proofs.SheetLaws.{six_stored}
use Rattle.compare.proofs.put.Goals as goal

pub bounds-out-4 : goal.bounds-out-4
bounds-out-4 c = simp length-set (omega (arith, c.requires.0))

pub bounds-out-5 : goal.bounds-out-5
bounds-out-5 c = simp length-set (omega (arith, c.requires.0))

pub returns : goal.returns
returns c = six_stored c.args.out.now _ _ _ _ _ _ c.requires.0
