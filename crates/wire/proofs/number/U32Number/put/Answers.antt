use Prim.Native.Nat.{suc, ◌+◌}
use native.Mathlib.Omega.{arith}
use mathlib.Core.Path.{◌≡◌}
use lib.ListN.{length-set}
use Rattle.wire.specs.Numbers.{be}
use Rattle.wire.proofs.SheetLaws.{laid_sets}
use Rattle.wire.proofs.number.U32Number.put.Goals as goal

pub returns : goal.returns
returns c =
    let e1 : c.args.at + 1 ≡ suc c.args.at = omega arith in
    let e2 : c.args.at + 2 ≡ suc (suc c.args.at) = omega arith in
    let e3 : c.args.at + 3 ≡ suc (suc (suc c.args.at)) = omega arith in
    rw (e1, e2, e3) (laid_sets (be 4 c.args.self) c.args.out.now c.args.at c.requires)

pub bounds-out-at-2 : goal.bounds-out-at-2
bounds-out-at-2 c = simp length-set (omega arith)

pub bounds-out-at-3 : goal.bounds-out-at-3
bounds-out-at-3 c = simp length-set (omega arith)

pub bounds-out-at-4 : goal.bounds-out-at-4
bounds-out-at-4 c = simp length-set (omega arith)
