use borrow.Author.Rules.{rules}
use Prim.Native.Nat.{◌+◌, ◌-◌}
use lib.ListN.{length}
use native.Mathlib.Omega.{arith}
use mathlib.Core.Path.{sym}
use Rattle.wire.proofs.SheetLaws.{lay-none}
use Rattle.salvage.proofs.LayLaws.{put-laid}
use Rattle.salvage.proofs.put.Goals as goal

pub returns-then-out-end : goal.returns-then-out-end
returns-then-out-end c = let a = c.args in sym (lay-none a.bytes.now a.long a.out.now c.if-out-end.true)

pub returns : goal.returns
returns c =
    let copy = c.copy in
    let a = c.args in
    put-laid a.out.now a.bytes.now a.long (a.long + length a.bytes.now - a.long) _ (omega arith)
    (search rules) copy.ensures
