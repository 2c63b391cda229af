use Prim.Native.Nat.{◌-◌, ◌+◌}
use native.Mathlib.Omega.{arith}
use mathlib.Core.Path.{◌∙◌}
use Rattle.salvage_find.proofs.MarkLaws.{four-fetched, unmarked_more}
use Rattle.salvage_find.proofs.first_mark.Goals as goal

pub loop-i-preserved : goal.loop-i-preserved
loop-i-preserved c =
    let l = c.loop-i in
    let p = c.args.part.now in
    unmarked_more p l.i l.invariant
    (λ e. c.if-fetch-eq-DATA.false (c.fetch.ensures ∙ four-fetched p l.i (l.i + 4 - l.i) (omega arith) (omega arith) ∙ e))
