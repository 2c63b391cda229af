use native.Mathlib.Omega.{arith}
use lib.ListN.{length-set}
use Rattle.salvage.proofs.LayLaws.{list_nothing, list_counted, list-laid}
use Rattle.salvage.proofs.list.Goals as goal

pub returns-then-first-next : goal.returns-then-first-next
returns-then-first-next c = let a = c.args in list_nothing a.runs.now a.count a.first a.next c.if-first-next.true

pub overflow_mul-at : goal.overflow_mul-at
overflow_mul-at c =
    let pre = c.requires in
    record { fits = omega (arith, pre.0, pre.1, pre.2) }

pub overflow_add-at : goal.overflow_add-at
overflow_add-at c =
    let pre = c.requires in
    record { fits = omega (arith, pre.0, pre.1, pre.2) }

pub returns-then-runs-at : goal.returns-then-runs-at
returns-then-runs-at c = let a = c.args in list_counted a.runs.now a.count a.first a.next
    c.if-first-next.false c.if-runs-at.true

pub bounds-runs-at-2 : goal.bounds-runs-at-2
bounds-runs-at-2 c = simp length-set (omega (arith, c.if-runs-at.false))

pub returns : goal.returns
returns c = let a = c.args in list-laid a.runs.now a.count a.first a.next c.if-first-next.false
    c.if-runs-at.false
