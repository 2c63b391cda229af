use borrow.Author.Rules.{rules}
use native.Mathlib.Omega.{arith}
use Rattle.salvage_find.specs.Steps.{block}
use Rattle.salvage_find.proofs.MarkLaws.{none_yet, none-joined, none_in_block}
use Rattle.salvage_find.proofs.next_mark.Goals as goal

pub loop-at-init : goal.loop-at-init
loop-at-init c = none_yet c.requires

pub overflow_add-at : goal.overflow_add-at
overflow_add-at c = search (rules, c.loop-at.invariant.within)

pub returns-then-may_begin : goal.returns-then-may_begin
returns-then-may_begin c =
    none-joined c.loop-at.invariant
    (none_in_block c.first_mark.result c.loop-at-test.true c.first_mark.ensures.0 c.first_mark.ensures.1)

pub loop-at-preserved : goal.loop-at-preserved
loop-at-preserved c =
    none-joined c.loop-at.invariant
    (none_in_block block c.loop-at-test.true (omega arith) (c.may_begin.ensures c.if-may_begin.false))

pub returns : goal.returns
returns c = c.loop-at.invariant
