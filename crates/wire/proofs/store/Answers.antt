use native.Mathlib.Omega.{arith}
use mathlib.Core.Path.{sym, ◌∙◌}
use borrow.Author.Rules.{rules}
use Rattle.wire.proofs.NumberLaws.{stored-whole, stored_short}
use Rattle.wire.proofs.store.Goals as goal

pub overflow_add-place : goal.overflow_add-place
overflow_add-place g c = let n = g.met.N.Number.narrow in search (arith, rules)

pub returns-then-place-WIDTH : goal.returns-then-place-WIDTH
returns-then-place-WIDTH g c =
    let n = g.met.N.Number.narrow in
    c.put.ensures ∙ sym (stored-whole _ _ _ _ (omega (arith, n, c.WIDTH.ensures, c.if-place-WIDTH.true)))

pub returns-else-place-WIDTH : goal.returns-else-place-WIDTH
returns-else-place-WIDTH g c =
    let n = g.met.N.Number.narrow in
    sym (stored_short _ _ _ _ (omega (arith, n, c.WIDTH.ensures, c.if-place-WIDTH.false)))
