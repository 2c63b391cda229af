use native.Mathlib.Omega.{arith}
use mathlib.Core.Path.{sym, ◌∙◌}
use borrow.Author.Rules.{rules}
use Rattle.wire.proofs.NumberLaws.{fetched-whole, fetched_short}
use Rattle.wire.proofs.fetch.Goals as goal

pub overflow_add-place : goal.overflow_add-place
overflow_add-place g c = let n = g.met.N.Number.narrow in search (arith, rules)

pub returns-then-place-WIDTH : goal.returns-then-place-WIDTH
returns-then-place-WIDTH g c =
    let n = g.met.N.Number.narrow in
    c.whole.ensures ∙ sym (fetched-whole _ _ _ (omega (arith, n, c.WIDTH.ensures, c.if-place-WIDTH.true)))

pub returns : goal.returns
returns g c =
    let n = g.met.N.Number.narrow in
    c.zero.ensures ∙ sym (fetched_short _ _ _ (omega (arith, n, c.WIDTH.ensures, c.if-place-WIDTH.false)))
