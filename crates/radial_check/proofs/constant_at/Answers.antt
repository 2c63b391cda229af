use native.Mathlib.Omega.{arith}
use mathlib.Core.Path.{◌∙◌}
use borrow.Author.Tests.{lt-ltb, le-ltb}
use Rattle.wire.proofs.NumberLaws.{number_is}
use Rattle.radial_check.proofs.PartLaws.{constant_there}
use Rattle.radial_check.proofs.constant_at.Goals as goal

pub returns-then-place-from : goal.returns-then-place-from
returns-then-place-from c =
    let points = number_is 4 _ _ _ c.fetch-pointer.ensures c.requires.1 in
    simp (points, lt-ltb _ _ c.if-place-from.true)

pub returns-then-size-end : goal.returns-then-size-end
returns-then-size-end c =
    let points = number_is 4 _ _ _ c.fetch-pointer.ensures c.requires.1 in
    simp (points, le-ltb _ _ c.if-place-from.false, lt-ltb _ _ c.if-size-end.true)

pub returns : goal.returns
returns c =
    let points = number_is 4 _ _ _ c.fetch-pointer.ensures c.requires.1 in
    let room = c.if-size-end.false in
    rw points (c.constant.ensures
    ∙ constant_there c.args.body.now _ _ _ c.if-place-from.false c.args.at _ _ (omega (arith, room, c.requires.0)) room)
