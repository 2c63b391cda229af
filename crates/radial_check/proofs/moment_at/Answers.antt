use native.Mathlib.Omega.{arith}
use mathlib.Core.Path.{◌∙◌}
use borrow.Author.Tests.{lt-ltb, le-ltb}
use Rattle.radial_head.proofs.PartLaws.{pointer_there}
use Rattle.radial_check.proofs.PartLaws.{moment_there}
use Rattle.radial_check.proofs.moment_at.Goals as goal

pub returns-then-place-from : goal.returns-then-place-from
returns-then-place-from c =
    let points = pointer_there _ _ _ c.requires.1 c.fetch-pointer.ensures in
    simp (points, lt-ltb _ _ c.if-place-from.true)

pub returns-then-size-end : goal.returns-then-size-end
returns-then-size-end c =
    let points = pointer_there _ _ _ c.requires.1 c.fetch-pointer.ensures in
    simp (points, le-ltb _ _ c.if-place-from.false, lt-ltb _ _ c.if-size-end.true)

pub returns : goal.returns
returns c =
    let points = pointer_there _ _ _ c.requires.1 c.fetch-pointer.ensures in
    let room = c.if-size-end.false in
    rw points (c.moment_in.ensures
    ∙ moment_there c.args.body.now _ _ _ c.if-place-from.false c.args.seen (omega (arith, room, c.requires.0)) room)
