use mathlib.Core.Path.{sym, ◌∙◌}
use Rattle.salvage.proofs.RoomLaws.{no_room, with_room}
use Rattle.salvage.proofs.salvage.Goals as goal

pub returns-then-not-has_room : goal.returns-then-not-has_room
returns-then-not-has_room c =
    let a = c.args in
    let h = c.has_room in
    no_room a.buf.now a.out.now a.runs.now _ _ h.ensures.1 h.ensures.2 (sym h.ensures.0
    ∙ c.if-not-has_room.true)

pub returns : goal.returns
returns c =
    let a = c.args in
    let room = c.has_room.ensures in
    with_room a.buf.now a.out.now a.runs.now c.walk.result _ _ _ _ room.1 room.2
    (sym room.0 ∙ c.if-not-has_room.false) c.walk.ensures
