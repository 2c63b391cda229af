use borrow.Author.Rules.{rules}
use Prim.Native.Nat.{◌*◌}
use mathlib.Core.Path.{refl, ◌∙◌}
use mathlib.Core.Bool.{◌&&◌}
use lib.Dec.{leb}
use lib.ListN.{length}
use Rattle.wire.proofs.ListLaws.{none-put}
use Rattle.salvage_spec.proofs.Theorems.{most_runs_lem}
use Rattle.salvage.proofs.RoomLaws.{any_room, counted_room}
use Rattle.salvage.proofs.has_room.Goals as goal

pub returns-then-buf-out : goal.returns-then-buf-out
returns-then-buf-out c = let a = c.args in
    (any_room a.buf.now a.out.now a.runs.now _ c.div_ceil.ensures c.if-buf-out.true, refl, refl)

pub overflow_mul-result : goal.overflow_mul-result
overflow_mul-result c =
    let walk = c.walk-totals in
    let a = c.args in
    search (rules, most_runs_lem a.buf.now, walk.ensures.count)

pub returns : goal.returns
returns c =
    let a = c.args in
    let w = c.walk-totals in
    let o = none-put a.out.now w.new.out w.auto.out in
    let r = none-put a.runs.now w.new.runs w.auto.runs in (
      (λ i. leb w.result.length (length (o i)) && leb (2 * w.result.runs) (length (r i)))
          ∙ counted_room a.buf.now a.out.now a.runs.now _ _ _ _ w.result w.ensures,
      o,
      r,
    )
