use mathlib.Core.Path.{sym, ◌∙◌}
use native.Mathlib.Omega.{arith}
use borrow.Author.Rules.{rules}
use lib.ListN.{drop}
use Rattle.salvage_find.proofs.MarkLaws.{told-none, told-some}
use Rattle.salvage.proofs.PlaceLaws.{frames_none, frame_inside, frames_more, stretch_ends}
use Rattle.salvage.proofs.follow.Goals as goal

pub loop-long-init : goal.loop-long-init
loop-long-init c = frames_none c.requires

pub overflow_add-next : goal.overflow_add-next
overflow_add-next c =
    let p = told-some (drop c.loop-long.next c.args.buf.now) (sym c.in-Some.ensures) in
    search (rules, frame_inside c.loop-long.invariant p.0 p.1)

pub loop-long-smaller : goal.loop-long-smaller
loop-long-smaller c =
    let p = told-some (drop c.loop-long.next c.args.buf.now) (sym c.in-Some.ensures) in
    omega (arith, frame_inside c.loop-long.invariant p.0 p.1, p.1)

pub loop-long-preserved : goal.loop-long-preserved
loop-long-preserved c =
    let p = told-some (drop c.loop-long.next c.args.buf.now) (sym c.in-Some.ensures) in
    frames_more c.loop-long.invariant p.0 p.1

pub returns : goal.returns
returns c =
    let f = c.loop-long.invariant in
    record { frames = f; some = stretch_ends f (told-none _ (sym c.whole_at.ensures ∙ c.in_default.is)) }
