use borrow.Author.Rules.{rules}
use native.Mathlib.Omega.{arith}
use Rattle.salvage_find.specs.Steps.{FoundFrom}
use Rattle.salvage_find.proofs.PlaceLaws.{found-next}
use Rattle.salvage.proofs.PlaceLaws.{goes_forward}
use Rattle.salvage.proofs.GoingLaws.{going_start, going_on, going_ends}
use Rattle.salvage.proofs.walk.Goals as goal

pub loop-at-init : goal.loop-at-init
loop-at-init c = going_start _ _ _ _ c.default-totals.ensures

pub list-requires : goal.list-requires
list-requires c =
    let found : FoundFrom c.args.buf.now c.loop-at.at c.next_kept-place.result =
    found-next (omega (arith, c.loop-at-test.true)) c.next_kept-place.ensures in
    (found.before.forward, c.loop-at.invariant.count_fits, search rules)

pub put-requires : goal.put-requires
put-requires c =
    let found : FoundFrom c.args.buf.now c.loop-at.at c.next_kept-place.result =
    found-next (omega (arith, c.loop-at-test.true)) c.next_kept-place.ensures in
    let f = c.follow-row.ensures.frames in
    search (rules, c.loop-at.invariant.long_fits, found.before.forward, f.forward, f.within)

pub loop-at-smaller : goal.loop-at-smaller
loop-at-smaller c =
    let found : FoundFrom c.args.buf.now c.loop-at.at c.next_kept-place.result =
    found-next (omega (arith, c.loop-at-test.true)) c.next_kept-place.ensures in
    let s = c.follow-row.ensures in
    omega (arith, goes_forward c.loop-at-test.true found s, s.frames.within)

pub loop-at-preserved : goal.loop-at-preserved
loop-at-preserved c =
    let found : FoundFrom c.args.buf.now c.loop-at.at c.next_kept-place.result =
    found-next (omega (arith, c.loop-at-test.true)) c.next_kept-place.ensures in
    going_on c.loop-at.invariant c.loop-at-test.true found c.follow-row.ensures _ _
    c.list.ensures c.list.auto.runs _ _ c.put.ensures c.put.auto.out

pub follow-row-requires : goal.follow-row-requires
follow-row-requires c =
    let found : FoundFrom c.args.buf.now c.loop-at.at c.next_kept-place.result =
    found-next (omega (arith, c.loop-at-test.true)) c.next_kept-place.ensures in
    found.before.within

pub slice_bounds-put-count : goal.slice_bounds-put-count
slice_bounds-put-count c = search (rules, c.follow-row.ensures.frames.forward)

pub slice_bounds-put-start : goal.slice_bounds-put-start
slice_bounds-put-start c = search (rules, c.follow-row.ensures.frames.forward, c.follow-row.ensures.frames.within)

pub slice_bounds-put-end : goal.slice_bounds-put-end
slice_bounds-put-end c = search (rules, c.follow-row.ensures.frames.within)

pub shape_of-out : goal.shape_of-out
shape_of-out c = c.loop-at.invariant.out_long

pub shape_of-runs : goal.shape_of-runs
shape_of-runs c = c.loop-at.invariant.runs_long

pub returns : goal.returns
returns c = going_ends c.loop-at.invariant c.loop-at-test.false
