use Prim.Native.Nat.{ℕ}
use mathlib.Core.List.{List}
use mathlib.Core.Path.{◌≡◌, sym, ap, ◌∙◌}
use native.Mathlib.Omega.{arith}
use Rattle.std.specs.Prelude.{Option, Some, Ok}
use Rattle.std.proofs.lemmas.Result.{err_from_is_err_and}
use Rattle.wire.specs.declared.refusal.Refusal.TheVariants.{FrameCutOff}
use Rattle.frame.specs.declared.Frame.{Frame}
use Rattle.frame.specs.Session.{frame_at}
use Rattle.frame.specs.Told.{tell_frame}
use Rattle.set_spec.proofs.FrameFacts.{FrameLies, frame-says, own_frame, own_kind}
use Rattle.set_segment.proofs.SegmentLaws.{told_refused, header_broken, told_read}
use Rattle.set_segment.proofs.segment_at.Goals as goal

-- a frame that was read lies there
read_lies : {s : List ℕ} {at : ℕ} {o : Option Frame} {f : Frame} → tell_frame (Ok o) ≡ frame_at s at → o ≡ Some f → FrameLies s at f
read_lies says is = frame-says _ _ says (ap Ok is)

pub returns-in_err-frame_at : goal.returns-in_err-frame_at
returns-in_err-frame_at c =
    let p = err_from_is_err_and c.from_residual.result c.from_residual.ensures.1 in
    rw (p.1, p.2) (told_refused _ _ _ (own_frame _ _ (frame-says _ _ c.frame_at.ensures c.in_err-frame_at.was)))

pub returns-in_err-f : goal.returns-in_err-f
returns-in_err-f c =
    let p = err_from_is_err_and c.from_residual-in_err-f.result c.from_residual-in_err-f.ensures.1 in
    let is : c.in_err-f.field-0.0 ≡ FrameCutOff = cc (rw c.in_err-f.ensures.ok_part at c.in_err-f.ensures.value) in
    rw (p.1, p.2, is) (told_refused _ _ _ (own_frame _ 1 (frame-says _ _ c.in_ok-frame_at.ensures (ap Ok c.in_err-f.ensures.ok_part))))

pub returns-then-f-ne-DATA : goal.returns-then-f-ne-DATA
returns-then-f-ne-DATA c =
    let lies = read_lies c.in_ok-frame_at.ensures c.in_ok-f.ensures.ok_part in
    told_refused _ _ _ (own_kind _ lies.passes (λ e. c.if-f-ne-DATA.true (lies.kind ∙ e)))

pub slice_bounds-read_header-count : goal.slice_bounds-read_header-count
slice_bounds-read_header-count c = (read_lies c.in_ok-frame_at.ensures c.in_ok-f.ensures.ok_part).order

pub slice_bounds-read_header-start : goal.slice_bounds-read_header-start
slice_bounds-read_header-start c = omega (arith, read_lies c.in_ok-frame_at.ensures c.in_ok-f.ensures.ok_part)

pub slice_bounds-read_header-end : goal.slice_bounds-read_header-end
slice_bounds-read_header-end c = omega (arith, read_lies c.in_ok-frame_at.ensures c.in_ok-f.ensures.ok_part)

pub returns-in_err-header : goal.returns-in_err-header
returns-in_err-header c =
    let p = err_from_is_err_and c.from_residual-in_err-header.result c.from_residual-in_err-header.ensures.1 in
    let lies = read_lies c.in_ok-frame_at.ensures c.in_ok-f.ensures.ok_part in
    rw (p.1, p.2) (header_broken lies c.if-f-ne-DATA.false (sym c.in_err-header.ensures))

pub overflow_add-result : goal.overflow_add-result
overflow_add-result c =
    let lies = read_lies c.in_ok-frame_at.ensures c.in_ok-f.ensures.ok_part in
    omega (arith, lies.order, lies.within, c.well_formed)

pub returns : goal.returns
returns c =
    let lies = read_lies c.in_ok-frame_at.ensures c.in_ok-f.ensures.ok_part in
    told_read lies c.if-f-ne-DATA.false (sym c.in_ok-header.ensures)
