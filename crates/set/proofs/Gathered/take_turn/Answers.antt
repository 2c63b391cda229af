use mathlib.Core.Path.{◌≡◌, sym, ◌∙◌}
use borrow.Author.Tests.{eq-eqb, ne_eqb}
use Rattle.std.proofs.lemmas.Result.{err_from_is_err_and}
use Rattle.set.proofs.SegmentLaws.{segment_refused, segment_lies}
use Rattle.set.proofs.TurnLaws.{number_low, number_high, led, led_start, led_on, taken_refused, taken-disagrees, taken-seen, taken-on}
use Rattle.set.proofs.Gathered.take_turn.Goals as goal
use Rattle.set.proofs.Gathered.take_turn.Goals.{then-at-eq0, else-at-eq0}

pub returns-in_err-segment : goal.returns-in_err-segment
returns-in_err-segment c =
    let p = err_from_is_err_and c.from_residual.result c.from_residual.ensures.1 in
    rw (p.1, p.2) (taken_refused _ _ _ _ _ (segment_refused _ _ _ c.in_err-segment.ensures))

pub returns-then-disagrees : goal.returns-then-disagrees
returns-then-disagrees c =
    let read = segment_lies _ _ _ _ _ c.in_ok-segment.ensures in
    let e : c.if-at-eq0.self ≡ led c.args.at c.in_ok-segment.segment.header c.args.self.now =
    elim c.if-at-eq0.branch [ then-at-eq0 w ↦ led_start _ _ _ _ w.if-at-eq0.true w.self-is | else-at-eq0 w ↦ led_on _ _ _ _ w.if-at-eq0.false w.self-is ] in
    taken-disagrees read e (sym c.disagrees.ensures ∙ c.if-disagrees.true)

pub overflow_sub-k : goal.overflow_sub-k
overflow_sub-k c = number_low (segment_lies _ _ _ _ _ c.in_ok-segment.ensures)

pub bounds-self-k : goal.bounds-self-k
bounds-self-k c = number_high (segment_lies _ _ _ _ _ c.in_ok-segment.ensures)

pub returns-then-self-k : goal.returns-then-self-k
returns-then-self-k c =
    let read = segment_lies _ _ _ _ _ c.in_ok-segment.ensures in
    let e : c.if-at-eq0.self ≡ led c.args.at c.in_ok-segment.segment.header c.args.self.now =
    elim c.if-at-eq0.branch [ then-at-eq0 w ↦ led_start _ _ _ _ w.if-at-eq0.true w.self-is | else-at-eq0 w ↦ led_on _ _ _ _ w.if-at-eq0.false w.self-is ] in
    taken-seen read e (sym c.disagrees.ensures ∙ c.if-disagrees.false) c.if-self-k.true

pub bounds-self-k-2 : goal.bounds-self-k-2
bounds-self-k-2 c = number_high (segment_lies _ _ _ _ _ c.in_ok-segment.ensures)

pub bounds-self-k-3 : goal.bounds-self-k-3
bounds-self-k-3 c = number_high (segment_lies _ _ _ _ _ c.in_ok-segment.ensures)

pub returns-then-h-eq1 : goal.returns-then-h-eq1
returns-then-h-eq1 c =
    let read = segment_lies _ _ _ _ _ c.in_ok-segment.ensures in
    let e : c.if-at-eq0.self ≡ led c.args.at c.in_ok-segment.segment.header c.args.self.now =
    elim c.if-at-eq0.branch [ then-at-eq0 w ↦ led_start _ _ _ _ w.if-at-eq0.true w.self-is | else-at-eq0 w ↦ led_on _ _ _ _ w.if-at-eq0.false w.self-is ] in
    taken-on read e (sym c.disagrees.ensures ∙ c.if-disagrees.false) c.if-self-k.false _ (simp (eq-eqb _ _ c.if-h-eq1.true))

pub returns-else-h-eq1 : goal.returns-else-h-eq1
returns-else-h-eq1 c =
    let read = segment_lies _ _ _ _ _ c.in_ok-segment.ensures in
    let e : c.if-at-eq0.self ≡ led c.args.at c.in_ok-segment.segment.header c.args.self.now =
    elim c.if-at-eq0.branch [ then-at-eq0 w ↦ led_start _ _ _ _ w.if-at-eq0.true w.self-is | else-at-eq0 w ↦ led_on _ _ _ _ w.if-at-eq0.false w.self-is ] in
    taken-on read e (sym c.disagrees.ensures ∙ c.if-disagrees.false) c.if-self-k.false _ (simp (ne_eqb _ _ c.if-h-eq1.false))
