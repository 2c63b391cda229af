use Prim.Native.Nat.{ℕ, ◌<◌}
use mathlib.Core.Path.{◌≡◌, refl, sym, ap, ◌∙◌}
use mathlib.Core.Bool.{Bool, true, false, not}
use mathlib.Core.List.{List}
use lib.ListN.{drop}
use native.Mathlib.Omega.{arith}
use Rattle.std.specs.Prelude.{Option, None, Some, Result, Ok, Err}
use Rattle.std.specs.Result.{result_ok, result_eq}
use Rattle.std.specs.contracts.prelude.UnitPartialEq.TheImpl.{eq-value as unit_eq}
use Rattle.wire.specs.contracts.refusal.RefusalPartialEq.TheImpl.{eq-value as refusal_eq}
use Rattle.wire.specs.Refusals.{number, number_in}
use Rattle.wire.specs.declared.refusal.Refusal.{Refusal}
use Rattle.wire.proofs.CheckLaws.{never}
use Rattle.wire.proofs.RefusalLaws.{number-above}
use Rattle.frame.specs.declared.Frame.{Frame}
use Rattle.frame.specs.Session.{frame_at}
use Rattle.frame.specs.Told.{tell_frame}
use Rattle.header.specs.Header.{header_of}
use Rattle.header.proofs.HeaderLaws.{header_read, header_refused as header_broken}
use Rattle.set_spec.proofs.FrameFacts.{FrameLies, frame-says, own_frame, own_kind, own_header, header-given, header_refused}
use Rattle.salvage_spec.specs.Walk.{stands}
use Rattle.salvage_find.proofs.MarkLaws.{broken_none, none-told, some-told}
use Rattle.salvage_find.proofs.whole_at.Goals as goal

-- a frame that was read lies there; where there is none, none stands
module _ (s : List ℕ) (at : ℕ) where
  read_lies : (r : Result (Option Frame) Refusal) (o : Option (Option Frame)) (i : Option Frame) (f : Frame)
      → tell_frame r ≡ frame_at s at → o ≡ result_ok r → o ≡ Some i → i ≡ Some f → FrameLies s at f
  read_lies (Ok x) o i f says is some is_some = frame-says s at {r = Ok x} {r' = Ok (Some f)} says (cc (is, some, is_some))
  read_lies (Err q) o i f says is some is_some = never (cc (sym some ∙ is))

  none_read : (r : Result (Option Frame) Refusal) (o : Option (Option Frame)) → tell_frame r ≡ frame_at s at → o ≡ result_ok r → o ≡ None
      → stands (drop at s) ≡ false
  none_read (Ok x) o says is none = never (cc (sym is ∙ none))
  none_read (Err q) o says is none =
      broken_none (drop at s) (number q) (own_frame (drop at s) (number q) (frame-says s at {r = Err q} {r' = Err q} says refl))

  end_read : (r : Result (Option Frame) Refusal) (o : Option (Option Frame)) (i : Option Frame) → tell_frame r ≡ frame_at s at
      → o ≡ result_ok r → o ≡ Some i → i ≡ None → stands (drop at s) ≡ false
  end_read (Ok x) o i says is some none =
      broken_none (drop at s) 1 (own_frame (drop at s) 1 (frame-says s at {r = Ok x} {r' = Ok None} says (cc (is, some, none))))
  end_read (Err q) o i says is some none = never (cc (sym some ∙ is))

-- the number of the header's refusal, by whether it is not Ok, as `!=` tells it
abbrev differs : Result (Unit {0}) Refusal → Bool
differs r = not (result_eq unit_eq.it refusal_eq.it r (Ok (tt {0})))

number_ok : (r : Result (Unit {0}) Refusal) → differs r ≡ false → number_in r ≡ 0
number_ok (Ok v) e = refl
number_ok (Err q) e = never (cc (sym e))

number_err : (r : Result (Unit {0}) Refusal) → differs r ≡ true → 0 < number_in r
number_err (Ok v) e = never (cc (sym e))
number_err (Err q) e = number-above q

pub returns-in_err-ok : goal.returns-in_err-ok
returns-in_err-ok c =
    c.from_residual.ensures ∙ none-told _ (none_read _ _ _ _ c.frame_at.ensures c.ok.ensures.value c.in_err-ok.was)

pub returns-in_err-f : goal.returns-in_err-f
returns-in_err-f c =
    c.from_residual-in_err-f.ensures ∙ none-told _ (end_read _ _ _ _ _ c.frame_at.ensures c.ok.ensures.value c.in_ok-ok.was c.in_err-f.was)

pub returns-then-f-ne-DATA : goal.returns-then-f-ne-DATA
returns-then-f-ne-DATA c =
    let l = read_lies _ _ _ _ _ _ c.frame_at.ensures c.ok.ensures.value c.in_ok-ok.was c.in_ok-f.was in
    none-told _ (broken_none _ _ (own_kind _ l.passes (λ e. c.if-f-ne-DATA.true (l.kind ∙ e))))

pub slice_bounds-message-count : goal.slice_bounds-message-count
slice_bounds-message-count c = (read_lies _ _ _ _ _ _ c.frame_at.ensures c.ok.ensures.value c.in_ok-ok.was c.in_ok-f.was).order

pub slice_bounds-message-start : goal.slice_bounds-message-start
slice_bounds-message-start c = omega (arith, read_lies _ _ _ _ _ _ c.frame_at.ensures c.ok.ensures.value c.in_ok-ok.was c.in_ok-f.was)

pub slice_bounds-message-end : goal.slice_bounds-message-end
slice_bounds-message-end c = omega (arith, read_lies _ _ _ _ _ _ c.frame_at.ensures c.ok.ensures.value c.in_ok-ok.was c.in_ok-f.was)

pub returns-then-ne : goal.returns-then-ne
returns-then-ne c =
    let l = read_lies _ _ _ _ _ _ c.frame_at.ensures c.ok.ensures.value c.in_ok-ok.was c.in_ok-f.was in
    let broken = header_broken _ _ _ c.stored_in.ensures c.check_header.ensures (number_err _ (sym c.ne.ensures ∙ c.if-ne.true)) in
    none-told _ (broken_none _ _
    (own_header _ l.passes (sym l.kind ∙ c.if-f-ne-DATA.false) ∙ header_refused _ _ (ap header_of (sym l.body) ∙ broken)))

pub overflow_sub-result : goal.overflow_sub-result
overflow_sub-result c = omega (arith, read_lies _ _ _ _ _ _ c.frame_at.ensures c.ok.ensures.value c.in_ok-ok.was c.in_ok-f.was)

pub returns : goal.returns
returns c =
    let l = read_lies _ _ _ _ _ _ c.frame_at.ensures c.ok.ensures.value c.in_ok-ok.was c.in_ok-f.was in
    let none = number_ok _ (sym c.ne.ensures ∙ c.if-ne.false) in
    let read = header_read _ _ _ c.stored_in.ensures c.check_header.ensures _ refl none in
    some-told _ (own_header _ l.passes (sym l.kind ∙ c.if-f-ne-DATA.false) ∙ (header-given _ _ (ap header_of (sym l.body) ∙ read)).0)
    (omega (arith, l.next))
