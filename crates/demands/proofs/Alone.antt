-- K1's lone segment, from the theorems of `header`, `set_spec` and `writer`. Assumes nothing.
use Prim.Native.Nat.{ℕ, ◌+◌}
use mathlib.Core.Path.{◌≡◌, sym, ap, ◌∙◌, subst}
use mathlib.Core.Logic.{◌↔◌}
use mathlib.Core.List.{List, flatten}
use lib.ListN.{length}
use Rattle.wire.specs.Numbers.{num}
use Rattle.wire.specs.Checks.{AllHold}
use Rattle.wire.specs.Answers.{given, Outcome}
use Rattle.frame.specs.Session.{head_size}
use Rattle.std.specs.Prelude.{Result, Ok, Err}
use Rattle.wire.specs.declared.refusal.Refusal.{Refusal}
use Rattle.wire.specs.declared.refusal.Refusal.TheVariants.{Segment}
use Rattle.header.specs.declared.Header.{Header}
use Rattle.header.specs.Header.{stored_in, count_of, header_in, header_of}
use Rattle.header.specs.Told.{tell_header}
use Rattle.header.specs.Theorems.{Lone, number_place, ButTwoBytes}
use Rattle.header_form.specs.Theorems.{lone_checks}
use Rattle.header_rule.proofs.RuleLaws.{number_lone, number_other}
use Rattle.header.proofs.LoneLaws.{lone_header}
use Rattle.header_form.proofs.Theorems.{lone_by_other_checks, number_outside}
use Rattle.header.proofs.Welds.{header_apart}
use Rattle.set_spec.specs.Walk.{SetSays, set_of}
use Rattle.set_spec.proofs.FrameFacts.{header-given}
use Rattle.set_spec.proofs.LoneNumber.{lone_segment}
use Rattle.set.proofs.Welds.{set_apart}
use Rattle.writer.proofs.Theorems.{lone_number}
use Rattle.c_frame.specs.Face.{header_face}
use Rattle.c_set.specs.Face.{set_face}
use Rattle.demands.specs.Demand2.{given_by}
use Rattle.demands.specs.LoneSegment.{ButLoneNumber, LoneSegment}
use Rattle.demands.proofs.Written.{wrote_for_c}

-- ---- the number that is reported
one : (b : List ℕ) (h : Header) → header_of b ≡ given h → h.segments ≡ 1 → h.number ≡ 1
unfolding header_in
one b h e n =
    let q : header_in b ≡ h = (header-given b h e).1 in
    sym (ap (λ (x : Header). x.number) q) ∙ number_lone (count_of (stored_in b)) (stored_in b).number
    (ap (λ (x : Header). x.segments) q ∙ n)

others : (b : List ℕ) (h : Header) → header_of b ≡ given h → (h.segments ≡ 1 → ⊥) → h.number ≡ (stored_in b).number
unfolding header_in
others b h e n =
    let q : header_in b ≡ h = (header-given b h e).1 in
    let other : count_of (stored_in b) ≡ 1 → ⊥ = λ x. n (sym (ap (λ (x : Header). x.segments) q) ∙ x) in
    sym (ap (λ (x : Header). x.number) q) ∙ number_other (count_of (stored_in b)) (stored_in b).number other

-- ---- what is accepted
accepted : (b : List ℕ) (r : Result Header Refusal) → Lone b → tell_header r ≡ header_of b
    → (r ≡ Ok (header_in b)) ↔ AllHold (lone_checks (stored_in b) (length b))
accepted b r lone e = (
  λ q. (lone_by_other_checks b lone).0 (sym e ∙ ap tell_header q),
  λ h. header_apart r (Ok (header_in b)) (e ∙ (lone_by_other_checks b lone).1 h),
)

-- ---- two calls
pub same_set : (frames frames' out out' : List ℕ) → ButLoneNumber frames frames' → out ≡ out' → set_of frames out ≡ set_of frames' out'
same_set frames frames' out out' b same =
    ap (λ (x : List ℕ). set_of x out) b.buffer
    ∙ lone_segment b.each b.rest frames' out b.whole b.lone
    (subst (λ (x : List ℕ). ButTwoBytes (length (flatten b.each) + head_size + number_place) x frames') b.buffer b.but)
    ∙ ap (λ (x : List ℕ). set_of frames' x) same

pub lone : LoneSegment
unfolding stored_in
lone = record {
  one = λ κs message h s l. one message.now h (sym l);
  others = λ κs message h s l. others message.now h (sym l);
  accepted = λ κs message r s a l. accepted message.now r a l;
  outside = λ κs message r s short other h out l. header_apart r (Err Segment) (l ∙ number_outside message.now short other h out);
  header = λ κs κs' message message' r r' s s' a but l l'.
      header_apart r r' (l ∙ lone_header message.now message'.now a but ∙ sym l');
  header_for_c = λ κs κs' message message' r r' s s' a but l l'. l ∙ ap header_face (lone_header message.now message'.now a but) ∙ sym l';
  set = λ κs κs' frames frames' out out' r r' f f' after after' b same l l'.
      let e = same_set frames.now frames'.now out.now out'.now b same in (
        set_apart r r' (l.answers ∙ ap (λ (o : Outcome (List ℕ) SetSays). o.answer) e ∙ sym l'.answers),
        l.leaves ∙ ap (λ (o : Outcome (List ℕ) SetSays). o.output) e ∙ sym l'.leaves,
      );
  set_for_c = λ κs κs' frames frames' out out' r r' f f' after after' b same l l'.
      let e = same_set frames.now frames'.now out.now out'.now b same in (
        l.answers ∙ ap (λ (o : Outcome (List ℕ) SetSays). set_face o.answer) e ∙ sym l'.answers,
        l.leaves ∙ ap (λ (o : Outcome (List ℕ) SetSays). o.output) e ∙ sym l'.leaves,
      );
  written = λ κs given body out size g b after l one short.
      ap (λ (x : List ℕ). num 2 x (head_size + number_place)) l.leaves ∙ lone_number given body.now out.now size
      (sym l.answers) one short;
  written_for_c = λ κs channel kind sequence date ms body out r c k q d m b after l z one short.
      let g = given_by channel kind sequence date ms in
      let v = wrote_for_c g body.now out.now r l.answers z in
      ap (λ (x : List ℕ). num 2 x (head_size + number_place)) l.leaves ∙ lone_number g body.now out.now v.size v.is one short;
}
