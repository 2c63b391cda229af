-- K11's long form, from the theorems of `header`, `writer` and the radial. Assumes nothing.
use Prim.Native.Nat.{ℕ, ◌≤◌, ◌<◌}
use native.Mathlib.Omega.{arith}
use mathlib.Core.Path.{◌≡◌, refl, sym, ap, subst, ◌∙◌}
use mathlib.Core.Logic.{◌↔◌}
use mathlib.Core.Bool.{Bool, true, false}
use mathlib.Core.List.{List}
use lib.Dec.{ltb}
use lib.ListN.{length, get_or}
use denote.Ref.{Bor}
use borrow.Author.Tests.{ltb-true, ltb-false}
use Rattle.wire.specs.Numbers.{num, Octets}
use Rattle.wire.specs.Answers.{Answer, refused, given}
use Rattle.wire.specs.Checks.{pick}
use Rattle.header_rule.specs.Rules.{not_permitted}
use Rattle.wire.proofs.NumberLaws.{num-fits}
use Rattle.header.specs.declared.Header.{Header}
use Rattle.std.specs.Prelude.{Result, Ok, Err}
use Rattle.wire.specs.declared.refusal.Refusal.{Refusal}
use Rattle.wire.specs.declared.refusal.Refusal.TheVariants.{Size, DateOrTime, «Type», Segment}
use Rattle.header.specs.Header.{header_in, header_of}
use Rattle.header.specs.Told.{tell_header}
use Rattle.header_form.specs.Theorems.{Long, LengthHolds, TimeHolds, CountsAsOne}
use Rattle.header.proofs.Welds.{header_apart}
use Rattle.header_form.proofs.Theorems.{by_size, size_is_true}
use Rattle.header_form.proofs.LongLaws.{long_exactly, no_freedom, marked_other}
use Rattle.set_spec.proofs.FrameFacts.{header-given}
use Rattle.writer.specs.Theorems.{RadialForm}
use Rattle.writer.proofs.Theorems.{form_written}
use Rattle.radial_spec.specs.Description.{Description, Named, size_place}
use Rattle.radial_spec.specs.Refusal.{radial_of}
use Rattle.radial_spec.proofs.Accepted.{agreed}
use Rattle.radial_spec.proofs.Naming.{unnamed_places, found-sized}
use Rattle.c_frame.specs.declared.UlmHeader.{UlmHeader}
use Rattle.c_frame.specs.Face.{header_face}
use Rattle.demands.specs.Demand2.{given_by}
use Rattle.demands.specs.Demand3.{SameFromEach}
use Rattle.demands.specs.LongRadial.{CountsInC, most_said, LongRadial}
use Rattle.demands.proofs.Written.{wrote_for_c}
use Rattle.demands.proofs.ByChecksLaws.{above_0}
use Rattle.demands.proofs.First.{by_header}
use Rattle.demands.proofs.Third.{demand3}

-- ---- C's answer that accepts is the header's
told_c : (b : List ℕ) (r : UlmHeader) → r ≡ header_face (header_of b) → r.refusal ≡ 0 → header_of b ≡ given (header_in b)
told_c b r e z = go (header_of b) refl
  where
    number : r.refusal ≡ (header_face (header_of b)).refusal
    number = ap (λ (x : UlmHeader). x.refusal) e

    go : (a : Answer Header) → header_of b ≡ a → header_of b ≡ given (header_in b)
    go (refused n) q =
        let none : n ≡ 0 = sym (ap (λ (a : Answer Header). (header_face a).refusal) q) ∙ sym number ∙ z in
        absurd (above_0 n ((by_header b).numbered n q) none)
    go (given h) q = q ∙ ap given (sym (header-given b h q).1)

refused_c : (b : List ℕ) (r : UlmHeader) (n : ℕ) → r ≡ header_face (header_of b) → header_of b ≡ refused n → r.refusal ≡ n
refused_c b r n e q = ap (λ (x : UlmHeader). x.refusal) (e ∙ ap header_face q)

-- ---- the header, by its answer
module _ (b : List ℕ) (l : Long b) where
  accepted : (r : Result Header Refusal) → tell_header r ≡ header_of b → (r ≡ Ok (header_in b)) ↔ (LengthHolds b × TimeHolds b)
  accepted r e = (
    λ q. (long_exactly b l).accepted.0 (sym e ∙ ap tell_header q),
    λ h. header_apart r (Ok (header_in b)) (e ∙ (long_exactly b l).accepted.1 h),
  )

  counts : (h : Header) → header_of b ≡ given h → CountsAsOne b h
  counts h e =
      let q : header_in b ≡ h = (header-given b h e).1 in
      let a = long_exactly b l in
      subst (λ (x : Header). CountsAsOne b x) q (a.counts (a.accepted.0 (e ∙ ap given (sym q))).0)

  -- and as C receives it
  accepted_for_c : (r : UlmHeader) → r ≡ header_face (header_of b) → (r.refusal ≡ 0) ↔ (LengthHolds b × TimeHolds b)
  accepted_for_c r e = (
    λ z. (long_exactly b l).accepted.0 (told_c b r e z),
    λ h. ap (λ (x : UlmHeader). x.refusal) (e ∙ ap header_face ((long_exactly b l).accepted.1 h)),
  )

  counts_for_c : (r : UlmHeader) → r ≡ header_face (header_of b) → r.refusal ≡ 0 → CountsInC b r
  counts_for_c r e z =
      let q = told_c b r e z in
      let c = counts (header_in b) q in
      let is : r ≡ header_face (given (header_in b)) = e ∙ ap header_face q in
      subst (λ (x : UlmHeader). CountsInC b x) (sym is) (record { size = c.size; segments = c.segments; number = c.number })

-- ---- what lies past the most that the radial length can say
module _ (b : List ℕ) (d : Description) (o : Octets b) (e : radial_of b ≡ given d) where
  said : d.size ≤ most_said
  said = let two_bytes : d.size < 65536 = (agreed b d o e).0.fit.1.0.0 in omega (arith, two_bytes)

never_named : (b : List ℕ) (d : Description) (i : ℕ) → Octets b → radial_of b ≡ given d → most_said ≤ i → Named d i → ⊥
never_named b d i o e far named = (unnamed_places b d o e).past i (omega (arith, said b d o e, far)) named

beyond : (body body' : Bor (List ℕ)) (d : Description) → Octets body.now → length body'.now ≡ length body.now
    → radial_of body.now ≡ given d
    → ((i : ℕ) → i < most_said → get_or body'.now i 0 ≡ get_or body.now i 0)
    → SameFromEach body body'
beyond body body' d o long e same = demand3.unnamed body body' d (record { octets = o; long = long; accepted = e; named = named })
  where
    named : (i : ℕ) → Named d i → get_or body'.now i 0 ≡ get_or body.now i 0
    named i n = go (ltb i most_said) refl
      where
        go : (t : Bool) → ltb i most_said ≡ t → get_or body'.now i 0 ≡ get_or body.now i 0
        go true q = same i (ltb-true i most_said q)
        go false q = absurd (never_named body.now d i o e (ltb-false i most_said q) n)

-- 6 and 7 as refusals
type_or_segment : (b : Bool) → refused (pick b 6 7) ≡ tell_header (Err (pick b «Type» Segment))
type_or_segment true = refl
type_or_segment false = refl

pub long-radial : LongRadial
long-radial = record {
  accepted = λ κs message r s l e. accepted message.now l r e;
  counts = λ κs message h s l e. counts message.now l h (sym e);
  wrong_length = λ κs message r s l wrong e. header_apart r (Err Size) (e ∙ (long_exactly message.now l).wrong_length wrong);
  wrong_time = λ κs message r s l h wrong e. header_apart r (Err DateOrTime) (e ∙ (long_exactly message.now l).wrong_time h wrong);
  other = λ κs message r s long mark type e. header_apart r (Err _)
      (e ∙ marked_other message.now long mark type ∙ type_or_segment (not_permitted (num 1 message.now 3)));
  fixed = λ κs κs' message message' h r' s s' place o o' l low high but differ e e'.
      header_apart r' (Err Size) (e' ∙ no_freedom message.now message'.now h place o o' l (sym e) low high but differ);
  size = λ κs message h s e. (size_is_true message.now h (sym e), by_size message.now h (sym e));
  accepted_for_c = λ κs message r s l e. accepted_for_c message.now l r e;
  counts_for_c = λ κs message r s l e z. counts_for_c message.now l r e z;
  wrong_for_c = λ κs message r s l wrong e. refused_c message.now r 5 e ((long_exactly message.now l).wrong_length wrong);
  late_for_c = λ κs message r s l h wrong e. refused_c message.now r 8 e ((long_exactly message.now l).wrong_time h wrong);
  other_for_c = λ κs message r s long mark type e. refused_c message.now r _ e (marked_other message.now long mark type);
  fixed_for_c = λ κs κs' message message' r r' s s' place o o' l low high but differ e z e'.
      refused_c message'.now r' 5 e'
      (no_freedom message.now message'.now (header_in message.now) place o o' l (told_c message.now r e z) low high but differ);
  written = λ κs given body out size g b after l r.
      subst (λ (x : List ℕ). RadialForm body.now x) (sym l.leaves) (form_written given body.now out.now size (sym l.answers) r);
  written_for_c = λ κs channel kind sequence date ms body out r c k q d m b after l z radial.
      let g = given_by channel kind sequence date ms in
      let v = wrote_for_c g body.now out.now r l.answers z in
      subst (λ (x : List ℕ). RadialForm body.now x) (sym l.leaves) (form_written g body.now out.now v.size v.is radial);
  never_named = never_named;
  beyond = beyond;
  wall = λ κs₁ κs₂ κs₃ s₁ s₂ s₃ buffer message body gates place name f h m w.
      let end = (found-sized body.now (num 4 name 0) m w.bytes w.found).2 in
      let most = num-fits 2 body.now size_place w.bytes in
      omega (arith, end, most);
}
