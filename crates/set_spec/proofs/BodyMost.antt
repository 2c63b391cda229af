-- How long the body of an accepted set is at most. Assumes nothing.
use Prim.Native.Nat.{ℕ, ◌-◌, ◌*◌, ◌≤◌, ◌<◌}
use native.Mathlib.Nat.{suc-mul}
use native.Mathlib.Omega.{arith}
use mathlib.Core.Path.{◌≡◌, refl, sym, ap, subst, ◌∙◌}
use mathlib.Core.Bool.{Bool, true, false, not}
use mathlib.Core.Option.{some}
use mathlib.Core.List.{List, [], ◌∷◌, Memᴰ}
use lib.Dec.{ltb, eqb}
use lib.ListN.{length, drop, length-append, length-drop}
use lib.Seq.{length-take-le}
use borrow.Author.Tests.{ltb-true, ltb-false, le-ltb, eqb-true, eq-eqb, ne_eqb, not-false}
use Rattle.wire.specs.Checks.{both, check, first, AllHold}
use Rattle.wire.specs.Answers.{Answer, refused, given}
use Rattle.wire.proofs.CheckLaws.{never, by_eq}
use Rattle.wire.proofs.AnswerLaws.{rule_refused}
use Rattle.frame.specs.Session.{head_size, size_in, body_in}
use Rattle.header.specs.declared.Header.{Header}
use Rattle.header_rule.specs.Rules.{radial_type, most_segments, segment_size}
use Rattle.header.specs.Header.{header_size}
use Rattle.header.proofs.HeldLaws.{later_hold, true_size}
use Rattle.set_spec.specs.Segment.{Segment}
use Rattle.set_spec.specs.Walk.{SetSays, says, seen, count, all_seen, body_of, end_checks, finish, walk, set_of}
use Rattle.set_spec.specs.Whole.{header_from, data_from, Passes, Joined, start, next, Whole}
use Rattle.set_spec.specs.Theorems.{most_joined, most_radial, AtMost, BodyMost, RoomForAny}
use Rattle.set_spec.proofs.FrameFacts.{framed}
use Rattle.set_spec.proofs.PrefixLaws.{own_parts}
use Rattle.set_spec.proofs.Accepted.{finished, Answering, answering, accepted_exactly_if_whole}
use Rattle.set_spec.proofs.OutputApart.{finish-answer}
use Rattle.set_spec.proofs.TurnNumbers.{walk-numbers}

-- ---- one segment: N, and how much data there is
record Segmented (f : List ℕ) : Type 0 where
  few : (header_from f).segments ≤ most_segments
  lone : (header_from f).kind ≡ radial_type → (header_from f).segments ≡ 1
  session : length (data_from f) ≤ most_radial
  segment : ((header_from f).kind ≡ radial_type → ⊥) → length (data_from f) ≤ 2 * segment_size.0 - header_size

both_then : (a b : Bool) → both a b ≡ false → a ≡ true → b ≡ false
both_then true b e p = e
both_then false b e p = never (cc p)

segmented : (f : List ℕ) → Passes f → Segmented f
segmented f p =
    let own = own_parts f p.checks in
    let c = own.2 in
    let h = header_from f in
    let rest : length (drop head_size f) ≡ (size_in f).0 = length-drop head_size f ∙ omega (arith, p.exact) in
    let long : length (body_in f) ≡ (size_in f).0 = length-take-le (size_in f).0 (drop head_size f) (omega (arith, rest)) in
    let held : length (data_from f) ≡ (size_in f).0 - header_size = length-drop header_size (body_in f) ∙ ap (λ (n : ℕ). n - header_size) long in
    let half = true_size (body_in f) c in
    let later = later_hold (body_in f) c in
    record {
      few = ltb-false most_segments h.segments later.1.1.0;
      lone = λ r. eqb-true h.segments 1
          (not-false _ (both_then (eqb h.kind radial_type) (not (eqb h.segments 1)) later.1.1.1.1.1.0
          (eq-eqb h.kind radial_type r)));
      session = omega (arith, held, (framed f own.0).small);
      segment = λ r.
          let small : h.size.0 ≤ segment_size.0 =
          ltb-false segment_size.0 h.size.0
          (both_then (not (eqb h.kind radial_type)) (ltb segment_size.0 h.size.0) later.1.1.1.1.1.1.0
          (ap not (ne_eqb h.kind radial_type r)))
          in
          omega (arith, held, long, half, small);
    }

-- ---- segments joined
joined_most : (each : List (List ℕ)) (limit : ℕ) → ((f : List ℕ) → Memᴰ f each → length (data_from f) ≤ limit)
    → {n : ℕ} {body : List ℕ} → Joined each n body
    → length body ≤ n * limit
joined_most each limit h start = omega arith
joined_most each limit h (next {n = n} {body = body} f m e j) =
    omega (arith, length-append body (data_from f), suc-mul n limit, h f m, joined_most each limit h j)

module _ (frames : List ℕ) (h : Header) (body : List ℕ) (w : Whole frames h body) where
  each_is : (f : List ℕ) → Memᴰ f w.each → Segmented f
  each_is f m = segmented f (w.orderly.pass f m)

  one_is : Segmented w.one
  one_is = each_is w.one w.there

  radial_most : h.kind ≡ radial_type → length body ≤ most_radial
  radial_most r =
      let n : h.segments ≡ 1 = sym (ap (λ (x : Header). x.segments) w.header)
      ∙ one_is.lone (ap (λ (x : Header). x.kind) w.header ∙ r) in
      let j = joined_most w.each most_radial (λ f m. (each_is f m).session) w.joined in
      let k : length body ≤ 1 * most_radial = subst (λ (x : ℕ). length body ≤ x * most_radial) n j in
      omega (arith, k)

  other_most : (h.kind ≡ radial_type → ⊥) → length body ≤ most_joined
  other_most r =
      let n : h.segments ≤ most_segments = subst (λ (x : Header). x.segments ≤ most_segments) w.header one_is.few in
      let j = joined_most w.each (2 * segment_size.0 - header_size)
      (λ f m. (each_is f m).segment (λ e. r (sym (w.orderly.agree f m).kind ∙ e))) w.joined
      in
      omega (arith, n, j)

  body_limit : length body ≤ most_radial
  body_limit = by_eq h.kind radial_type radial_most (λ r. omega (arith, other_most r))

module _ (frames out : List ℕ) (s : SetSays) (e : (set_of frames out).answer ≡ given s) where
  abbrev answered : Answering frames out s
  answered = answering frames out s e

  is_whole : Whole frames s.header answered.body
  is_whole = ((accepted_exactly_if_whole frames out s.header answered.body).0 answered.is).0

  long_is : s.long.0 ≡ length answered.body
  long_is = ap (λ x. x.0) answered.long

  pub any_most : s.long.0 ≤ most_radial
  any_most = omega (arith, long_is, body_limit frames s.header answered.body is_whole)

  most : AtMost s
  most = record {
    radial = λ r. omega (arith, long_is, radial_most frames s.header answered.body is_whole r);
    other = λ r. omega (arith, long_is, other_most frames s.header answered.body is_whole r);
  }

pub body_most : BodyMost
body_most = most

-- ---- an output that is too small
room_alone : (a b c : Bool) → first {N = ℕ} (check 12 a ∷ check 12 b ∷ check 13 c ∷ []) ≡ some 13 → (a ≡ false) × (b ≡ false) × (c ≡ true)
room_alone true b c e = let z : ◌≡◌ {A = ℕ} 12 13 = cc e in absurd (omega (arith, z))
room_alone false true c e = let z : ◌≡◌ {A = ℕ} 12 13 = cc e in absurd (omega (arith, z))
room_alone false false true e = (refl, refl, refl)
room_alone false false false e = never (cc e)

pub room_for_any : RoomForAny
unfolding set_of
room_for_any frames out e = go (walk [] frames) refl e
  where
    go : (a : Answer (List Segment)) → walk [] frames ≡ a → (finish a out).answer ≡ refused 13 → length out < most_radial
    go (refused n) w q =
        let z : n ≡ 13 = cc q in
        absurd (omega (arith, z, (walk-numbers frames n w).1))
    go (given gs) w q =
        let body = body_of gs in
        let k = room_alone (not (seen gs 1)) (not (all_seen gs (count gs))) (ltb (length out) (length body))
        (rule_refused (end_checks gs (length out)) (says gs) 13 (sym (finish-answer gs out) ∙ q))
        in
        let ends : AllHold (end_checks gs (length body)) = (k.0, (k.1, (le-ltb (length body) (length body) (omega arith), tt))) in
        let same : (set_of frames body).answer ≡ given (says gs) =
        ap (λ (a : Answer (List Segment)). (finish a body).answer) w ∙ ap (λ o. o.answer) (finished gs body ends)
        in
        omega (arith, ltb-true (length out) (length body) k.2, any_most frames body (says gs) same)
