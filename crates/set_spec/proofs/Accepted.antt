-- A set is accepted exactly if it is whole. Assumes nothing.
use Prim.Native.Nat.{ℕ, ◌≤◌}
use mathlib.Core.Path.{◌≡◌, refl, sym, ap, subst, ◌∙◌}
use mathlib.Core.Bool.{true, not}
use mathlib.Core.Option.{Option, none, some}
use mathlib.Core.List.{List, [], map, flatten, Memᴰ}
use lib.ListN.{length, drop}
use borrow.Author.Tests.{ltb-false, le-ltb, not-false}
use Rattle.wire.specs.Checks.{AllHold}
use Rattle.wire.specs.Answers.{Answer, refused, given, Outcome, refusal}
use Rattle.wire.specs.Sizes.{bytes}
use Rattle.wire.specs.Writing.{filled}
use Rattle.wire.proofs.ListLaws.{same_parts}
use Rattle.wire.proofs.CheckLaws.{never, all_hold, none_broken, decide-none}
use Rattle.wire.proofs.AnswerLaws.{outcome_given}
use Rattle.header.specs.declared.Header.{Header}
use Rattle.set_spec.specs.Segment.{Segment, segment_in, numbered, found, or_nothing, header_numbered}
use Rattle.set_spec.specs.Walk.{seen, count, all_seen, joined, body_of, end_checks, SetSays, says, finish, walk, set_of}
use Rattle.set_spec.specs.Whole.{header_from, Agree, Orderly, Joined, Whole}
use Rattle.set_spec.specs.Theorems.{accepted, AcceptedExactlyIfWhole}
use Rattle.set_spec.proofs.FrameLists.{cut, Ended, ended, all_walked}
use Rattle.set_spec.proofs.OrderFree.{agree_both, leader, all_agree, distinct, all_met, found_in, is_found, joined_from, joined_to, count_is}

-- ---- what an accepting outcome says of the walk
pub record Accepting (frames out : List ℕ) (h : Header) (body : List ℕ) : Type 0 where
  pub gs : List Segment
  pub walked : walk [] frames ≡ given gs
  pub ends : AllHold (end_checks gs (length out))
  pub header : header_numbered gs 1 ≡ h
  pub contents : body_of gs ≡ body

pub accepting : (frames out : List ℕ) (h : Header) (body : List ℕ) → set_of frames out ≡ accepted h body out → Accepting frames out h body
unfolding set_of
accepting frames out h body e = go (walk [] frames) refl e
  where
    go : (a : Answer (List Segment)) → walk [] frames ≡ a → finish a out ≡ accepted h body out → Accepting frames out h body
    go (refused n) w q = never (cc (ap (λ (o : Outcome (List ℕ) SetSays). o.answer) q))
    go (given gs) w q =
        let p =
        outcome_given (end_checks gs (length out)) out (says gs) (filled (body_of gs) out) (record { header = h; long = bytes (length body) })
        (ap (λ (o : Outcome (List ℕ) SetSays). o.answer) q)
        in
        let l : length (body_of gs) ≡ length body = ap (λ (s : SetSays). s.long.0) p.1 in
        record {
          gs = gs;
          walked = w;
          ends = all_hold (end_checks gs (length out)) p.0;
          header = ap (λ (s : SetSays). s.header) p.1;
          contents =
              (same_parts (body_of gs) body (drop (length (body_of gs)) out) (drop (length body) out) l
              (sym p.2 ∙ ap (λ (o : Outcome (List ℕ) SetSays). o.output) q)).0;
        }

-- and back
pub finished : (gs : List Segment) (out : List ℕ) → AllHold (end_checks gs (length out))
    → finish (given gs) out ≡ record { answer = given (says gs); output = filled (body_of gs) out }
finished gs out a =
    decide-none (end_checks gs (length out)) (refusal out) (record { answer = given (says gs); output = filled (body_of gs) out })
    (none_broken (end_checks gs (length out)) a)

-- an answer alone that accepts: the body that was accepted, and its length
pub record Answering (frames out : List ℕ) (s : SetSays) : Type 0 where
  pub body : List ℕ
  pub is : set_of frames out ≡ accepted s.header body out
  pub long : s.long ≡ bytes (length body)

pub answering : (frames out : List ℕ) (s : SetSays) → (set_of frames out).answer ≡ given s → Answering frames out s
unfolding set_of
answering frames out s e = go (walk [] frames) refl e
  where
    go : (a : Answer (List Segment)) → walk [] frames ≡ a → (finish a out).answer ≡ given s → Answering frames out s
    go (refused n) w q = never (cc q)
    go (given gs) w q =
        let p = outcome_given (end_checks gs (length out)) out (says gs) (filled (body_of gs) out) s q in
        record {
          body = body_of gs;
          is =
              ap (λ (a : Answer (List Segment)). finish a out) w
              ∙ finished gs out (all_hold (end_checks gs (length out)) p.0)
              ∙ (λ i. accepted (p.1 i).header (body_of gs) out);
          long = sym (ap (λ (x : SetSays). x.long) p.1);
        }

-- ---- accepted, so whole
is_some : (o : Option Segment) → found o ≡ true → (g : Segment) × (o ≡ some g)
is_some none e = never (cc e)
is_some (some g) e = (g, refl)

whole_of : (each : List (List ℕ)) (out : List ℕ) → Ended [] (map segment_in each) each
    → AllHold (end_checks (map segment_in each) (length out))
    → Whole (flatten each) (header_numbered (map segment_in each) 1) (body_of (map segment_in each))
whole_of each out w a =
    let gs = map segment_in each in
    let g = is_some (numbered gs 1) (not-false (seen gs 1) a.0) in
    let f = found_in each 1 g.0 g.1 in
    let h = header_numbered gs 1 in
    let is : header_from f.frame ≡ h = ap (λ (x : Segment). x.header) f.segment
    ∙ sym (ap (λ (o : Option Segment). (or_nothing o).header) g.1) in
    let agree : (x : List ℕ) → Memᴰ x each → Agree (header_from x) h =
    λ x m. subst (λ (y : Header). Agree (header_from x) y) is
    (agree_both (header_from x) (header_from f.frame) (leader each) (all_agree each w.met x m)
    (all_agree each w.met f.frame f.there))
    in
    record {
      each = each;
      orderly = record { buffer = refl; pass = w.pass; agree = agree; once = distinct [] each w.met };
      one = f.frame;
      there = f.there;
      first = f.number;
      header = is;
      joined =
          subst (λ (n : ℕ). Joined each n (body_of gs)) (count_is each h agree f.frame f.there)
          (joined_from each (count gs) (not-false (all_seen gs (count gs)) a.1.0));
    }

sound : (frames out : List ℕ) (h : Header) (body : List ℕ) → set_of frames out ≡ accepted h body out
    → Whole frames h body × (length body ≤ length out)
sound frames out h body e =
    let a = accepting frames out h body e in
    let c = cut [] a.gs frames a.walked in
    let w : Ended [] a.gs c.the =
    ended c.the [] a.gs c.meets.whole (ap (λ (x : List ℕ). walk [] x) c.meets.joined ∙ a.walked) in
    let gs : a.gs ≡ map segment_in c.the = w.grown in
    let o = whole_of c.the out (subst (λ (x : List Segment). Ended [] x c.the) gs w)
    (subst (λ (x : List Segment). AllHold (end_checks x (length out))) gs a.ends)
    in
    let room : length (body_of a.gs) ≤ length out = ltb-false (length out) (length (body_of a.gs)) a.ends.1.1.0 in (
      subst (λ (x : List ℕ). Whole x h body) c.meets.joined
          (subst (λ (x : Header). Whole (flatten c.the) x body) (ap (λ (x : List Segment). header_numbered x 1) (sym gs) ∙ a.header)
          (subst (λ (x : List ℕ). Whole (flatten c.the) (header_numbered (map segment_in c.the) 1) x) (ap body_of (sym gs)
          ∙ a.contents) o)),
      subst (λ (x : List ℕ). length x ≤ length out) a.contents room,
    )

-- ---- whole, so accepted
pub orderly_walked : (frames : List ℕ) (h : Header) (each : List (List ℕ)) → Orderly frames h each
    → walk [] frames ≡ given (map segment_in each)
orderly_walked frames h each o =
    ap (λ (x : List ℕ). walk [] x) (sym o.buffer) ∙ all_walked each [] o.pass (all_met each h o.agree o.once)

complete : (frames out : List ℕ) (h : Header) (body : List ℕ) → Whole frames h body × (length body ≤ length out)
    → set_of frames out ≡ accepted h body out
unfolding set_of
complete frames out h body (w, room) =
    let o = w.orderly in
    let gs = map segment_in w.each in
    let one : numbered gs 1 ≡ some (segment_in w.one) =
    ap (λ (k : ℕ). numbered gs k) (sym w.first) ∙ is_found w.each w.one w.there o.once
    in
    let n : count gs ≡ h.segments = count_is w.each h o.agree w.one w.there in
    let j = joined_to w.each o.once w.joined in
    let all : all_seen gs (count gs) ≡ true = ap (λ (k : ℕ). all_seen gs k) n ∙ j.0 in
    let b : body_of gs ≡ body = ap (λ (k : ℕ). joined gs k) n ∙ j.1 in
    let head : header_numbered gs 1 ≡ h = ap (λ (x : Option Segment). (or_nothing x).header) one ∙ w.header in
    let fits : length (body_of gs) ≤ length out = rw b room in
    let ends : AllHold (end_checks gs (length out)) = (
      ap (λ (x : Option Segment). not (found x)) one,
      (ap not all, (le-ltb (length out) (length (body_of gs)) fits, tt)),
    )
    in
    ap (λ (a : Answer (List Segment)). finish a out) (orderly_walked frames h w.each o)
    ∙ finished gs out ends
    ∙ (λ i. record { answer = given (record { header = head i; long = bytes (length (b i)) }); output = filled (b i) out })

pub accepted_exactly_if_whole : AcceptedExactlyIfWhole
accepted_exactly_if_whole = λ frames out h body. (sound frames out h body, complete frames out h body)
