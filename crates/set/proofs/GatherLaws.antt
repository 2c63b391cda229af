-- The loop of the first pass: what is left of the walk is the walk from the start. Assumes nothing.
use Prim.Native.Nat.{ℕ, ◌≤◌, ◌<◌}
use mathlib.Core.Path.{◌≡◌, refl, sym, ap, subst, ◌∙◌}
use mathlib.Core.Bool.{Bool, false}
use mathlib.Core.List.{List, [], ◌∷◌, ◌++◌}
use native.Mathlib.Omega.{arith}
use lib.ListN.{length, get_or, drop, replicate, length-drop, length-replicate, get_or-replicate}
use Rattle.wire.specs.Numbers.{num}
use Rattle.std.specs.Prelude.{Result, Ok, Err}
use Rattle.wire.specs.Answers.{refused}
use Rattle.wire.specs.Refusals.{number}
use Rattle.wire.specs.declared.refusal.Refusal.{Refusal}
use Rattle.frame.specs.Walk.{answers}
use Rattle.frame.proofs.WalkLaws.{walked_end, walk_stops, walk_goes}
use Rattle.frame.proofs.FrontLaws.{frames_take}
use Rattle.header.specs.declared.Header.{Header}
use Rattle.header_rule.specs.Rules.{most_segments}
use Rattle.header.specs.Header.{stored_in, header_in}
use Rattle.set_spec.specs.Segment.{Segment, segment_in, numbered}
use Rattle.set_spec.specs.Walk.{each_frame, walk}
use Rattle.set.specs.declared.Part.{Part}
use Rattle.set.specs.declared.Gathered.{Gathered}
use Rattle.set.specs.Steps.{nowhere, start_of, end_of, Tells, GoesOn, Turned, TurnTaken, Blank, Met}

pub record Going (s : List ℕ) (at : ℕ) (m : Gathered) : Type 0 where
  pub gs : List Segment
  pub tells : Tells s at m gs
  pub same : walk gs (drop at s) ≡ walk [] s

blank : (l : List Part) → l ≡ replicate most_segments nowhere → (k : ℕ) → k < most_segments → get_or l k nowhere ≡ nowhere
blank l e k low = ap (λ (x : List Part). get_or x k nowhere) e ∙ get_or-replicate most_segments k nowhere nowhere low

nothing_met : (s : List ℕ) (m : Gathered) → Blank m → Tells s 0 m []
unfolding numbered header_in stored_in num
nothing_met s m b =
    let x : (k : ℕ) → k < most_segments → start_of m k ≡ 0 = λ k l. ap (λ (p : Part). p.start) (blank m.parts b.parts_blank k l) in
    let y : (k : ℕ) → k < most_segments → end_of m k ≡ 0 = λ k l. ap (λ (p : Part). p.end) (blank m.parts b.parts_blank k l) in
    record {
      flags_long = ap length b.flags_blank ∙ length-replicate {A = Bool} most_segments false;
      parts_long = ap length b.parts_blank ∙ length-replicate {A = Part} most_segments nowhere;
      flag = λ k l. ap (λ (x : List Bool). get_or x k false) b.flags_blank ∙ get_or-replicate most_segments k false false l;
      part = λ k l. rw (x k l, y k l);
      after = λ k l. omega (arith, x k l, y k l);
      within = λ k l. omega (arith, y k l);
      small = λ k l. omega (arith, y k l);
      first = λ h. refl;
      one = b.one_blank;
      count = sym (ap (λ (h : Header). h.segments) b.first_blank);
      most = let z : m.first.segments ≡ 0 = ap (λ (h : Header). h.segments) b.first_blank in omega arith;
      place = omega arith;
    }

pub going_start : (s : List ℕ) {m : Gathered} → Blank m → Going s 0 m
going_start s {m} b = record { gs = []; tells = nothing_met s m b; same = refl }

module _ {s : List ℕ} {at : ℕ} {m : Gathered} (g : Going s at m) where
  -- a turn, by its answer
  module _ {m' : Gathered} {r : Result ℕ Refusal} (t : TurnTaken s at m m' r) (l : at < length s) where
    some : 0 < length (drop at s)
    some = rw length-drop (omega arith)

    turned : (r' : Result ℕ Refusal) → r ≡ r' → Turned s at m' g.gs r'
    turned r' e = subst (λ (x : Result ℕ Refusal). Turned s at m' g.gs x) e (t.turned g.gs g.tells)

    pub going-stops : {q : Refusal} → r ≡ Err q → walk [] s ≡ refused (number q)
    going-stops {q} e = sym g.same ∙ walk_stops each_frame frames_take g.gs (drop at s) (number q) some (turned (Err q) e)

    module _ {next : ℕ} (e : r ≡ Ok next) where
      on : GoesOn s at next m' g.gs
      on = turned (Ok next) e

      pub going_on : Going s next m'
      going_on = record {
        gs = g.gs ++ (segment_in (drop at s) ∷ []);
        tells = on.tells;
        same =
            ap (λ (x : List ℕ). walk (g.gs ++ (segment_in (drop at s) ∷ [])) x) on.rest
            ∙ sym (walk_goes each_frame frames_take g.gs (drop at s) some on.passes)
            ∙ g.same;
      }

      pub going-forward : (at < next) × (next ≤ length s)
      going-forward = (on.forward, on.tells.place)

  pub going_ends : length s ≤ at → Met s m
  going_ends l =
      let none : length (drop at s) ≡ 0 = rw length-drop (omega arith) in
      record {
        gs = g.gs;
        at = at;
        walked = sym g.same ∙ walked_end (answers each_frame) frames_take g.gs (drop at s) none;
        tells = g.tells;
      }
