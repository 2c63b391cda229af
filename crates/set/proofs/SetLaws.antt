-- What the whole reader promises, from what the first pass left. Assumes nothing.
use Prim.Native.Nat.{ℕ, zero, suc, ◌≤◌, ◌<◌}
use mathlib.Core.Path.{◌≡◌, refl, sym, ap, subst, ◌∙◌}
use mathlib.Core.Bool.{true, false}
use mathlib.Core.Option.{none, some}
use mathlib.Core.List.{List}
use native.Mathlib.Omega.{arith}
use lib.ListN.{length, get_or}
use borrow.Author.Tests.{lt-ltb, le-ltb}
use Rattle.wire.specs.Checks.{first}
use Rattle.std.specs.Prelude.{Result, Ok, Err}
use Rattle.wire.specs.Refusals.{number}
use Rattle.wire.specs.declared.refusal.Refusal.{Refusal}
use Rattle.wire.specs.declared.refusal.Refusal.TheVariants.{Absent, OutputSmall}
use Rattle.wire.specs.Answers.{Answer, given, Outcome, refusal, outcome, Promise}
use Rattle.wire.specs.Sizes.{bytes}
use Rattle.wire.specs.Writing.{filled}
use Rattle.wire.proofs.CheckLaws.{decide-none, decide-some}
use Rattle.wire.proofs.AnswerLaws.{kept}
use Rattle.header_rule.specs.Rules.{most_segments}
use Rattle.set_spec.specs.Segment.{Segment}
use Rattle.set_spec.specs.Walk.{seen, all_seen, joined, body_of, end_checks, SetSays, says, finish, set_of, count}
use Rattle.set.specs.declared.Gathered.{Gathered}
use Rattle.set.specs.Told.{tell_set}
use Rattle.set.specs.Steps.{Tells, Met, GatheredBy, Gathers, Parts, Within, all_set, parts_long, parts}
use Rattle.set.proofs.ArrayLaws.{parts_long_lem}

-- ---- what the first pass left, by its answer
module _ {s : List ℕ} {m : Gathered} {r : Result (Unit {0}) Refusal} (g : Gathers s m r) where
  gathered_as : (r' : Result (Unit {0}) Refusal) → r ≡ r' → GatheredBy s m r'
  gathered_as r' e = subst (λ (x : Result (Unit {0}) Refusal). GatheredBy s m x) e g.gathered

  pub met_is : {u : Unit {0}} → r ≡ Ok u → Met s m
  met_is {u} e = gathered_as (Ok u) e

  pub broken_off : {q : Refusal} (out : List ℕ) → r ≡ Err q → Promise tell_set (set_of s out) (Err q) out
  unfolding set_of
  broken_off {q} out e =
      kept tell_set _ (Err q) _ out (ap (λ (a : Answer (List Segment)). finish a out) (gathered_as (Err q) e)) refl

-- ---- the arrays and the segments met
module _ {s : List ℕ} {at : ℕ} {m : Gathered} {gs : List Segment} (t : Tells s at m gs) where
  all_is : (n : ℕ) → n ≤ most_segments → all_set m.flags n ≡ all_seen gs n
  unfolding all_set all_seen
  all_is zero l = refl
  all_is (suc n) l = rw (all_is n (omega arith), t.flag n (omega arith))

  parts_is : (n : ℕ) → n ≤ most_segments → parts s m n ≡ joined gs n
  unfolding parts joined
  parts_is zero l = refl
  parts_is (suc n) l = rw (parts_is n (omega arith), t.part n (omega arith))

module _ {s : List ℕ} {m : Gathered} (met : Met s m) where
  abbrev n : ℕ
  n = m.first.segments

  pub most : n ≤ most_segments
  most = met.tells.most

  pub parts_lie : Parts m
  parts_lie k l = (met.tells.after k l, met.tells.small k l)

  parts_within : Within s m
  parts_within k l = met.tells.within k l

  abbrev gs : List Segment
  gs = met.gs

  is_one : get_or m.flags 0 false ≡ seen gs 1
  is_one = met.tells.flag 0 (omega arith)

  is_all : all_set m.flags n ≡ all_seen gs (count gs)
  is_all = all_is met.tells n most ∙ ap (λ (i : ℕ). all_seen gs i) (sym met.tells.count)

  is_body : parts s m n ≡ body_of gs
  is_body = parts_is met.tells n most ∙ ap (λ (i : ℕ). joined gs i) (sym met.tells.count)

  is_long : parts_long m n ≡ length (body_of gs)
  is_long = sym (parts_long_lem s m parts_lie parts_within n most) ∙ ap length is_body

  module _ (out : List ℕ) where
    ended : set_of s out ≡ outcome (end_checks gs (length out)) out (says gs) (filled (body_of gs) out)
    unfolding set_of
    ended = ap (λ (a : Answer (List Segment)). finish a out) met.walked

    stops : (q : Refusal) → first (end_checks gs (length out)) ≡ some (number q) → Promise tell_set (set_of s out) (Err q) out
    stops q e =
        kept tell_set _ (Err q) _ out
        (ended ∙ decide-some (end_checks gs (length out)) (refusal out)
        (record { answer = given (says gs); output = filled (body_of gs) out }) (number q) e)
        refl

    pub one-absent : get_or m.flags 0 false ≡ false → Promise tell_set (set_of s out) (Err Absent) out
    one-absent a = let p : seen gs 1 ≡ false = sym is_one ∙ a in stops Absent (simp p)

    module _ (a : get_or m.flags 0 false ≡ true) where
      one : seen gs 1 ≡ true
      one = sym is_one ∙ a

      pub some-absent : all_set m.flags n ≡ false → Promise tell_set (set_of s out) (Err Absent) out
      some-absent b = let q : all_seen gs (count gs) ≡ false = sym is_all ∙ b in stops Absent (simp (one, q))

      module _ (b : all_set m.flags n ≡ true) {long : ℕ} (l : long ≡ parts_long m n) where
        all : all_seen gs (count gs) ≡ true
        all = sym is_all ∙ b

        pub too_small : length out < long → Promise tell_set (set_of s out) (Err OutputSmall) out
        too_small c =
            let d : length out < length (body_of gs) = omega (arith, is_long, l) in
            stops OutputSmall (simp (one, all, lt-ltb (length out) (length (body_of gs)) d))

        pub accepts : long ≤ length out → {after : List ℕ} → after ≡ filled (parts s m n) out
            → Promise tell_set (set_of s out) (Ok (record { header = m.one; length = bytes long })) after
        accepts c {after} e =
            let d : length (body_of gs) ≤ length out = omega (arith, is_long, l) in
            let f : first (end_checks gs (length out)) ≡ none = simp (one, all, le-ltb (length out) (length (body_of gs)) d) in
            let r : set_of s out ≡ record { answer = given (says gs); output = filled (body_of gs) out } =
            ended ∙ decide-none (end_checks gs (length out)) (refusal out)
            (record { answer = given (says gs); output = filled (body_of gs) out }) f
            in
            record {
              answers =
                  rw (met.tells.one, l, is_long) (sym (ap (λ (o : Outcome (List ℕ) SetSays). o.answer) r));
              leaves = e ∙ ap (λ (x : List ℕ). filled x out) is_body ∙ sym (ap (λ (o : Outcome (List ℕ) SetSays). o.output) r);
            }
