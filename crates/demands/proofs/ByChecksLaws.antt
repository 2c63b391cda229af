-- Generic laws of an answer by its checks. Assumes nothing.
use Prim.Native.Nat.{ℕ, zero, suc}
use mathlib.Core.Path.{◌≡◌, refl, sym, ap, subst, ◌∙◌}
use mathlib.Core.Bool.{Bool, true, false}
use mathlib.Core.Option.{Option, none, some}
use mathlib.Core.Logic.{◌⊎◌, inl, inr, ⊎_elim}
use mathlib.Core.List.{List, [], ◌∷◌, ◌++◌, append_assoc}
use lib.ListN.{length, drop}
use Rattle.wire.specs.Checks.{among, Check, first, decide, AllHold, Blamed}
use Rattle.wire.specs.Answers.{Answer, refused, given, number_of, onward, rule, Outcome, outcome, Promise}
use Rattle.wire.proofs.CheckLaws.{never, numbers_pass, pass-join, first_passes, passed, decide-none, decide-some, decide-map, all_hold, all_hold_join, blame}
use Rattle.std.specs.Prelude.{Result, Ok, Err}
use Rattle.wire.specs.declared.refusal.Refusal.{Refusal}
use Rattle.wire.specs.Refusals.{tell, number_in}
use Rattle.wire.proofs.RefusalLaws.{refusals, refusal_of, number_there, tell_apart, number_in-apart}
use Rattle.wire.proofs.AnswerLaws.{rule_given, rule_refused, outcome_answer, outcome_refused, only, only_answer}
use Rattle.frame.specs.Walk.{turns, walked, Checked, answers, in_order}
use Rattle.demands.specs.Notions.{table, OfTheTable, ByChecks, Kept, KeptNumber, KeptLent}

-- ---- numbers of the table, by a test that is computed
abbrev pub inside : List Check → Bool
inside = numbers_pass (λ n. among n table)

pub inside_join : (a b : List Check) → inside a ≡ true → inside b ≡ true → inside (a ++ b) ≡ true
inside_join = pass-join (λ n. among n table)

first_inside : (ks : List Check) (n : ℕ) → inside ks ≡ true → first ks ≡ some n → OfTheTable n
first_inside = first_passes (λ n. among n table)

-- 0 is none of them
pub above_0 : (n : ℕ) → OfTheTable n → n ≡ 0 → ⊥
above_0 n t e = let z : false ≡ true = subst (λ (k : ℕ). among k table ≡ true) e t in never (cc z)

-- ---- an answer by one list
pub by_first : {A : Type 0} (ks : List Check) (right : Answer A) → inside ks ≡ true → ((n : ℕ) → right ≡ refused n → first ks ≡ some n)
    → ((v : A) → right ≡ given v → first ks ≡ none) → ByChecks ks right
by_first ks right i r g = record {
  numbered = λ n e. first_inside ks n i (r n e);
  blamed = λ n e. blame ks n (r n e);
  passed = λ v e. all_hold ks (g v e);
}

pub by_rule : {A : Type 0} (ks : List Check) (v : A) → inside ks ≡ true → ByChecks ks (rule ks v)
by_rule ks v i = by_first ks (rule ks v) i (λ n e. rule_refused ks v n e) (λ w e. (rule_given ks v w e).0)

pub by_same : {A : Type 0} (ks : List Check) (a b : Answer A) → a ≡ b → ByChecks ks b → ByChecks ks a
by_same ks a b e h = rw e h

-- ---- an answer by one list and then another: what the first leaves is asked of the second
append-same : (a : List Check) (k : Check) (b c : List Check) → (a ++ (k ∷ b)) ++ c ≡ a ++ (k ∷ (b ++ c))
append-same a k b c = append_assoc a (k ∷ b) c

blamed_first : (ks ls : List Check) (n : ℕ) → Blamed ks n → Blamed (ks ++ ls) n
blamed_first ks ls n h = record {
  before = h.before;
  blamed = h.blamed;
  after = h.after ++ ls;
  listed = ap (λ (l : List Check). l ++ ls) h.listed ∙ append-same h.before h.blamed h.after ls;
  hold = h.hold;
  broken = h.broken;
  number = h.number;
}

blamed_then : (ks ls : List Check) (n : ℕ) → AllHold ks → Blamed ls n → Blamed (ks ++ ls) n
blamed_then ks ls n p h = record {
  before = ks ++ h.before;
  blamed = h.blamed;
  after = h.after;
  listed = ap (λ (l : List Check). ks ++ l) h.listed ∙ sym (append_assoc ks h.before (h.blamed ∷ h.after));
  hold = all_hold_join ks h.before p h.hold;
  broken = h.broken;
  number = h.number;
}

-- the first list stopped, or it left what comes after it
pub stop_or_go : {A : Type 0} (ks : List Check) (next : Answer A) (n : ℕ) → decide ks refused next ≡ refused n
    → (first ks ≡ some n) ⊎ ((first ks ≡ none) × (next ≡ refused n))
stop_or_go ks next n e = go (first ks) refl
  where
    go : (o : Option ℕ) → first ks ≡ o → (first ks ≡ some n) ⊎ ((first ks ≡ none) × (next ≡ refused n))
    go none p = inr (p, sym (decide-none ks refused next p) ∙ e)
    go (some m) p = let q : m ≡ n = cc (sym (decide-some ks refused next m p) ∙ e) in inl (p ∙ ap some q)

module _ {A : Type 0} (ks ls : List Check) (next : Answer A) (i : inside ks ≡ true) (h : ByChecks ls next) where
  pub by_then : ByChecks (ks ++ ls) (decide ks refused next)
  by_then = record {
    numbered = λ n e. ⊎_elim (λ p. first_inside ks n i p) (λ p. h.numbered n p.1) (stop_or_go ks next n e);
    blamed = λ n e. ⊎_elim (λ p. blamed_first ks ls n (blame ks n p))
        (λ p. blamed_then ks ls n (all_hold ks p.0) (h.blamed n p.1)) (stop_or_go ks next n e);
    passed = λ v e.
        let p = passed ks refused next (given v) e (λ n q. never (cc q)) in
        all_hold_join ks ls (all_hold ks p.0) (h.passed v p.1);
  }

-- ---- an answer by the checks of a walk, place by place, and then by those of its end
module _ {S A : Type 0} (c : Checked S ℕ) (at_end : S → List Check) (f : S → Answer A)
    (i : (s : S) (rest : List ℕ) → inside (c.checks s rest) ≡ true) (h : (s : S) → ByChecks (at_end s) (f s)) where
  by_turns : (n : ℕ) (s : S) (rest : List ℕ) → ByChecks (turns (in_order c at_end) n s rest) (onward (turns (answers c) n s rest) f)
  unfolding turns
  by_turns zero s rest = h s
  by_turns (suc n) s [] = h s
  by_turns (suc n) s (byte ∷ more) =
      let rest : List ℕ = byte ∷ more in
      let ks = c.checks s rest in
      let ls = turns (in_order c at_end) n (c.next s rest) (drop (c.takes s rest) rest) in
      let later = turns (answers c) n (c.next s rest) (drop (c.takes s rest) rest) in
      by_same (ks ++ ls) (onward (decide ks refused later) f) (decide ks refused (onward later f))
      (decide-map (λ (a : Answer S). onward a f) ks refused later)
      (by_then ks ls (onward later f) (i s rest) (by_turns n (c.next s rest) (drop (c.takes s rest) rest)))

  pub by_walk : (s : S) (rest : List ℕ) → ByChecks (walked (in_order c at_end) s rest) (onward (walked (answers c) s rest) f)
  by_walk s rest = by_turns (length rest) s rest

-- ---- what is shown of an answer is refused as it is
pub by_shown : {A B : Type 0} (f : A → B) (ks : List Check) (a : Answer A) → ByChecks ks a → ByChecks ks (onward a (λ v. given (f v)))
by_shown f ks (refused n) h = record {
  numbered = λ k e. h.numbered k (cc e);
  blamed = λ k e. h.blamed k (cc e);
  passed = λ v e. never (cc e);
}
by_shown f ks (given v) h = record { numbered = λ k e. never (cc e); blamed = λ k e. never (cc e); passed = λ w e. h.passed v refl }

-- ---- entries that return a result
-- `f` reads the value of an Ok, and `g` makes it of what is read: so a result is made of each answer that tells it, and no two tell the same
module _ {T A : Type 0} (f : T → A) (g : A → T) (reads : (v : A) → f (g v) ≡ v) (back : (x : T) → g (f x) ≡ x) where
  abbrev show : Answer A → Result T Refusal
  show (refused n) = Err (refusal_of n)
  show (given v) = Ok (g v)

  tells : (a : Answer A) → ((n : ℕ) → a ≡ refused n → OfTheTable n) → tell f (show a) ≡ a
  tells (refused n) h = ap refused (number_there n refusals (h n refl))
  tells (given v) h = ap given (reads v)

  apart : (a b : Result T Refusal) → tell f a ≡ tell f b → a ≡ b
  apart = tell_apart f (λ x y e. sym (back x) ∙ ap g e ∙ back y)

  pub kept : (ks : List Check) (right : Answer A) → ByChecks ks right → Kept (λ r. tell f r ≡ right) (tell f) ks right
  kept ks right h =
      let e = tells right h.numbered in
      record {
        one = record { the = show right; meets = e; only = λ r q. only_answer (tell f) apart right r (show right) q e };
        told = λ r q. q;
        by_checks = h;
      }

  pub kept-lent : {O : Type 0} (ks : List Check) (right : Outcome O A) (out : O) → ByChecks ks right.answer
      → ((n : ℕ) → right.answer ≡ refused n → right.output ≡ out) → KeptLent (Promise (tell f) right) (tell f) ks right out
  kept-lent ks right out h u =
      let meets : Promise (tell f) right (show right.answer) right.output
      = record { answers = tells right.answer h.numbered; leaves = refl } in
      record {
        one = record {
          the = (show right.answer, right.output);
          meets = meets;
          only = λ p e. let q = only (tell f) apart right p.0 (show right.answer) p.1 right.output e meets in
              λ i. (q.0 i, q.1 i);
        };
        told = λ r after e. e;
        by_checks = h;
        untouched = λ r after n e q. e.leaves ∙ u n q;
      }

-- the same where an Ok holds what the rule gives
module _ {A : Type 0} where
  pub kept-value : (ks : List Check) (right : Answer A) → ByChecks ks right
      → Kept (λ (r : Result A Refusal). tell (λ v. v) r ≡ right) (tell (λ v. v)) ks right
  kept-value = kept (λ v. v) (λ v. v) (λ v. refl) (λ v. refl)

  pub kept-lent-value : {O : Type 0} (ks : List Check) (right : Outcome O A) (out : O) → ByChecks ks right.answer
      → ((n : ℕ) → right.answer ≡ refused n → right.output ≡ out)
      → KeptLent (Promise (tell (λ (v : A). v)) right) (tell (λ v. v)) ks right out
  kept-lent-value = kept-lent (λ v. v) (λ v. v) (λ v. refl) (λ v. refl)

-- an entry that returns nothing but whether it refuses
pub kept_number : {A : Type 0} (ks : List Check) (right : Answer A) → ByChecks ks right
    → KeptNumber (λ (r : Result (Unit {0}) Refusal). number_in r ≡ number_of right) ks right
kept_number {A} ks right h =
    let e = numbered right h.numbered in
    record {
      one = record { the = only_number right; meets = e; only = λ r q. number_in-apart r (only_number right) (q ∙ sym e) };
      told = λ r q. q;
      by_checks = h;
    }
  where
    only_number : Answer A → Result (Unit {0}) Refusal
    only_number (refused n) = Err (refusal_of n)
    only_number (given v) = Ok tt

    numbered : (a : Answer A) → ((n : ℕ) → a ≡ refused n → OfTheTable n) → number_in (only_number a) ≡ number_of a
    numbered (refused n) h = number_there n refusals (h n refl)
    numbered (given v) h = refl

-- an outcome by one list
pub by_outcome : {O A : Type 0} (ks : List Check) (out : O) (v : A) (after : O) → inside ks ≡ true
    → ByChecks ks (outcome ks out v after).answer
by_outcome ks out v after i = by_same ks (outcome ks out v after).answer (rule ks v) (outcome_answer ks out v after) (by_rule ks v i)

pub outcome_untouched : {O A : Type 0} (ks : List Check) (out : O) (v : A) (after : O) (n : ℕ) → (outcome ks out v after).answer ≡ refused n
    → (outcome ks out v after).output ≡ out
outcome_untouched {O} {A} ks out v after n e = ap (λ (o : Outcome O A). o.output) (outcome_refused ks out v after n e)
