-- Laws of answers and promises. Assumes nothing.
use Prim.Native.Nat.{ℕ}
use mathlib.Core.Path.{◌≡◌, ap, sym, ◌∙◌}
use mathlib.Core.Option.{none, some}
use mathlib.Core.List.{List}
use Rattle.wire.specs.Checks.{CheckOf, Check, first}
use Rattle.wire.specs.Answers.{Answer, refused, given, rule, Outcome, refusal, outcome, Promise}
use Rattle.wire.proofs.CheckLaws.{passed, stopped, decide-none, decide-some, decide-map, never}

-- an accepted answer: no check was broken, and the value is the rule's
pub rule_given : {N A : Type 0} (ks : List (CheckOf N)) (v w : A) → rule ks v ≡ given w → (first ks ≡ none) × (v ≡ w)
rule_given ks v w e = let p = passed ks refused (given v) (given w) e (λ n q. never (cc q)) in (p.0, cc p.1)

-- a refused answer: the first broken check has that number
pub rule_refused : {N A : Type 0} (ks : List (CheckOf N)) (v : A) (n : N) → rule ks v ≡ refused n → first ks ≡ some n
rule_refused ks v n e = stopped ks refused (given v) n e (λ q. never (cc q)) (λ m q. cc q)

-- the outcome's answer and output, by the same checks
pub outcome_answer : {O A : Type 0} (ks : List Check) (out : O) (v : A) (after : O) → (outcome ks out v after).answer ≡ rule ks v
outcome_answer {O} {A} ks out v after = decide-map {Y = Answer A} (λ (o : Outcome O A). o.answer) ks (refusal out)
    (record { answer = given v; output = after })

-- "A refusal changes no lent byte"
pub outcome_refused : {O A : Type 0} (ks : List Check) (out : O) (v : A) (after : O) (n : ℕ) → (outcome ks out v after).answer ≡ refused n
    → outcome ks out v after ≡ refusal out n
outcome_refused ks out v after n e =
    decide-some ks (refusal out) (record { answer = given v; output = after }) n
    (rule_refused ks v n (sym (outcome_answer ks out v after) ∙ e))

pub outcome_given : {O A : Type 0} (ks : List Check) (out : O) (v : A) (after : O) (w : A) → (outcome ks out v after).answer ≡ given w
    → (first ks ≡ none) × (v ≡ w) × ((outcome ks out v after).output ≡ after)
outcome_given {O} {A} ks out v after w e =
    let p = rule_given ks v w (sym (outcome_answer ks out v after) ∙ e) in
    (p.0, p.1, ap (λ (o : Outcome O A). o.output) (decide-none ks (refusal out) (record { answer = given v; output = after }) p.0))

-- a promise kept: the right outcome is what r tells with `left` in the output, and that is what it leaves
pub kept : {R O A : Type 0} (tell : R → Answer A) (right : Outcome O A) (r : R) (after left : O)
    → right ≡ record { answer = tell r; output = left }
    → after ≡ left → Promise tell right r after
kept {R} {O} {A} tell right r after left e l =
    record { answers = sym (ap (λ (o : Outcome O A). o.answer) e); leaves = l ∙ sym (ap (λ (o : Outcome O A). o.output) e) }

-- no two different answers satisfy one promise, where `tell` tells different answers apart
pub only : {R O A : Type 0} (tell : R → Answer A) → ((a b : R) → tell a ≡ tell b → a ≡ b) → (right : Outcome O A) (r₁ r₂ : R) (a₁ a₂ : O)
    → Promise tell right r₁ a₁ → Promise tell right r₂ a₂ → (r₁ ≡ r₂) × (a₁ ≡ a₂)
only tell apart right r₁ r₂ a₁ a₂ p q = (apart r₁ r₂ (p.answers ∙ sym q.answers), p.leaves ∙ sym q.leaves)

-- the same of an entry with no lent output
pub only_answer : {R A : Type 0} (tell : R → Answer A) → ((a b : R) → tell a ≡ tell b → a ≡ b) → (right : Answer A) (r₁ r₂ : R)
    → tell r₁ ≡ right → tell r₂ ≡ right → r₁ ≡ r₂
only_answer tell apart right r₁ r₂ p q = apart r₁ r₂ (p ∙ sym q)
