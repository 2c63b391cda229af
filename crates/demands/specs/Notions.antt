-- The terms of the demands: a number of refusal, an answer by its checks, and an entry by its contract.
-- Of an entry's contract the pages say `frame_at.Learnt κs (stream, (place, tt)) r s`: what the contract of the compiled `frame_at` says of
-- a call with these arguments that returned r and left its parameters as s. Rattle makes it from the `ensures` in src/; κs are the call's
-- lifetimes. An output lent to be written is left as `at_last out after`: the same memory, which then holds `after`.
use Rattle.std.specs.Prelude.{ℕ, ◌≡◌, true, List, [], ◌∷◌, Result}
use Rattle.wire.specs.Properties.{One}
use Rattle.wire.specs.Checks.{among, Check, AllHold, Blamed}
use Rattle.wire.specs.Answers.{Answer, refused, given, number_of, Outcome, Promise}
use Rattle.wire.specs.Refusals.{number, number_in}
use Rattle.wire.specs.declared.refusal.Refusal.{Refusal}

-- the numbers of refusal, as docs/RULES.md and crates/wire/src/refusal.rt have them
abbrev pub table : List ℕ
table =
    1 ∷ 2 ∷ 3 ∷ 4 ∷ 5 ∷ 6 ∷ 7 ∷ 8 ∷ 9 ∷ 10 ∷ 11 ∷ 12 ∷ 13 ∷ 14 ∷ 15 ∷ 16 ∷ 17 ∷ 18 ∷ 19 ∷ 20 ∷ 21 ∷ 22 ∷ 23 ∷ 24 ∷ 25 ∷ 26 ∷ []

abbrev pub OfTheTable : ℕ → Type 0
OfTheTable n = among n table ≡ true

-- "given when its rule says so and not otherwise": a refusal's number is of the table and is that of the first broken check, and all
-- earlier checks hold; where the answer is no refusal, all checks hold
pub record ByChecks {A : Type 0} (ks : List Check) (right : Answer A) : Type 0 where
  pub numbered : (n : ℕ) → right ≡ refused n → OfTheTable n
  pub blamed : (n : ℕ) → right ≡ refused n → Blamed ks n
  pub passed : (v : A) → right ≡ given v → AllHold ks

-- ---- an entry, by the property P of a result that its contract is
-- exactly one result meets the contract, and `tell` of it is the rule's answer
pub record Kept {R A : Type 0} (P : R → Type 0) (tell : R → Answer A) (ks : List Check) (right : Answer A) : Type 0 where
  pub one : One P
  pub told : (r : R) → P r → tell r ≡ right
  pub by_checks : ByChecks ks right

-- the same for an entry that returns nothing but whether it refuses: its number is the rule's
pub record KeptNumber {T A : Type 0} (P : Result T Refusal → Type 0) (ks : List Check) (right : Answer A) : Type 0 where
  pub one : One P
  pub told : (r : Result T Refusal) → P r → number_in r ≡ number_of right
  pub by_checks : ByChecks ks right

-- the same for an entry that writes to lent memory, one output or two, which held `out`: "A refusal changes no lent byte"
pub record KeptLent {R O A : Type 0} (P : R → O → Type 0) (tell : R → Answer A) (ks : List Check) (right : Outcome O A)
    (out : O) : Type 0 where
  pub one : One (λ (p : R × O). P p.0 p.1)
  pub told : (r : R) (after : O) → P r after → Promise tell right r after
  pub by_checks : ByChecks ks right.answer
  pub untouched : (r : R) (after : O) (n : ℕ) → P r after → right.answer ≡ refused n → after ≡ out

-- the refusal with a number, of which P holds: no two have the same number
pub record RefusedAs (P : Refusal → Type 0) (n : ℕ) : Type 0 where
  pub refusal : Refusal
  pub numbered : number refusal ≡ n
  pub is : P refusal

-- ---- an entry by its contract P and the C function by its contract Q, of an answer and what then stands in what was lent, one output or
-- two
-- only this answer with this output meets P, and only this struct with this output meets Q
pub record Comes {R S O : Type 0} (P : R → O → Type 0) (Q : S → O → Type 0) (answer : R) (struct : S) (left : O) : Type 0 where
  pub met : P answer left
  pub met_for_c : Q struct left
  pub only : (r : R) (after : O) → P r after → (r ≡ answer) × (after ≡ left)
  pub only_for_c : (r : S) (after : O) → Q r after → (r ≡ struct) × (after ≡ left)
