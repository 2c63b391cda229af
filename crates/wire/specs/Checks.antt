-- "Order": checks one after the other, each with its number of refusal. The first broken one decides.
use Rattle.std.specs.Prelude.{ℕ, ◌≡◌, Bool, true, false, List, [], ◌∷◌, ◌++◌, eqb}
use Rattle.std.proofs.Math.Option.{Option, none, some}
use Rattle.wire.specs.Properties.{Each}

abbrev pub pick {ℓ} : {X : Type ℓ} → Bool → X → X → X
pick true x y = x
pick false x y = y

abbrev pub either : Bool → Bool → Bool
either a b = pick a true b

abbrev pub both : Bool → Bool → Bool
both a b = pick a b false

-- x is one of the numbers listed
abbrev pub among : ℕ → List ℕ → Bool
among x [] = false
among x (y ∷ ys) = either (eqb x y) (among x ys)

-- a check: its number of refusal, and whether its rule is broken. N is what a refusal carries: the number alone, or a record that has it
pub record CheckOf (N : Type 0) : Type 0 where
  pub number : N
  pub broken : Bool

abbrev pub Check : Type 0
Check = CheckOf ℕ

abbrev pub check : {N : Type 0} → N → Bool → CheckOf N
check n t = record { number = n; broken = t }

-- the number of the first broken check, if any is broken
abbrev pub first : {N : Type 0} → List (CheckOf N) → Option N
first [] = none
first (k ∷ ks) = pick k.broken (some k.number) (first ks)

-- the result of a list of checks: `refused` with the number of the first broken one, or `accepted`
abbrev pub decide {ℓ} : {N : Type 0} {X : Type ℓ} → List (CheckOf N) → (N → X) → X → X
decide [] refused accepted = accepted
decide (k ∷ ks) refused accepted = pick k.broken (refused k.number) (decide ks refused accepted)

-- some check of the list is broken
abbrev pub some_broken : {N : Type 0} → List (CheckOf N) → Bool
some_broken [] = false
some_broken (k ∷ ks) = either k.broken (some_broken ks)

-- every check of the list holds
abbrev pub AllHold : {N : Type 0} → List (CheckOf N) → Type 0
AllHold {N} ks = Each (λ (k : CheckOf N). k.broken ≡ false) ks

-- a refusal with the number n is explained: a check with this number is broken, and every check before it holds
pub record Blamed {N : Type 0} (ks : List (CheckOf N)) (n : N) : Type 0 where
  pub before : List (CheckOf N)
  pub blamed : CheckOf N
  pub after : List (CheckOf N)
  pub listed : ks ≡ before ++ (blamed ∷ after)
  pub hold : AllHold before
  pub broken : blamed.broken ≡ true
  pub number : blamed.number ≡ n
