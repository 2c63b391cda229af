-- Laws of ordered checks: what a refusal and an acceptance say about each check. Assumes nothing.
use Prim.Native.Nat.{ℕ}
use mathlib.Core.Path.{◌≡◌, refl, ap, sym, ◌∙◌}
use mathlib.Core.Bool.{Bool, true, false, ◌||◌}
use mathlib.Core.Option.{Option, none, some}
use mathlib.Core.List.{List, [], ◌∷◌, ◌++◌}
use native.Mathlib.Omega.{arith}
use lib.Dec.{eqb}
use borrow.Author.Tests.{eqb-true, eqb-false}
use Rattle.std.proofs.lemmas.Bool.Decides.{nat_tests}
use Rattle.std.specs.List.{list_any}
use Rattle.wire.specs.Properties.{Each}
use Rattle.wire.specs.Checks.{pick, either, both, among, CheckOf, Check, first, decide, some_broken, AllHold, Blamed}
use Rattle.wire.proofs.EachLaws.{each_append, each_split}

-- zero is not one, so anything follows: for two constructors that cannot meet, by `never (cc e)`
pub never {ℓ} : {A : Type ℓ} → ◌≡◌ {A = ℕ} 0 1 → A
never e = absurd (no_way e)
  where
    no_way : ◌≡◌ {A = ℕ} 0 1 → ⊥
    no_way p = omega (arith, p)

-- what comes of a test that changes nothing
pub pick_same {ℓ} : {X : Type ℓ} (t : Bool) (x : X) → pick t x x ≡ x
pick_same true x = refl
pick_same false x = refl

-- two numbers are equal or not
pub by_eq {ℓ} : {A : Type ℓ} (j k : ℕ) → (j ≡ k → A) → ((j ≡ k → ⊥) → A) → A
by_eq {A} j k same other = go (eqb j k) refl
  where
    go : (t : Bool) → eqb j k ≡ t → A
    go true p = same (eqb-true j k p)
    go false p = other (eqb-false j k p)

-- ---- tests joined
pub either_false : (t : Bool) → either t false ≡ t
either_false true = refl
either_false false = refl

pub either_true : (t : Bool) → either t true ≡ true
either_true true = refl
either_true false = refl

pub both_false : (t : Bool) → both t false ≡ false
both_false true = refl
both_false false = refl

pub neither : (a b : Bool) → either a b ≡ false → (a ≡ false) × (b ≡ false)
neither true b e = never (cc e)
neither false b e = (refl, e)

pub both_true : (a b : Bool) → both a b ≡ true → (a ≡ true) × (b ≡ true)
both_true true b e = (refl, e)
both_true false b e = (e, cc e)

-- one test after the other: it is met; it is not, and the next ones say; it is the last
pub hit : (a b : Bool) → a ≡ true → true ≡ either a b
hit a b h = simp h

pub miss : (a b r : Bool) → a ≡ false → r ≡ b → r ≡ either a b
miss a b r h e = simp h e

pub last : (a r : Bool) → r ≡ a → r ≡ either a false
last a r e = e ∙ sym (either_false a)

-- the words of the toolchain's library for the same
pub either_or : (a b : Bool) → either a b ≡ a || b
either_or true b = refl
either_or false b = refl

same_test : (x y : ℕ) → eqb x y ≡ eqb y x
same_test x y = grind (arith, nat_tests)

pub among_any : (x : ℕ) (l : List ℕ) → among x l ≡ list_any (λ y. eqb y x) l
among_any x [] = refl
among_any x (y ∷ l) = rw (same_test x y, among_any x l) (either_or (eqb y x) (list_any (λ y. eqb y x) l))

-- ---- checks in turn

abbrev answered {ℓ} : {N : Type 0} {X : Type ℓ} → Option N → (N → X) → X → X
answered none refused accepted = accepted
answered (some n) refused accepted = refused n

-- what decides is the number of the first broken check, and nothing else about them
decide-first {ℓ} : {N : Type 0} {X : Type ℓ} (ks : List (CheckOf N)) (f : N → X) (ok : X) → decide ks f ok ≡ answered (first ks) f ok
decide-first [] f ok = refl
decide-first (k ∷ ks) f ok = go k.broken (decide-first ks f ok)
  where
    go : (t : Bool) → decide ks f ok ≡ answered (first ks) f ok
        → pick t (f k.number) (decide ks f ok) ≡ answered (pick t (some k.number) (first ks)) f ok
    go true h = refl
    go false h = h

pub decide-none {ℓ} : {N : Type 0} {X : Type ℓ} (ks : List (CheckOf N)) (f : N → X) (ok : X) → first ks ≡ none → decide ks f ok ≡ ok
decide-none {N} ks f ok p = decide-first ks f ok ∙ ap (λ (o : Option N). answered o f ok) p

pub decide-some {ℓ} : {N : Type 0} {X : Type ℓ} (ks : List (CheckOf N)) (f : N → X) (ok : X) (n : N) → first ks ≡ some n
    → decide ks f ok ≡ f n
decide-some {N} ks f ok n p = decide-first ks f ok ∙ ap (λ (o : Option N). answered o f ok) p

-- an answer that is no refusal: no check was broken
pub passed {ℓ} : {N : Type 0} {X : Type ℓ} (ks : List (CheckOf N)) (f : N → X) (ok x : X) → decide ks f ok ≡ x → ((n : N) → f n ≡ x → ⊥)
    → (first ks ≡ none) × (ok ≡ x)
passed {N} ks f ok x e ne = go (first ks) refl
  where
    go : (o : Option N) → first ks ≡ o → (first ks ≡ none) × (ok ≡ x)
    go none p = (p, sym (decide-none ks f ok p) ∙ e)
    go (some n) p = absurd (ne n (sym (decide-some ks f ok n p) ∙ e))

-- a refusal: which check was the first broken one
pub stopped {ℓ} : {N : Type 0} {X : Type ℓ} (ks : List (CheckOf N)) (f : N → X) (ok : X) (n : N) → decide ks f ok ≡ f n → (ok ≡ f n → ⊥)
    → ((m : N) → f m ≡ f n → m ≡ n) → first ks ≡ some n
stopped {N} ks f ok n e ne apart = go (first ks) refl
  where
    go : (o : Option N) → first ks ≡ o → first ks ≡ some n
    go none p = absurd (ne (sym (decide-none ks f ok p) ∙ e))
    go (some m) p = p ∙ ap some (apart m (sym (decide-some ks f ok m p) ∙ e))

-- checks one list after the other
pub decide-append {ℓ} : {N : Type 0} {X : Type ℓ} (a b : List (CheckOf N)) (f : N → X) (ok : X)
    → decide (a ++ b) f ok ≡ decide a f (decide b f ok)
decide-append [] b f ok = refl
decide-append {X = X} (k ∷ a) b f ok = ap (λ (x : X). pick k.broken (f k.number) x) (decide-append a b f ok)

-- a function of a decision can be applied to each of its results instead
pub decide-map {ℓ κ} : {N : Type 0} {X : Type ℓ} {Y : Type κ} (g : X → Y) (ks : List (CheckOf N)) (f : N → X) (ok : X)
    → g (decide ks f ok) ≡ decide ks (λ n. g (f n)) (g ok)
decide-map g [] f ok = refl
decide-map g (k ∷ ks) f ok = go k.broken (decide-map g ks f ok)
  where
    go : (t : Bool) → g (decide ks f ok) ≡ decide ks (λ n. g (f n)) (g ok)
        → g (pick t (f k.number) (decide ks f ok)) ≡ pick t (g (f k.number)) (decide ks (λ n. g (f n)) (g ok))
    go true h = refl
    go false h = h

-- every check of the list has a number above 0
abbrev pub AllAbove0 : List Check → Type 0
AllAbove0 ks = Each (λ (k : Check). eqb k.number 0 ≡ false) ks

-- so the number of the first broken one, or 0 where none is broken, says all that they decide
pub decide_number {ℓ} : {X : Type ℓ} (ks : List Check) (f : ℕ → X) (ok : X) → AllAbove0 ks
    → decide ks f ok ≡ pick (eqb (decide ks (λ (n : ℕ). n) 0) 0) ok (f (decide ks (λ (n : ℕ). n) 0))
decide_number [] f ok a = refl
decide_number (k ∷ ks) f ok a = go k.broken (decide_number ks f ok a.1)
  where
    go : (t : Bool) → decide ks f ok ≡ pick (eqb (decide ks (λ (n : ℕ). n) 0) 0) ok (f (decide ks (λ (n : ℕ). n) 0))
        → pick t (f k.number) (decide ks f ok)
        ≡ pick (eqb (pick t k.number (decide ks (λ (n : ℕ). n) 0)) 0) ok (f (pick t k.number (decide ks (λ (n : ℕ). n) 0)))
    go true h = simp a.0
    go false h = h

-- every check of the list has the number n
abbrev pub AllNumbered : {N : Type 0} → N → List (CheckOf N) → Type 0
AllNumbered {N} n ks = Each (λ (k : CheckOf N). k.number ≡ n) ks

-- checks of one number decide as one: is some of them broken
pub decide-same {ℓ} : {N : Type 0} {X : Type ℓ} (n : N) (ks rest : List (CheckOf N)) (f : N → X) (ok : X) → AllNumbered n ks
    → decide (ks ++ rest) f ok ≡ pick (some_broken ks) (f n) (decide rest f ok)
decide-same n [] rest f ok a = refl
decide-same n (k ∷ ks) rest f ok a = go k.broken (decide-same n ks rest f ok a.1)
  where
    go : (t : Bool) → decide (ks ++ rest) f ok ≡ pick (some_broken ks) (f n) (decide rest f ok)
        → pick t (f k.number) (decide (ks ++ rest) f ok) ≡ pick (pick t true (some_broken ks)) (f n) (decide rest f ok)
    go true h = ap f a.0
    go false h = h

holds_first : {N : Type 0} (k : CheckOf N) (ks : List (CheckOf N)) → first (k ∷ ks) ≡ none → (k.broken ≡ false) × (first ks ≡ none)
holds_first k ks e = go k.broken refl e
  where
    go : (t : Bool) → k.broken ≡ t → pick t (some k.number) (first ks) ≡ none → (k.broken ≡ false) × (first ks ≡ none)
    go true p q = never (cc q)
    go false p q = (p, q)

-- none is broken: each holds; and back
pub all_hold : {N : Type 0} (ks : List (CheckOf N)) → first ks ≡ none → AllHold ks
all_hold [] e = tt
all_hold (k ∷ ks) e = let p = holds_first k ks e in (p.0, all_hold ks p.1)

pub none_broken : {N : Type 0} (ks : List (CheckOf N)) → AllHold ks → first ks ≡ none
none_broken [] p = refl
none_broken (k ∷ ks) p = simp p.0 (none_broken ks p.1)

-- no check is broken, said as a test
pub hold_none : {N : Type 0} (ks : List (CheckOf N)) → AllHold ks → some_broken ks ≡ false
hold_none [] p = refl
hold_none (k ∷ ks) p = simp p.0 (hold_none ks p.1)

pub some_broken-append : {N : Type 0} (a b : List (CheckOf N)) → some_broken (a ++ b) ≡ either (some_broken a) (some_broken b)
some_broken-append [] b = refl
some_broken-append (k ∷ a) b = go k.broken (some_broken-append a b)
  where
    go : (t : Bool) → some_broken (a ++ b) ≡ either (some_broken a) (some_broken b)
        → either t (some_broken (a ++ b)) ≡ either (either t (some_broken a)) (some_broken b)
    go true h = refl
    go false h = h

pub all_hold_append : {N : Type 0} (a b : List (CheckOf N)) → AllHold (a ++ b) → AllHold a × AllHold b
all_hold_append {N} a b = each_split (λ (k : CheckOf N). k.broken ≡ false) a b

pub all_hold_join : {N : Type 0} (a b : List (CheckOf N)) → AllHold a → AllHold b → AllHold (a ++ b)
all_hold_join {N} a b = each_append (λ (k : CheckOf N). k.broken ≡ false) a b

-- one list after the other: the first decides where one of its checks is broken, the second where none is
first-append : (a b : List Check) → first (a ++ b) ≡ decide a some (first b)
first-append [] b = refl
first-append (k ∷ a) b = ap (λ (o : Option ℕ). pick k.broken (some k.number) o) (first-append a b)

pub first-append-none : (a b : List Check) → first a ≡ none → first (a ++ b) ≡ first b
first-append-none a b e = first-append a b ∙ decide-none a some (first b) e

pub first-append-some : (a b : List Check) (n : ℕ) → first a ≡ some n → first (a ++ b) ≡ some n
first-append-some a b n e = first-append a b ∙ decide-some a some (first b) n e

-- whether some check is broken says all of checks that have one number
pub first-same-some : (n : ℕ) (ks : List Check) → AllNumbered n ks → some_broken ks ≡ true → first ks ≡ some n
first-same-some n [] a e = never (cc e)
first-same-some n (k ∷ ks) a e = go k.broken e (λ q. first-same-some n ks a.1 q)
  where
    go : (t : Bool) → pick t true (some_broken ks) ≡ true → (some_broken ks ≡ true → first ks ≡ some n)
        → pick t (some k.number) (first ks) ≡ some n
    go true q later = cc a.0
    go false q later = later q

pub first-none : (ks : List Check) → some_broken ks ≡ false → first ks ≡ none
first-none [] e = refl
first-none (k ∷ ks) e = let p = neither k.broken (some_broken ks) e in simp p.0 (first-none ks p.1)

-- ---- the numbers of a list, by a test that is computed
abbrev pub numbers_pass : (ℕ → Bool) → List Check → Bool
numbers_pass test [] = true
numbers_pass test (k ∷ ks) = both (test k.number) (numbers_pass test ks)

pub pass-join : (test : ℕ → Bool) (a b : List Check) → numbers_pass test a ≡ true → numbers_pass test b ≡ true
    → numbers_pass test (a ++ b) ≡ true
pass-join test [] b p q = q
pass-join test (k ∷ a) b p q =
    let h = both_true (test k.number) (numbers_pass test a) p in simp h.0 (pass-join test a b h.1 q)

pub first_passes : (test : ℕ → Bool) (ks : List Check) (n : ℕ) → numbers_pass test ks ≡ true → first ks ≡ some n → test n ≡ true
first_passes test [] n p e = never (cc e)
first_passes test (k ∷ ks) n p e =
    let h = both_true (test k.number) (numbers_pass test ks) p in
    go k.broken e h.0 (λ q. first_passes test ks n h.1 q)
  where
    go : (t : Bool) → pick t (some k.number) (first ks) ≡ some n → test k.number ≡ true → (first ks ≡ some n → test n ≡ true)
        → test n ≡ true
    go true q own later = let m : k.number ≡ n = cc q in rw (← m) own
    go false q own later = later q

-- a refusal names its check
pub blame : {N : Type 0} (ks : List (CheckOf N)) (n : N) → first ks ≡ some n → Blamed ks n
blame [] n e = never (cc e)
blame {N} (k ∷ ks) n e = go k.broken refl e (λ q. blame ks n q)
  where
    go : (t : Bool) → k.broken ≡ t → pick t (some k.number) (first ks) ≡ some n → (first ks ≡ some n → Blamed ks n) → Blamed (k ∷ ks) n
    go true p q later = record { before = []; blamed = k; after = ks; listed = refl; hold = tt; broken = p; number = cc q }
    go false p q later =
        let b = later q in
        record {
          before = k ∷ b.before;
          blamed = b.blamed;
          after = b.after;
          listed = ap (λ (l : List (CheckOf N)). k ∷ l) b.listed;
          hold = (p, b.hold);
          broken = b.broken;
          number = b.number;
        }
