-- What holds of each and of some element of lists one after the other, and lists sorted by a relation. Assumes nothing.
use Prim.Native.Nat.{ℕ, zero, suc, ◌+◌, ◌*◌, ◌/◌, ◌%◌, ◌≤◌, ◌<◌}
use native.Mathlib.Nat.{add-zero, zero-add, suc-add}
use native.Mathlib.Omega.{arith}
use mathlib.Core.Path.{◌≡◌, refl, sym, ap, ◌∙◌, subst}
use mathlib.Core.Logic.{◌⊎◌, inl, inr, ⊎_elim}
use mathlib.Core.Bool.{Bool, true, false}
use mathlib.Core.List.{List, [], ◌∷◌, ◌++◌, map, append-nil, append_assoc}
use lib.Dec.{ltb}
use lib.ListN.{length, get_or}
use borrow.Author.Tests.{ltb-true, ltb-false}
use Rattle.wire.proofs.EachLaws.{each_append, each_so, each_map}
use Rattle.wire.specs.Properties.{Each}
use Rattle.map_spec.specs.Map.{azimuths}
use Rattle.compare_spec.specs.Differences.{in_order}

-- ---- some
abbrev pub SomeOf : {A : Type 0} → (A → Type 0) → List A → Type 0
SomeOf P [] = ⊥
SomeOf P (x ∷ xs) = P x ⊎ SomeOf P xs

pub some_left : {A : Type 0} (P : A → Type 0) (xs ys : List A) → SomeOf P xs → SomeOf P (xs ++ ys)
some_left P [] ys s = absurd s
some_left P (x ∷ xs) ys s = ⊎_elim (λ p. inl p) (λ q. inr (some_left P xs ys q)) s

pub some_right : {A : Type 0} (P : A → Type 0) (xs ys : List A) → SomeOf P ys → SomeOf P (xs ++ ys)
some_right P [] ys s = s
some_right P (x ∷ xs) ys s = inr (some_right P xs ys s)

pub some-map : {A B : Type 0} (P : A → Type 0) (Q : B → Type 0) (f : A → B) (xs : List A) → ((x : A) → P x → Q (f x)) → SomeOf P xs
    → SomeOf Q (map f xs)
some-map P Q f [] h s = s
some-map P Q f (x ∷ xs) h s = ⊎_elim (λ p. inl (h x p)) (λ q. inr (some-map P Q f xs h q)) s

pub some_at : {A : Type 0} (P : A → Type 0) (xs : List A) (d : A) (i : ℕ) → i < length xs → P (get_or xs i d) → SomeOf P xs
some_at P [] d i h p = absurd (omega arith)
some_at P (x ∷ xs) d zero h p = inl p
some_at P (x ∷ xs) d (suc i) h p = inr (some_at P xs d i (omega arith) p)

-- if all elements have P and one has Q, then that one has what follows from P and Q
pub some_each : {A : Type 0} (P Q S : A → Type 0) (xs : List A) → ((x : A) → P x → Q x → S x) → Each P xs → SomeOf Q xs → SomeOf S xs
some_each P Q S [] h p s = s
some_each P Q S (x ∷ xs) h p s = ⊎_elim (λ q. inl (h x p.0 q)) (λ q. inr (some_each P Q S xs h p.1 q)) s

-- ---- each element is related to all that follow
abbrev pub Sorted : {A : Type 0} → (A → A → Type 0) → List A → Type 0
Sorted R [] = Unit {0}
Sorted R (x ∷ xs) = Each (R x) xs × Sorted R xs

pub sorted_append : {A : Type 0} (R : A → A → Type 0) (xs ys : List A) → Sorted R xs → Sorted R ys → Each (λ x. Each (R x) ys) xs
    → Sorted R (xs ++ ys)
sorted_append R [] ys p q c = q
sorted_append R (x ∷ xs) ys p q c = (each_append (R x) xs ys p.0 c.0, sorted_append R xs ys p.1 q c.1)

pub sorted_map : {A : Type 0} (R : A → A → Type 0) (f : A → A) (xs : List A) → ((x y : A) → R x y → R (f x) (f y)) → Sorted R xs
    → Sorted R (map f xs)
sorted_map R f [] h p = tt
sorted_map R f (x ∷ xs) h p = (each_map (R x) (R (f x)) f xs (h x) p.0, sorted_map R f xs h p.1)

-- ---- the lists of so many numbers one after the other
module _ {A : Type 0} (of : ℕ → List A) where
  pub each_order : (P : A → Type 0) (first count : ℕ) → ((k : ℕ) → first ≤ k → k < first + count → Each P (of k))
      → Each P (in_order first count of)
  unfolding in_order
  each_order P first zero h = tt
  each_order P first (suc count) h =
      each_append P (of first) (in_order (suc first) count of) (h first (omega arith) (omega arith))
      (each_order P (suc first) count (λ k l u. h k (omega arith) (omega arith)))

  pub some_order : (P : A → Type 0) (first count k : ℕ) → first ≤ k → k < first + count → SomeOf P (of k) → SomeOf P (in_order first count of)
  unfolding in_order
  some_order P first zero k l u s = absurd (omega arith)
  some_order P first (suc count) k l u s =
      go (ltb first k) refl (λ h. some_order P (suc first) count k h (omega arith) s)
    where
      rest : List A
      rest = in_order (suc first) count of

      go : (t : Bool) → ltb first k ≡ t → (first < k → SomeOf P rest) → SomeOf P (of first ++ rest)
      go true e later = some_right P (of first) rest (later (ltb-true first k e))
      go false e later =
          let h = ltb-false first k e in
          let q : k ≡ first = omega arith in
          some_left P (of first) rest (subst (λ (j : ℕ). SomeOf P (of j)) q s)

  -- Q k holds of each element of the k-th list
  pub sorted_order : (R : A → A → Type 0) (Q : ℕ → A → Type 0) → ((j k : ℕ) (x y : A) → j < k → Q j x → Q k y → R x y)
      → ((k : ℕ) → Each (Q k) (of k)) → ((k : ℕ) → Sorted R (of k)) → (first count : ℕ) → Sorted R (in_order first count of)
  unfolding in_order
  sorted_order R Q apart key one first zero = tt
  sorted_order R Q apart key one first (suc count) =
      let rest = in_order (suc first) count of in
      sorted_append R (of first) rest (one first) (sorted_order R Q apart key one (suc first) count)
      (each_so (Q first) (λ x. Each (R x) rest) (of first)
      (λ x q. each_order (R x) (suc first) count (λ k l u. each_so (Q k) (R x) (of k) (λ y r. apart first k x y l q r) (key k)))
      (key first))

-- ---- more lists behind them, and lists of lists in one order
pub order_none : {A : Type 0} (of : ℕ → List A) (first : ℕ) → in_order first 0 of ≡ []
unfolding in_order
order_none of first = refl

pub order_add : {A : Type 0} (of : ℕ → List A) (m n first : ℕ)
    → in_order first (m + n) of ≡ in_order first m of ++ in_order (first + m) n of
unfolding in_order
order_add of zero n first =
    ap (λ (k : ℕ). in_order first k of) (zero-add n) ∙ ap (λ (k : ℕ). in_order k n of) (sym (add-zero first))
order_add of (suc m) n first =
    let e : suc first + m ≡ first + suc m = omega arith in
    ap (λ (k : ℕ). in_order first k of) (suc-add m n)
    ∙ ap (λ l. of first ++ l) (order_add of m n (suc first) ∙ ap (λ (k : ℕ). in_order (suc first) m of ++ in_order k n of) e)
    ∙ sym (append_assoc (of first) (in_order (suc first) m of) (in_order (first + suc m) n of))

pub order_last : {A : Type 0} (of : ℕ → List A) (first count : ℕ)
    → in_order first (count + 1) of ≡ in_order first count of ++ of (first + count)
unfolding in_order
order_last of first count = order_add of count 1 first ∙ ap (λ l. in_order first count of ++ l) (append-nil (of (first + count)))

order_same : {A : Type 0} (f g : ℕ → List A) (n first first' : ℕ) → ((k : ℕ) → k < n → f (first + k) ≡ g (first' + k))
    → in_order first n f ≡ in_order first' n g
unfolding in_order
order_same f g zero first first' h = refl
order_same f g (suc n) first first' h =
    let e = ap f (sym (add-zero first)) ∙ h 0 (omega arith) ∙ ap g (add-zero first') in
    let next : (k : ℕ) → k < n → f (suc first + k) ≡ g (suc first' + k) = λ k l.
    let a : suc first + k ≡ first + suc k = omega arith in
    let b : first' + suc k ≡ suc first' + k = omega arith in
    ap f a ∙ h (suc k) (omega arith) ∙ ap g b in
    λ i. e i ++ order_same f g n (suc first) (suc first') next i

-- the azimuths of elevation segments 1 to n, in order, are those counted from 0 through all segments
pub order_flat : {A : Type 0} (of : ℕ → ℕ → List A) (n : ℕ)
    → in_order 0 (n * azimuths) (λ k. of (1 + k / azimuths) (k % azimuths)) ≡ in_order 1 n (λ j. in_order 0 azimuths (of j))
order_flat of zero = order_none (λ k. of (1 + k / azimuths) (k % azimuths)) 0 ∙ sym (order_none (λ j. in_order 0 azimuths (of j)) 1)
order_flat of (suc n) =
    let flat : ℕ → List _ = λ k. of (1 + k / azimuths) (k % azimuths) in
    let e : suc n * azimuths ≡ n * azimuths + azimuths = omega arith in
    let one_more : suc n ≡ n + 1 = omega arith in
    ap (λ (k : ℕ). in_order 0 k flat) e
    ∙ order_add flat (n * azimuths) azimuths 0
    ∙ (λ i. order_flat of n i ++ order_same flat (of (1 + n)) azimuths (0 + n * azimuths) 0
    (λ k h.
    let j : 1 + (0 + n * azimuths + k) / azimuths ≡ 1 + n = omega arith in
    let m : (0 + n * azimuths + k) % azimuths ≡ 0 + k = omega arith in
    λ i₂. of (j i₂) (m i₂)) i)
    ∙ sym (ap (λ (k : ℕ). in_order 1 k (λ j. in_order 0 azimuths (of j))) one_more ∙ order_last (λ j. in_order 0 azimuths (of j)) 1 n)
