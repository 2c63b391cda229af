-- Parts one after the other: what holds of one part holds of a run of n. Assumes nothing.
use Prim.Native.Nat.{ℕ, zero, suc, ◌+◌, ◌-◌, ◌≤◌, ◌<◌}
use native.Mathlib.Nat.{add-zero, zero-add, suc-add, add_assoc}
use native.Mathlib.Omega.{arith}
use mathlib.Core.Path.{◌≡◌, refl, sym, ap, ◌∙◌, subst}
use mathlib.Core.List.{List, [], ◌∷◌, ◌++◌, append_assoc}
use lib.ListN.{length, get_or, drop, length-drop}
use lib.Seq.{drop-drop}
use Rattle.wire.specs.Properties.{Each}
use Rattle.wire.specs.Numbers.{Octets}
use Rattle.wire.specs.Checks.{Check, AllHold}
use Rattle.wire.specs.Tables.{Field, render}
use Rattle.wire.proofs.NumberLaws.{octets_drop}
use Rattle.wire.proofs.CheckLaws.{all_hold_append, all_hold_join}
use Rattle.wire.proofs.TableLaws.{render-append}
use Rattle.form_spec.specs.Parts.{Part, run_size, run_checks, run_in, fields_of}

module _ {A : Type 0} (part : Part A) where
  -- ---- of any part
  run_split : (n : ℕ) (b : List ℕ) → AllHold (run_checks part (suc n) b)
      → AllHold (part.checks b) × AllHold (run_checks part n (drop (part.size b) b))
  unfolding run_checks
  run_split n b p = all_hold_append (part.checks b) (run_checks part n (drop (part.size b) b)) p

  pub run-count : (n : ℕ) (b : List ℕ) → length (run_in part n b) ≡ n
  unfolding run_in
  run-count zero b = refl
  run-count (suc n) b = ap suc (run-count n (drop (part.size b) b))

  pub run_none : (b : List ℕ) → run_size part 0 b ≡ 0
  unfolding run_size
  run_none b = refl

  pub run_more : (n : ℕ) (b : List ℕ) → run_size part (suc n) b ≡ part.size b + run_size part n (drop (part.size b) b)
  unfolding run_size
  run_more n b = refl

  pub run-add : (m n : ℕ) (b : List ℕ) → run_size part (m + n) b ≡ run_size part m b + run_size part n (drop (run_size part m b) b)
  unfolding run_size
  run-add zero n b = rw (zero-add n) (omega arith)
  run-add (suc m) n b =
      let s = part.size b in
      let c = drop s b in
      let d : drop (run_size part m c) c ≡ drop (s + run_size part m c) b = drop-drop (run_size part m c) s b in
      ap (λ (k : ℕ). run_size part k b) (suc-add m n)
      ∙ ap (λ (k : ℕ). s + k) (run-add m n c)
      ∙ ap (λ (l : List ℕ). s + (run_size part m c + run_size part n l)) d
      ∙ sym (add_assoc s (run_size part m c) (run_size part n (drop (s + run_size part m c) b)))

  pub run-next : (m : ℕ) (b : List ℕ) → run_size part (m + 1) b ≡ run_size part m b + part.size (drop (run_size part m b) b)
  run-next m b =
      let c = drop (run_size part m b) b in
      let e : run_size part 1 c ≡ part.size c = run_more 0 c ∙ ap (λ (k : ℕ). part.size c + k) (run_none (drop (part.size c) c))
      ∙ add-zero (part.size c) in
      run-add m 1 b ∙ ap (λ (k : ℕ). run_size part m b + k) e

  pub checks_none : (b : List ℕ) → run_checks part 0 b ≡ []
  unfolding run_checks
  checks_none b = refl

  pub checks_more : (n : ℕ) (b : List ℕ) → run_checks part (suc n) b ≡ part.checks b ++ run_checks part n (drop (part.size b) b)
  unfolding run_checks
  checks_more n b = refl

  pub checks_add : (m n : ℕ) (b : List ℕ) → run_checks part (m + n) b ≡ run_checks part m b ++ run_checks part n (drop (run_size part m b) b)
  unfolding run_checks run_size
  checks_add zero n b = ap (λ (k : ℕ). run_checks part k b) (zero-add n)
  checks_add (suc m) n b =
      let s = part.size b in
      let c = drop s b in
      ap (λ (k : ℕ). run_checks part k b) (suc-add m n)
      ∙ ap (λ (ks : List Check). part.checks b ++ ks) (checks_add m n c)
      ∙ ap (λ (l : List ℕ). part.checks b ++ (run_checks part m c ++ run_checks part n l)) (drop-drop (run_size part m c) s b)
      ∙ sym (append_assoc (part.checks b) (run_checks part m c) (run_checks part n (drop (s + run_size part m c) b)))

  -- the k-th of n parts (from 0): what stands there, and that its checks hold
  pub run-read : (d : A) (n k : ℕ) (b : List ℕ) → k < n → get_or (run_in part n b) k d ≡ part.read (drop (run_size part k b) b)
  unfolding run_in run_size
  run-read d zero k b h = absurd (omega arith)
  run-read d (suc n) zero b h = refl
  run-read d (suc n) (suc k) b h =
      let s = part.size b in
      run-read d n k (drop s b) (omega arith) ∙ ap (λ (x : List ℕ). part.read x) (drop-drop (run_size part k (drop s b)) s b)

  pub run_holds : (n k : ℕ) (b : List ℕ) → AllHold (run_checks part n b) → k < n → AllHold (part.checks (drop (run_size part k b) b))
  unfolding run_size
  run_holds zero k b p h = absurd (omega arith)
  run_holds (suc n) zero b p h = (run_split n b p).0
  run_holds (suc n) (suc k) b p h =
      let s = part.size b in
      subst (λ (x : List ℕ). AllHold (part.checks x)) (drop-drop (run_size part k (drop s b)) s b)
      (run_holds n k (drop s b) (run_split n b p).1 (omega arith))

  -- ---- of a part that lies within the bytes
  module _ (long : (b : List ℕ) → AllHold (part.checks b) → part.size b ≤ length b) where
    pub run_long : (n : ℕ) (b : List ℕ) → AllHold (run_checks part n b) → run_size part n b ≤ length b
    unfolding run_size
    run_long zero b p = omega arith
    run_long (suc n) b p =
        let s = run_split n b p in
        let c = drop (part.size b) b in
        let h = long b s.0 in
        let q : run_size part n c ≤ length c = run_long n c s.1 in
        let k = simp length-drop at q in
        omega arith

    -- the first k of n parts, and the next one
    pub run-there : (n k : ℕ) (b : List ℕ) → AllHold (run_checks part n b) → k < n
        → run_size part k b + part.size (drop (run_size part k b) b) ≤ length b
    unfolding run_size
    run-there zero k b p h = absurd (omega arith)
    run-there (suc n) zero b p h = omega (arith, long b (run_split n b p).0)
    run-there (suc n) (suc k) b p h =
        let s = part.size b in
        let c = drop s b in
        let q = run_split n b p in
        let l = long b q.0 in
        let i : run_size part k c + part.size (drop (run_size part k c) c) ≤ length b - s
        = rw (← length-drop s b) (run-there n k c q.1 (omega arith)) in
        let j : run_size part k c + part.size (drop (s + run_size part k c) b) ≤ length b - s
        = subst (λ (x : List ℕ). run_size part k c + part.size x ≤ length b - s) (drop-drop (run_size part k c) s b) i in
        omega arith

  -- ---- of a part that is in range where its checks hold
  module _ (P : A → Type 0) (range : (b : List ℕ) → AllHold (part.checks b) → P (part.read b)) where
    pub run-range : (n : ℕ) (b : List ℕ) → AllHold (run_checks part n b) → Each P (run_in part n b)
    unfolding run_in
    run-range zero b p = tt
    run-range (suc n) b p = let s = run_split n b p in (range b s.0, run-range n (drop (part.size b) b) s.1)

  -- ---- of a part that renders to the bytes that it was read from
  module _
      (fields : A → List Field)
      (back : (b : List ℕ) → Octets b → AllHold (part.checks b) → render (fields (part.read b)) ++ drop (part.size b) b ≡ b)
    where
      pub run_back : (n : ℕ) (b : List ℕ) → Octets b → AllHold (run_checks part n b)
          → render (fields_of fields (run_in part n b)) ++ drop (run_size part n b) b ≡ b
      unfolding run_in run_size
      run_back zero b o p = refl
      run_back (suc n) b o p =
          let s = run_split n b p in
          let z = part.size b in
          let c = drop z b in
          let x = render (fields (part.read b)) in
          let y = render (fields_of fields (run_in part n c)) in
          let t = drop (z + run_size part n c) b in
          let d : y ++ t ≡ c
          = ap (λ (l : List ℕ). y ++ l) (sym (drop-drop (run_size part n c) z b)) ∙ run_back n c (octets_drop z b o) s.1 in
          ap (λ (l : List ℕ). l ++ t) (render-append (fields (part.read b)) (fields_of fields (run_in part n c)))
          ∙ append_assoc x y t
          ∙ ap (λ (l : List ℕ). x ++ l) d
          ∙ back b o s.0

-- ---- and back: bytes that begin with x, rendered, and go on with t
pub record PartOf {A : Type 0} (part : Part A) (x : A) (b t : List ℕ) : Type 0 where
  pub pass : AllHold (part.checks b)
  pub rest : drop (part.size b) b ≡ t
  pub read : part.read b ≡ x

pub record RunOf {A : Type 0} (part : Part A) (xs : List A) (b t : List ℕ) : Type 0 where
  pub pass : AllHold (run_checks part (length xs) b)
  pub rest : drop (run_size part (length xs) b) b ≡ t
  pub read : run_in part (length xs) b ≡ xs

run_step : {A : Type 0} (part : Part A) (x : A) (xs : List A) (d c t : List ℕ) → PartOf part x d c → RunOf part xs c t
    → RunOf part (x ∷ xs) d t
unfolding run_checks run_size run_in
run_step {A} part x xs d c t o i =
    let n = length xs in
    let r = drop (part.size d) d in
    record {
      pass =
          all_hold_join (part.checks d) (run_checks part n r) o.pass
          (subst (λ (y : List ℕ). AllHold (run_checks part n y)) (sym o.rest) i.pass);
      rest =
          sym (drop-drop (run_size part n r) (part.size d) d) ∙ ap (λ (y : List ℕ). drop (run_size part n y) y) o.rest ∙ i.rest;
      read = λ k. o.read k ∷ (ap (λ (y : List ℕ). run_in part n y) o.rest ∙ i.read) k;
    }

module _
    {A : Type 0}
    (part : Part A)
    (fields : A → List Field)
    (P : A → Type 0)
    (of : (x : A) (t : List ℕ) → P x → PartOf part x (render (fields x) ++ t) t)
  where
    pub run_of : (xs : List A) (t : List ℕ) → Each P xs → RunOf part xs (render (fields_of fields xs) ++ t) t
    unfolding run_checks run_size run_in
    run_of [] t r = record { pass = tt; rest = refl; read = refl }
    run_of (x ∷ xs) t r =
        let c = render (fields_of fields xs) ++ t in
        subst (λ (b : List ℕ). RunOf part (x ∷ xs) b t)
        (sym (ap (λ (l : List ℕ). l ++ t) (render-append (fields x) (fields_of fields xs))
        ∙ append_assoc (render (fields x)) (render (fields_of fields xs)) t))
        (run_step part x xs (render (fields x) ++ c) c t (of x c r.0) (run_of xs t r.1))
