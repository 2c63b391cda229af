-- Places at which no frame begins, by the bytes of a data frame's kind. Assumes nothing.
use Prim.Native.Nat.{ℕ, ◌+◌, ◌-◌, ◌≤◌, ◌<◌}
use mathlib.Core.Path.{◌≡◌, refl, sym, ap, subst, ◌∙◌}
use mathlib.Core.Bool.{Bool, true, false, not, ◌||◌, ◌&&◌}
use mathlib.Core.Option.{none, some}
use mathlib.Core.List.{List}
use native.Mathlib.Omega.{arith}
use lib.Dec.{eqb, ltb}
use lib.ListN.{length, get_or, take, drop, length-drop}
use lib.Seq.{length-take-le}
use borrow.Author.Tests.{eq-eqb, ne_eqb, ltb-true, ltb-false}
use Rattle.std.specs.Prelude.{Option, None, Some}
use Rattle.std.specs.Option.{option_eq}
use Rattle.wire.specs.Numbers.{num, fetched}
use Rattle.wire.specs.Checks.{pick, first}
use Rattle.wire.proofs.CheckLaws.{never, all_hold, none_broken, by_eq}
use Rattle.wire.proofs.NumberLaws.{fetched-whole, num-four, num-drop, num-take}
use Rattle.frame.specs.Session.{data_kind, whole_long}
use Rattle.set_spec.specs.Segment.{own_checks}
use Rattle.salvage_spec.specs.Walk.{stands}
use Rattle.salvage_spec.proofs.WalkLaws.{stands_holds, holds_stands, stands-not, kind_none}
use Rattle.salvage_find.specs.Told.{size_told}
use Rattle.salvage_find.specs.Steps.{block, beyond, Unmarked, NoneFrom}

-- a check that is broken
pub broken_none : (rest : List ℕ) (n : ℕ) → first (own_checks rest) ≡ some n → stands rest ≡ false
broken_none rest n e = stands-not rest (λ s. never (cc (sym (none_broken (own_checks rest) (stands_holds rest s)) ∙ e)))

-- that an answer is not None, as `!=` tells it
abbrev differs : Option ℕ → Bool
differs o = not (option_eq eqb o None)

-- what `whole_at` tells where none stands, and where one does
module _ (rest : List ℕ) where
  abbrev told : Option ℕ
  told = size_told (pick (stands rest) (whole_long rest) 0)

  whole_told : size_told (whole_long rest) ≡ Some (whole_long rest)
  whole_told = simp (ne_eqb (whole_long rest) 0 (λ e. omega (arith, e)))

  pub none-told : stands rest ≡ false → None ≡ told
  none-told e = sym (ap (λ (t : Bool). size_told (pick t (whole_long rest) 0)) e)

  pub some-told : {n : ℕ} → first (own_checks rest) ≡ none → n ≡ whole_long rest → Some n ≡ told
  some-told p e =
      let t : stands rest ≡ true = holds_stands rest (all_hold (own_checks rest) p) in
      ap Some e ∙ sym (ap (λ (t : Bool). size_told (pick t (whole_long rest) 0)) t ∙ whole_told)

  -- and back
  pub told-none : told ≡ None → stands rest ≡ false
  told-none e = stands-not rest
      (λ t. never (cc (sym whole_told ∙ sym (ap (λ (u : Bool). size_told (pick u (whole_long rest) 0)) t) ∙ e)))

  pub told-some : {n : ℕ} → told ≡ Some n → (stands rest ≡ true) × (n ≡ whole_long rest)
  told-some {n} e = go (stands rest) refl
    where
      go : (t : Bool) → stands rest ≡ t → (stands rest ≡ true) × (n ≡ whole_long rest)
      go true q = (q, cc (sym whole_told ∙ sym (ap (λ (u : Bool). size_told (pick u (whole_long rest) 0)) q) ∙ e))
      go false q = never (cc (sym (ap (λ (u : Bool). size_told (pick u (whole_long rest) 0)) q) ∙ e))

  -- the same by whether it is not None
  pub told_is : {o : Option ℕ} → o ≡ told → differs o ≡ true → stands rest ≡ true
  told_is {o} e t = go o refl
    where
      go : (o' : Option ℕ) → o ≡ o' → stands rest ≡ true
      go None q = never (cc (sym t ∙ ap differs q))
      go (Some n) q = (told-some (sym e ∙ q)).0

  pub told_not : {o : Option ℕ} → o ≡ told → differs o ≡ false → stands rest ≡ false
  told_not {o} e t = go o refl
    where
      go : (o' : Option ℕ) → o ≡ o' → stands rest ≡ false
      go None q = told-none (sym e ∙ q)
      go (Some n) q = never (cc (sym t ∙ ap differs q))

-- ---- a part's places
-- the last two bytes of a data frame's kind
kind_bytes : (part : List ℕ) (i : ℕ) → num 4 part i ≡ data_kind → (get_or part (i + 2) 0 ≡ 0) × (get_or part (i + 3) 0 ≡ 2)
kind_bytes part i e = let n = num-four part i in (omega (arith, n, e), omega (arith, n, e))

-- four bytes fetched from a part of four
pub four-fetched : (part : List ℕ) (i n : ℕ) → n ≡ 4 → i + 4 ≤ length part → fetched 4 (take n (drop i part)) 0 ≡ num 4 part i
four-fetched part i n e h =
    let l : length (drop i part) ≡ length part - i = length-drop i part in
    let m : length (take n (drop i part)) ≡ n = length-take-le n (drop i part) (omega arith) in
    let z : i + 0 ≡ i = omega arith in
    fetched-whole 4 (take n (drop i part)) 0 (omega (arith, m, e)) ∙ num-take 4 n (drop i part) 0 (omega (arith, e))
    ∙ num-drop 4 part i 0 ∙ ap (λ (k : ℕ). num 4 part k) z

pub unmarked_more : (part : List ℕ) (i : ℕ) → Unmarked i part → (num 4 part i ≡ data_kind → ⊥) → Unmarked (i + 1) part
unmarked_more part i before ne j h = by_eq j i (λ e. subst (λ (k : ℕ). num 4 part k ≡ data_kind → ⊥) (sym e) ne)
    (λ d. before j (omega arith))

pub unseen : (part : List ℕ) (i : ℕ) (any : Bool) → (any ≡ false → Unmarked i part)
    → any || (eqb (get_or part (i + 2) 0) 0 && eqb (get_or part (i + 3) 0) 2) ≡ false → Unmarked (i + 1) part
unseen part i true before e = never (cc e)
unseen part i false before e =
    unmarked_more part i (before refl)
    (λ k.
    let p = kind_bytes part i k in
    let seen : (eqb (get_or part (i + 2) 0) 0 && eqb (get_or part (i + 3) 0) 2) ≡ true = simp (eq-eqb _ _ p.0, eq-eqb _ _ p.1) in
    never (cc (sym seen ∙ e)))

-- ---- places of a buffer
pub none_yet : {b : List ℕ} {at : ℕ} → at ≤ length b → NoneFrom b at at
none_yet h = record { forward = omega arith; within = h; none = λ i f t. absurd (omega arith) }

pub none-joined : {b : List ℕ} {from at to : ℕ} → NoneFrom b from at → NoneFrom b at to → NoneFrom b from to
none-joined {b} {from} {at} {to} p q = record {
  forward = omega (arith, p.forward, q.forward);
  within = q.within;
  none = λ i f t. go i f t (ltb i at) refl;
}
  where
    go : (i : ℕ) → from ≤ i → i < to → (t : Bool) → ltb i at ≡ t → stands (drop i b) ≡ false
    go i f t true e = p.none i f (ltb-true i at e)
    go i f t false e = q.none i (ltb-false i at e) t

pub none-one : {b : List ℕ} {at : ℕ} → at < length b → stands (drop at b) ≡ false → NoneFrom b at (at + 1)
none-one {b} {at} h e = record {
  forward = omega arith;
  within = omega arith;
  none = λ i f t. let q : at ≡ i = omega arith in subst (λ (k : ℕ). stands (drop k b) ≡ false) q e;
}

-- the first so many places of a block
pub none_in_block : {b : List ℕ} {at : ℕ} (count : ℕ) → at + (block + beyond) ≤ length b → count ≤ block
    → Unmarked count (take (at + (block + beyond) - at) (drop at b)) → NoneFrom b at (at + count)
none_in_block {b} {at} count h few un = record {
  forward = omega arith;
  within = omega arith;
  none = λ i f t. kind_none (drop i b) (λ e. un (i - at) (omega arith) (same i f t ∙ e));
}
  where
    long : ℕ
    long = at + (block + beyond) - at

    same : (i : ℕ) → at ≤ i → i < at + count → num 4 (take long (drop at b)) (i - at) ≡ num 4 (drop i b) 0
    same i f t =
        let q : at + (i - at) ≡ i + 0 = omega arith in
        num-take 4 long (drop at b) (i - at) (omega arith) ∙ num-drop 4 b at (i - at) ∙ ap (λ (k : ℕ). num 4 b k) q ∙ sym (num-drop 4 b i 0)
