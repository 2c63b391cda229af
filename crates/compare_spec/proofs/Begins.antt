-- The zones of an azimuth that begin from a kilometre on: the code changes only where one begins. Assumes nothing.
use Prim.Native.Nat.{ℕ, suc, ◌+◌, ◌≤◌, ◌<◌}
use native.Mathlib.Omega.{arith}
use mathlib.Core.Path.{◌≡◌, refl, sym, ap, ◌∙◌}
use mathlib.Core.Bool.{Bool, true, false}
use mathlib.Core.List.{List, [], ◌∷◌}
use lib.Dec.{ltb, leb, eqb}
use lib.ListN.{length}
use borrow.Author.Tests.{leb-true, leb-false, le-leb, lt-leb, lt-ltb, le-ltb, eqb-true, eqb-false}
use Rattle.wire.specs.Checks.{pick, both}
use Rattle.map_spec.specs.Map.{most_zones, last_kilometre, Zone, EndsRise, AzimuthInRange, code_from}

-- ---- how many zones begin at k or later: each after the end of the one before it
abbrev one : Bool → ℕ
one true = 1
one false = 0

abbrev opens : ℕ → Zone → ℕ
opens k z = one (both (leb k (suc z.end)) (ltb z.end last_kilometre))

abbrev pub begins : ℕ → List Zone → ℕ
begins k [] = 0
begins k (z ∷ zs) = opens k z + begins k zs

opens_fall : (j k : ℕ) (z : Zone) → j ≤ k → opens k z ≤ opens j z
opens_fall j k z h = go (leb k (suc z.end)) (leb j (suc z.end)) (ltb z.end last_kilometre) refl refl
  where
    go : (t u v : Bool) → leb k (suc z.end) ≡ t → leb j (suc z.end) ≡ u → one (both t v) ≤ one (both u v)
    go false u v p q = omega arith
    go true true v p q = omega arith
    go true false v p q =
        let a = leb-true k (suc z.end) p in
        let b = leb-false j (suc z.end) q in
        absurd (omega arith)

pub begins_fall : (zs : List Zone) (j k : ℕ) → j ≤ k → begins k zs ≤ begins j zs
begins_fall [] j k h = omega arith
begins_fall (z ∷ zs) j k h = omega (arith, opens_fall j k z h, begins_fall zs j k h)

opens_here : (k : ℕ) (z : Zone) → z.end ≡ k → k < last_kilometre → (opens (suc k) z ≡ 1) × (opens (suc (suc k)) z ≡ 0)
opens_here k z e h =
    let a : leb (suc k) (suc z.end) ≡ true = le-leb (suc k) (suc z.end) (omega arith) in
    let b : ltb z.end last_kilometre ≡ true = lt-ltb z.end last_kilometre (omega arith) in
    let c : leb (suc (suc k)) (suc z.end) ≡ false = lt-leb (suc (suc k)) (suc z.end) (omega arith) in (
      ap (λ (t : Bool). one (both t (ltb z.end last_kilometre))) a ∙ ap one b,
      ap (λ (t : Bool). one (both t (ltb z.end last_kilometre))) c,
    )

-- the two tests of a zone answer alike at k and at the kilometre after it, unless it begins there or ends at k
same_from : (from k : ℕ) → (from ≡ suc k → ⊥) → leb from k ≡ leb from (suc k)
same_from from k ne = go (leb from k) refl
  where
    go : (t : Bool) → leb from k ≡ t → t ≡ leb from (suc k)
    go true e = let h = leb-true from k e in sym (le-leb from (suc k) (omega arith))
    go false e = let h = leb-false from k e in sym (lt-leb from (suc k) (omega arith))

same_end : (end k : ℕ) → (end ≡ k → ⊥) → leb k end ≡ leb (suc k) end
same_end end k ne = go (leb k end) refl
  where
    go : (t : Bool) → leb k end ≡ t → t ≡ leb (suc k) end
    go true e = let h = leb-true k end e in sym (le-leb (suc k) end (omega arith))
    go false e = let h = leb-false k end e in sym (lt-leb (suc k) end (omega arith))

-- where the code changes, a zone begins
pub begins-drop : (from : ℕ) (zs : List Zone) (k : ℕ) → k < last_kilometre → (from ≡ suc k → ⊥)
    → (code_from from zs k ≡ code_from from zs (suc k) → ⊥)
    → suc (begins (suc (suc k)) zs) ≤ begins (suc k) zs
unfolding code_from
begins-drop from [] k h low ne = absurd (ne refl)
begins-drop from (z ∷ zs) k h low ne =
    go (eqb z.end k) refl (λ e. begins-drop (suc z.end) zs k h (λ q. e (omega arith)))
  where
    later : ℕ → ℕ
    later j = code_from (suc z.end) zs j

    same : (z.end ≡ k → ⊥) → later k ≡ later (suc k) → code_from from (z ∷ zs) k ≡ code_from from (z ∷ zs) (suc k)
    same e q = λ i. pick (both (same_from from k low i) (same_end z.end k e i)) z.code (q i)

    go : (t : Bool) → eqb z.end k ≡ t
        → ((z.end ≡ k → ⊥) → (later k ≡ later (suc k) → ⊥) → suc (begins (suc (suc k)) zs) ≤ begins (suc k) zs)
        → suc (begins (suc (suc k)) (z ∷ zs)) ≤ begins (suc k) (z ∷ zs)
    go true e i =
        let o = opens_here k z (eqb-true z.end k e) h in
        omega (arith, o.0, o.1, begins_fall zs (suc k) (suc (suc k)) (omega arith))
    go false e i =
        let x = eqb-false z.end k e in
        omega (arith, opens_fall (suc k) (suc (suc k)) z (omega arith), i x (λ q. ne (same x q)))

opens_one : (k : ℕ) (z : Zone) → opens k z ≤ 1
opens_one k z = go (both (leb k (suc z.end)) (ltb z.end last_kilometre))
  where
    go : (t : Bool) → one t ≤ 1
    go true = omega arith
    go false = omega arith

opens_last : (k : ℕ) (z : Zone) → z.end ≡ last_kilometre → opens k z ≡ 0
opens_last k z e = go (leb k (suc z.end)) (ltb z.end last_kilometre) (le-ltb z.end last_kilometre (omega arith))
  where
    go : (t u : Bool) → u ≡ false → one (both t u) ≡ 0
    go true u q = ap one q
    go false u q = refl

-- the first zone begins at 0
begins_few : (k : ℕ) (z : Zone) (zs : List Zone) → EndsRise (z ∷ zs) → suc (begins k (z ∷ zs)) ≤ length (z ∷ zs)
begins_few k z [] r = omega (arith, opens_last k z r)
begins_few k z (y ∷ zs) r = omega (arith, opens_one k z, begins_few k y zs r.1)

pub begins_range : (k : ℕ) (zs : List Zone) → AzimuthInRange zs → suc (begins k zs) ≤ most_zones
begins_range k [] a = absurd (omega (arith, a.some))
begins_range k (z ∷ zs) a = omega (arith, a.most, begins_few k z zs a.rise)
