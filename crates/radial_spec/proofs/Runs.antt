-- Laws of tables read from a part, and of membership: what the theorems need and no radial knows. Assumes nothing.
use Prim.Native.Nat.{ℕ, ◌+◌}
use native.Mathlib.Nat.{add-zero, add_assoc}
use mathlib.Core.Path.{◌≡◌, refl, sym, ◌∙◌}
use mathlib.Core.Bool.{Bool, true, false}
use mathlib.Core.Logic.{◌⊎◌, inl, inr}
use mathlib.Core.List.{List, [], ◌∷◌}
use lib.Dec.{eqb}
use lib.ListN.{drop}
use borrow.Author.Tests.{eqb-true, eqb-false, eq-eqb, ne_eqb}
use Rattle.wire.specs.Checks.{pick, among}
use Rattle.wire.specs.Tables.{Field, Spells}
use Rattle.wire.proofs.NumberLaws.{num-drop}
use Rattle.wire.proofs.CheckLaws.{never}
use Rattle.radial_spec.specs.Description.{Member, Absent}

-- ---- a table read from the part of b that begins at p
part_spells_from : (fs : List Field) (b : List ℕ) (p q : ℕ) → Spells b (p + q) fs → Spells (drop p b) q fs
part_spells_from [] b p q s = tt
part_spells_from (f ∷ fs) b p q s = (num-drop f.wide b p q ∙ s.0, part_spells_from fs b p (q + f.wide) (rw add_assoc at s.1))

pub part_spelt_from : (fs : List Field) (b : List ℕ) (p q : ℕ) → Spells (drop p b) q fs → Spells b (p + q) fs
part_spelt_from [] b p q s = tt
part_spelt_from (f ∷ fs) b p q s = (sym (num-drop f.wide b p q) ∙ s.0, rw add_assoc (part_spelt_from fs b p (q + f.wide) s.1))

pub part_spells : (fs : List Field) (b : List ℕ) (p : ℕ) → Spells b p fs → Spells (drop p b) 0 fs
part_spells fs b p s = part_spells_from fs b p 0 (rw add-zero s)

pub part_spelt : (fs : List Field) (b : List ℕ) (p : ℕ) → Spells (drop p b) 0 fs → Spells b p fs
part_spelt fs b p s = rw add-zero at (part_spelt_from fs b p 0 s)

-- ---- membership, as a test and as a fact
pub among_member : (x : ℕ) (ys : List ℕ) → among x ys ≡ true → Member x ys
among_member x [] h = never (cc h)
among_member x (y ∷ ys) h = go (eqb x y) refl h (λ k. among_member x ys k)
  where
    go : (t : Bool) → eqb x y ≡ t → pick t true (among x ys) ≡ true → (among x ys ≡ true → Member x ys) → (x ≡ y) ⊎ Member x ys
    go true e k later = inl (eqb-true x y e)
    go false e k later = inr (later k)

pub member_among : (x : ℕ) (ys : List ℕ) → Member x ys → among x ys ≡ true
member_among x [] h = absurd h
member_among x (y ∷ ys) (inl e) = simp (eq-eqb x y e)
member_among x (y ∷ ys) (inr h) = go (eqb x y) (member_among x ys h)
  where
    go : (t : Bool) → among x ys ≡ true → pick t true (among x ys) ≡ true
    go true k = refl
    go false k = k

pub among_absent : (x : ℕ) (ys : List ℕ) → among x ys ≡ false → Absent x ys
among_absent x [] h = tt
among_absent x (y ∷ ys) h = go (eqb x y) refl h (λ k. among_absent x ys k)
  where
    go : (t : Bool) → eqb x y ≡ t → pick t true (among x ys) ≡ false → (among x ys ≡ false → Absent x ys) → Absent x (y ∷ ys)
    go true e k later = never (cc k)
    go false e k later = (eqb-false x y e, later k)

pub absent_among : (x : ℕ) (ys : List ℕ) → Absent x ys → among x ys ≡ false
absent_among x [] a = refl
absent_among x (y ∷ ys) a = simp (ne_eqb x y a.0) (absent_among x ys a.1)
