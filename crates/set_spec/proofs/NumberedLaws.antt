-- Laws of the segments met: the one with a number, and the first. Assumes nothing.
use Prim.Native.Nat.{ℕ}
use mathlib.Core.Path.{◌≡◌, refl, ap}
use mathlib.Core.Bool.{Bool, true, false}
use mathlib.Core.Option.{Option, none, some}
use mathlib.Core.List.{List, [], ◌∷◌, ◌++◌}
use lib.Dec.{eqb}
use borrow.Author.Tests.{eq-eqb, ne_eqb}
use Rattle.wire.specs.Checks.{pick}
use Rattle.wire.proofs.CheckLaws.{never}
use Rattle.header.specs.declared.Header.{Header}
use Rattle.set_spec.specs.Segment.{Segment, numbered, found}
use Rattle.set_spec.specs.Walk.{first_or}

pub not_found : (o : Option Segment) → found o ≡ false → o ≡ none
not_found none e = refl
not_found (some g) e = never (cc e)

-- one segment more, of a number that was not met: it is the one with its number, and no other number's segment changes
pub numbered-same : (gs : List Segment) (g : Segment) (k : ℕ) → numbered gs k ≡ none → g.header.number ≡ k
    → numbered (gs ++ (g ∷ [])) k ≡ some g
unfolding numbered
numbered-same [] g k e q = simp (eq-eqb g.header.number k q)
numbered-same (x ∷ gs) g k e q = go (eqb x.header.number k) e (λ p. numbered-same gs g k p q)
  where
    go : (t : Bool) → pick t (some x) (numbered gs k) ≡ none → (numbered gs k ≡ none → numbered (gs ++ (g ∷ [])) k ≡ some g)
        → pick t (some x) (numbered (gs ++ (g ∷ [])) k) ≡ some g
    go true p later = never (cc p)
    go false p later = later p

pub numbered_other : (gs : List Segment) (g : Segment) (k : ℕ) → (g.header.number ≡ k → ⊥) → numbered (gs ++ (g ∷ [])) k ≡ numbered gs k
unfolding numbered
numbered_other [] g k ne = simp (ne_eqb g.header.number k ne)
numbered_other (x ∷ gs) g k ne =
    ap (λ (o : Option Segment). pick (eqb x.header.number k) (some x) o) (numbered_other gs g k ne)

pub first_more : (gs : List Segment) (g : Segment) (h : Header) → first_or (gs ++ (g ∷ [])) h ≡ first_or gs g.header
first_more [] g h = refl
first_more (x ∷ gs) g h = refl
