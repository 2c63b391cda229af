-- Laws of cutting: how many segments there are, and that joined they are the body. Assumes nothing.
use Prim.Native.Nat.{ℕ, zero, suc, ◌+◌, ◌-◌, ◌/◌, ◌^◌, ◌≤◌, ◌<◌}
use mathlib.Core.Path.{◌≡◌, refl, sym, ap, ◌∙◌}
use mathlib.Core.Bool.{Bool, true, false}
use mathlib.Core.Logic.{◌⊎◌, inl, inr, ⊎_elim}
use mathlib.Core.List.{List, [], ◌∷◌, ◌++◌, append-nil, flatten}
use native.Mathlib.Omega.{arith}
use lib.Dec.{ltb, eqb}
use lib.ListN.{length, take, drop, length-drop, take-append-drop}
use borrow.Author.Tests.{ltb-true, ltb-false, eq-eqb, ne_eqb}
use Rattle.wire.specs.Checks.{pick}
use Rattle.header_rule.specs.Rules.{radial_type, most_segments}
use Rattle.writer.specs.Writing.{segment_data, cut, segments_of, longest, longest_radial, longest_body}

-- what one cut takes off a body, and what it leaves
abbrev pub cut_off : List ℕ → List ℕ
cut_off body = take segment_data.0 body

abbrev pub left_over : List ℕ → List ℕ
left_over body = drop segment_data.0 body

-- what holds of a body that is one part, and of one that is cut if it holds of what is left over, holds of every body. With as many cuts
-- as it has bytes a body is one part only if it is no longer than one
pub by_cuts : (P : ℕ → List ℕ → List (List ℕ) → Type 0)
    → ((cuts : ℕ) (body : List ℕ) → (length body ≤ cuts → length body ≤ segment_data.0) → P cuts body (body ∷ []))
    → ((cuts : ℕ) (body : List ℕ) → segment_data.0 < length body → P cuts (left_over body) (cut cuts (left_over body))
    → P (suc cuts) body (cut_off body ∷ cut cuts (left_over body)))
    → (cuts : ℕ) (body : List ℕ) → P cuts body (cut cuts body)
unfolding cut
by_cuts P one more zero body = one zero body (λ h. omega arith)
by_cuts P one more (suc cuts) body = go (ltb segment_data.0 (length body)) refl (by_cuts P one more cuts (left_over body))
  where
    go : (t : Bool) → ltb segment_data.0 (length body) ≡ t → P cuts (left_over body) (cut cuts (left_over body))
        → P (suc cuts) body (pick t (cut_off body ∷ cut cuts (left_over body)) (body ∷ []))
    go true p later = more cuts body (ltb-true segment_data.0 (length body) p) later
    go false p later = one (suc cuts) body (λ h. ltb-false segment_data.0 (length body) p)

-- the body cut once more, and what is left over is cut on
pub record More (body : List ℕ) (parts : List (List ℕ)) : Type 0 where
  pub cuts : ℕ
  pub long : segment_data.0 < length body
  pub are : parts ≡ cut_off body ∷ cut cuts (left_over body)

cut-cases : (cuts : ℕ) (body : List ℕ) → More body (cut cuts body) ⊎ (cut cuts body ≡ body ∷ [])
cut-cases = by_cuts (λ cuts body parts. More body parts ⊎ (parts ≡ body ∷ [])) (λ cuts body short. inr refl)
    (λ cuts body long later. inl (record { cuts = cuts; long = long; are = refl }))

pub cut-some : (cuts : ℕ) (body : List ℕ) → 0 < length (cut cuts body)
cut-some = by_cuts (λ cuts body parts. 0 < length parts) (λ cuts body short. omega arith) (λ cuts body long later. omega arith)

pub cut_more : (cuts : ℕ) (body : List ℕ) → 1 < length (cut cuts body) → More body (cut cuts body)
cut_more cuts body h =
    ⊎_elim (λ (m : More body (cut cuts body)). m) (λ (e : cut cuts body ≡ body ∷ []). absurd (omega (arith, ap length e)))
    (cut-cases cuts body)

pub cut_last : (cuts : ℕ) (body : List ℕ) → length (cut cuts body) ≡ 1 → cut cuts body ≡ body ∷ []
cut_last cuts body h =
    ⊎_elim
    (λ (m : More body (cut cuts body)). absurd (omega (arith, ap length m.are, cut-some m.cuts (left_over body))))
    (λ (e : cut cuts body ≡ body ∷ []). e)
    (cut-cases cuts body)

cut-count : (cuts : ℕ) (body : List ℕ) → length body ≤ cuts → length (cut cuts body) ≡ (length body - 1) / segment_data.0 + 1
cut-count = by_cuts (λ cuts body parts. length body ≤ cuts → length parts ≡ (length body - 1) / segment_data.0 + 1)
    (λ cuts body short h. omega (arith, short h))
    (λ cuts body long later h.
    let l : length (left_over body) ≡ length body - segment_data.0 = length-drop segment_data.0 body in
    omega (arith, later (omega arith)))

-- joined again, the parts are the body
cut-joined : (cuts : ℕ) (body : List ℕ) → flatten (cut cuts body) ≡ body
unfolding flatten
cut-joined = by_cuts (λ cuts body parts. flatten parts ≡ body) (λ cuts body short. append-nil body)
    (λ cuts body long e. ap (λ (x : List ℕ). cut_off body ++ x) e ∙ take-append-drop segment_data.0 body)

-- for type 31 the body is not cut; for any other type it is cut as often as possible
pub segments-cut : (kind : ℕ) (body : List ℕ) → segments_of kind body ≡ cut (pick (eqb kind radial_type) 0 (length body)) body
unfolding cut
segments-cut kind body = go (eqb kind radial_type)
  where
    go : (t : Bool) → pick t (body ∷ []) (cut (length body) body) ≡ cut (pick t 0 (length body)) body
    go true = refl
    go false = refl

pub segments-joined : (kind : ℕ) (body : List ℕ) → flatten (segments_of kind body) ≡ body
segments-joined kind body = ap flatten (segments-cut kind body) ∙ cut-joined (pick (eqb kind radial_type) 0 (length body)) body

-- the number of segments, as it is computed
pub count-radial : (kind : ℕ) (body : List ℕ) → kind ≡ radial_type → 1 ≡ length (segments_of kind body)
count-radial kind body e = simp (eq-eqb kind radial_type e)

pub count_cut : (kind : ℕ) (body : List ℕ) → (kind ≡ radial_type → ⊥)
    → (length body - 1) / segment_data.0 + 1 ≡ length (segments_of kind body)
count_cut kind body e = simp (ne_eqb kind radial_type e) (sym (cut-count (length body) body (omega arith)))

-- a body within the limit can be counted, and makes no more segments than there may be
pub count_most : (kind : ℕ) (body : List ℕ) → length body ≤ (longest kind).0
    → (length body < 2 ^ 31) × (length (segments_of kind body) ≤ most_segments)
count_most kind body h = go (eqb kind radial_type) h
  where
    go : (t : Bool) → length body ≤ (pick t longest_radial longest_body).0
        → (length body < 2 ^ 31) × (length (pick t (body ∷ []) (cut (length body) body)) ≤ most_segments)
    go true l = (omega arith, omega arith)
    go false l = (omega arith, rw (cut-count (length body) body (omega arith)) (omega arith))
