-- A moment by its name: names are not repeated, so the first with a name is the only one. Assumes nothing.
use Prim.Native.Nat.{ℕ}
use mathlib.Core.Path.{◌≡◌, refl, sym, ap, subst, ◌∙◌}
use mathlib.Core.Bool.{Bool, true, false}
use mathlib.Core.Logic.{◌⊎◌, inl, inr, ◌≢◌}
use mathlib.Core.List.Memᴰ
use mathlib.Core.List.{List, [], ◌∷◌, ◌++◌, Memᴰ}
use lib.Dec.{eqb}
use borrow.Author.Tests.{eqb-true, eqb-false, eq-eqb, ne_eqb}
use Rattle.wire.specs.Checks.{pick}
use Rattle.wire.specs.Answers.{Answer, refused, given, onward}
use Rattle.wire.proofs.CheckLaws.{never}
use Rattle.radial_spec.specs.Description.{Absent, Moment, Description, MomentsLie, moment_end, radial_pointer}
use Rattle.radial_spec.specs.Refusal.{size_in, radial_of, end_at}
use Rattle.radial_spec.specs.Lookups.{moment_named, moment_of}
use Rattle.radial_spec.specs.Theorems.{FoundByName, NoneNamed}
use Rattle.radial_spec.proofs.Accepted.{moments_accepted}

-- ---- what is found is listed and has the name
found_listed : (name : ℕ) (ms : List Moment) (m : Moment) → moment_named name ms ≡ given m → Memᴰ m ms × (m.name ≡ name)
found_listed name [] m e = never (cc e)
found_listed name (x ∷ ms) m e = go (eqb x.name name) refl e (λ k. found_listed name ms m k)
  where
    go : (t : Bool) → eqb x.name name ≡ t → pick t (given x) (moment_named name ms) ≡ given m
        → (moment_named name ms ≡ given m → Memᴰ m ms × (m.name ≡ name)) → Memᴰ m (x ∷ ms) × (m.name ≡ name)
    go true q k later =
        let p : x ≡ m = cc k in
        (Memᴰ.head (sym p), ap (λ (y : Moment). y.name) (sym p) ∙ eqb-true x.name name q)
    go false q k later = let r = later k in (Memᴰ.tail r.0, r.1)

-- ---- what is listed with the name is found: no moment before it has the name
absent_before : (x : ℕ) (ys : List ℕ) (y : ℕ) → Absent x (ys ++ (y ∷ [])) → Absent x ys × (x ≢ y)
absent_before x [] y a = (tt, a.0)
absent_before x (z ∷ ys) y a = let r = absent_before x ys y a.1 in ((a.0, r.0), r.1)

later_absent : (from z : ℕ) (seen : List ℕ) (ms : List Moment) (m : Moment) → MomentsLie from z seen ms → Memᴰ m ms
    → Absent m.name seen
later_absent from z seen [] m lie k = absurd (Memᴰ.not-nil k)
later_absent from z seen (x ∷ ms) m lie k =
    go (Memᴰ.cases_cons k) (λ r. later_absent (moment_end x) z (seen ++ (x.name ∷ [])) ms m lie.1 r)
  where
    go : (m ≡ x) ⊎ Memᴰ m ms → (Memᴰ m ms → Absent m.name (seen ++ (x.name ∷ []))) → Absent m.name seen
    go (inl e) later = subst (λ (y : Moment). Absent y.name seen) (sym e) lie.0.once
    go (inr r) later = (absent_before m.name seen x.name (later r)).0

listed_found : (name from z : ℕ) (seen : List ℕ) (ms : List Moment) (m : Moment) → MomentsLie from z seen ms → Memᴰ m ms
    → m.name ≡ name
    → moment_named name ms ≡ given m
listed_found name from z seen [] m lie k e = absurd (Memᴰ.not-nil k)
listed_found name from z seen (x ∷ ms) m lie k e =
    go (Memᴰ.cases_cons k) (λ r. listed_found name (moment_end x) z (seen ++ (x.name ∷ [])) ms m lie.1 r e)
  where
    go : (m ≡ x) ⊎ Memᴰ m ms → (Memᴰ m ms → moment_named name ms ≡ given m)
        → pick (eqb x.name name) (given x) (moment_named name ms) ≡ given m
    go (inl q) later =
        let here : x.name ≡ name = ap (λ (y : Moment). y.name) (sym q) ∙ e in
        simp (eq-eqb x.name name here, q)
    go (inr r) later =
        let apart = (absent_before m.name seen x.name (later_absent (moment_end x) z (seen ++ (x.name ∷ [])) ms m lie.1 r)).1 in
        simp (ne_eqb x.name name (λ h. apart (e ∙ sym h))) (later r)

-- ---- none has the name
none_found : (name : ℕ) (ms : List Moment) → moment_named name ms ≡ refused 21 → (m : Moment) → Memᴰ m ms → m.name ≢ name
none_found name [] e m k = absurd (Memᴰ.not-nil k)
none_found name (x ∷ ms) e m k = go (eqb x.name name) refl e (Memᴰ.cases_cons k) (λ q r. none_found name ms q m r)
  where
    go : (t : Bool) → eqb x.name name ≡ t → pick t (given x) (moment_named name ms) ≡ refused 21 → (m ≡ x) ⊎ Memᴰ m ms
        → (moment_named name ms ≡ refused 21 → Memᴰ m ms → m.name ≢ name) → m.name ≢ name
    go true q f k later = never (cc f)
    go false q f (inl p) later = λ h. eqb-false x.name name q (ap (λ (y : Moment). y.name) (sym p) ∙ h)
    go false q f (inr r) later = later f r

none_named_in : (name : ℕ) (ms : List Moment) → ((m : Moment) → Memᴰ m ms → m.name ≢ name) → moment_named name ms ≡ refused 21
none_named_in name [] f = refl
none_named_in name (x ∷ ms) f =
    simp (ne_eqb x.name name (f x (Memᴰ.head refl))) (none_named_in name ms (λ m k. f m (Memᴰ.tail k)))

-- ---- of an accepted body
by_moments : (b : List ℕ) (d : Description) (name : ℕ) → radial_of b ≡ given d → moment_of b name ≡ moment_named name d.moments
unfolding moment_of
by_moments b d name e = ap (λ (a : Answer Description). onward a (λ x. moment_named name x.moments)) e

pub found_by_name : FoundByName
found_by_name b d name m e = (
  λ h. found_listed name d.moments m (sym (by_moments b d name e) ∙ h),
  λ k. by_moments b d name e ∙ listed_found name (end_at b radial_pointer) (size_in b) [] d.moments m (moments_accepted b d e)
      k.0 k.1,
)

pub none_named : NoneNamed
none_named b d name e = (
  λ h. none_found name d.moments (sym (by_moments b d name e) ∙ h),
  λ f. by_moments b d name e ∙ none_named_in name d.moments f,
)
