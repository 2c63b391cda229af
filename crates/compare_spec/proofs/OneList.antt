-- Runs that are sound, longest and in order: at most one list of them holds every kilometre that differs. Assumes nothing.
use Prim.Native.Nat.{ℕ, zero, suc, ◌-◌, ◌≤◌, ◌<◌}
use native.Mathlib.Omega.{arith}
use mathlib.Core.Path.{◌≡◌, refl, sym, ap, ◌∙◌, subst}
use mathlib.Core.Logic.{⊎_elim}
use mathlib.Core.List.{List, [], ◌∷◌}
use lib.ListN.{length, get_or}
use Rattle.wire.proofs.EachLaws.{each_so, each_both, each_at}
use Rattle.wire.specs.Properties.{Each}
use Rattle.map_spec.specs.Map.{FilterMap, code_at}
use Rattle.compare_spec.specs.Differences.{Difference}
use Rattle.compare_spec.specs.Compared.{Present, Coded, Sound, Longest, Within, no_difference, OneRun, Before, by_elevation, by_azimuth, by_kilometre, Ordered, Compared}
use Rattle.compare_spec.proofs.Lists.{SomeOf, some_at, some_each, Sorted}

-- ---- the order
before_on : (d e f : Difference) → e.first ≤ e.last → Before d e → Before e f → Before d f
before_on d e f s (by_elevation p) (by_elevation q) = by_elevation (omega arith)
before_on d e f s (by_elevation p) (by_azimuth a q) = by_elevation (omega arith)
before_on d e f s (by_elevation p) (by_kilometre a b q) = by_elevation (omega arith)
before_on d e f s (by_azimuth a p) (by_elevation q) = by_elevation (omega arith)
before_on d e f s (by_azimuth a p) (by_azimuth b q) = by_azimuth (a ∙ b) (omega arith)
before_on d e f s (by_azimuth a p) (by_kilometre b c q) = by_azimuth (a ∙ b) (omega arith)
before_on d e f s (by_kilometre a b p) (by_elevation q) = by_elevation (omega arith)
before_on d e f s (by_kilometre a b p) (by_azimuth c q) = by_azimuth (a ∙ c) (omega arith)
before_on d e f s (by_kilometre a b p) (by_kilometre c g q) = by_kilometre (a ∙ c) (b ∙ g) (omega arith)

not_itself : (d : Difference) → d.first ≤ d.last → Before d d → ⊥
not_itself d s (by_elevation p) = omega arith
not_itself d s (by_azimuth a p) = omega arith
not_itself d s (by_kilometre a b p) = omega arith

-- no kilometre lies in a run and in one that comes after it
apart : (d e : Difference) (elevation azimuth kilometre : ℕ) → Before d e → Within d elevation azimuth kilometre
    → Within e elevation azimuth kilometre → ⊥
apart d e elevation azimuth kilometre (by_elevation p) w v = omega (arith, w.segment, v.segment)
apart d e elevation azimuth kilometre (by_azimuth a p) w v = omega (arith, w.around, v.around)
apart d e elevation azimuth kilometre (by_kilometre a b p) w v = omega (arith, w.up_to, v.from)

abbrev Proper : Difference → Type 0
Proper d = d.first ≤ d.last

ordered_sorted : (ds : List Difference) → Each Proper ds → Ordered ds → Sorted Before ds
ordered_sorted [] s o = tt
ordered_sorted (d ∷ []) s o = (tt, tt)
ordered_sorted (d ∷ (e ∷ ds)) s o =
    let r = ordered_sorted (e ∷ ds) s.1 o.1 in
    ((o.0, each_so (Before e) (Before d) ds (λ f b. before_on d e f s.1.0 o.0 b) r.0), r)

sorted_ordered : (ds : List Difference) → Sorted Before ds → Ordered ds
sorted_ordered [] s = tt
sorted_ordered (d ∷ []) s = tt
sorted_ordered (d ∷ (e ∷ ds)) s = (s.0.0, sorted_ordered (e ∷ ds) s.1)

-- ---- the one run in which a kilometre lies
one-run : (ds : List Difference) (elevation azimuth kilometre : ℕ) → Sorted Before ds → SomeOf (λ d. Within d elevation azimuth kilometre) ds
    → OneRun ds elevation azimuth kilometre
one-run [] elevation azimuth kilometre s h = absurd h
one-run (d ∷ ds) elevation azimuth kilometre s h =
    ⊎_elim (λ w. here w) (λ k. there (one-run ds elevation azimuth kilometre s.1 k)) h
  where
    after : (i : ℕ) → i < length ds → Before d (get_or ds i no_difference)
    after i l = each_at (Before d) ds no_difference i s.0 l

    here : Within d elevation azimuth kilometre → OneRun (d ∷ ds) elevation azimuth kilometre
    here w = record { place = 0; listed = omega arith; within = w; only = first }
      where
        first : (i : ℕ) → i < suc (length ds) → Within (get_or (d ∷ ds) i no_difference) elevation azimuth kilometre → i ≡ 0
        first zero l v = refl
        first (suc i) l v = absurd (apart d (get_or ds i no_difference) elevation azimuth kilometre (after i (omega arith)) w v)

    there : OneRun ds elevation azimuth kilometre → OneRun (d ∷ ds) elevation azimuth kilometre
    there o = record { place = suc o.place; listed = omega (arith, o.listed); within = o.within; only = later }
      where
        later : (i : ℕ) → i < suc (length ds) → Within (get_or (d ∷ ds) i no_difference) elevation azimuth kilometre → i ≡ suc o.place
        later zero l v = absurd (apart d (get_or ds o.place no_difference) elevation azimuth kilometre
            (after o.place o.listed) v o.within)
        later (suc i) l v = ap suc (o.only i (omega arith) v)

-- ---- two lists in order with the same elements
in_tail : (x y : Difference) (ys : List Difference) → (x ≡ y → ⊥) → SomeOf (λ z. x ≡ z) (y ∷ ys) → SomeOf (λ z. x ≡ z) ys
in_tail x y ys ne s = ⊎_elim (λ e. absurd (ne e)) (λ k. k) s

related : (P : Difference → Type 0) (x : Difference) (ys : List Difference) → Each P ys → SomeOf (λ z. x ≡ z) ys → P x
related P x [] p s = absurd s
related P x (y ∷ ys) p s = ⊎_elim (λ e. subst P (sym e) p.0) (λ k. related P x ys p.1 k) s

heads : (x y : Difference) (xs ys : List Difference) → Proper x → Proper y → Each (Before x) xs → Each (Before y) ys
    → SomeOf (λ z. x ≡ z) (y ∷ ys) → SomeOf (λ z. y ≡ z) (x ∷ xs) → x ≡ y
heads x y xs ys p q bx by s t =
    ⊎_elim (λ e. e)
    (λ k. ⊎_elim (λ e. sym e)
    (λ l. absurd (not_itself x p (before_on x y x q (related (Before x) y xs bx l) (related (Before y) x ys by k)))) t)
    s

tails : (x y : Difference) (xs ys : List Difference) → x ≡ y → Proper x → Each (Before x) xs → Each (λ z. SomeOf (λ w. z ≡ w) (y ∷ ys)) xs
    → Each (λ z. SomeOf (λ w. z ≡ w) ys) xs
tails x y xs ys e p b s =
    each_both (Before x) (λ z. SomeOf (λ w. z ≡ w) (y ∷ ys)) (λ z. SomeOf (λ w. z ≡ w) ys) xs
    (λ z q k. in_tail z y ys (λ f. not_itself x p (subst (λ (w : Difference). Before x w) (f ∙ sym e) q)) k)
    b s

same-list : (xs ys : List Difference) → Each Proper xs → Each Proper ys → Sorted Before xs → Sorted Before ys
    → Each (λ x. SomeOf (λ z. x ≡ z) ys) xs → Each (λ y. SomeOf (λ z. y ≡ z) xs) ys → xs ≡ ys
same-list [] [] p q s t a b = refl
same-list [] (y ∷ ys) p q s t a b = absurd b.0
same-list (x ∷ xs) [] p q s t a b = absurd a.0
same-list (x ∷ xs) (y ∷ ys) p q s t a b =
    let e = heads x y xs ys p.0 q.0 s.0 t.0 a.0 b.0 in
    let r = same-list xs ys p.1 q.1 s.1 t.1 (tails x y xs ys e p.0 s.0 a.1) (tails y x ys xs (sym e) q.0
    t.0 b.1) in
    λ i. e i ∷ r i

-- ---- two runs that share a kilometre
record SameCodes (d e : Difference) : Type 0 where
  elevation : d.elevation ≡ e.elevation
  azimuth : d.azimuth ≡ e.azimuth
  old : d.old ≡ e.old
  new : d.new ≡ e.new

module _ (m n : FilterMap) where
  recoded : (d e : Difference) (kilometre : ℕ) → SameCodes d e → Coded m n d kilometre → Coded m n e kilometre
  recoded d e kilometre s c = record {
    old = sym (λ i. code_at m (s.elevation i) (s.azimuth i) kilometre) ∙ c.old ∙ s.old;
    new = sym (λ i. code_at n (s.elevation i) (s.azimuth i) kilometre) ∙ c.new ∙ s.new;
  }

  -- two sound and longest runs in which one kilometre lies
  module _ (elevation azimuth kilometre : ℕ) where
    abbrev Runs : Difference → Type 0
    Runs d = Sound m n d × Longest m n d × Within d elevation azimuth kilometre

    codes-of : (d e : Difference) → Runs d → Runs e → SameCodes d e
    codes-of d e p q =
        let w = p.2 in
        let v = q.2 in
        let a = sym w.segment ∙ v.segment in
        let b = sym w.around ∙ v.around in
        let c = p.0.coded kilometre w.from w.up_to in
        let g = q.0.coded kilometre v.from v.up_to in
        record {
          elevation = a;
          azimuth = b;
          old = sym c.old ∙ (λ i. code_at m (a i) (b i) kilometre) ∙ g.old;
          new = sym c.new ∙ (λ i. code_at n (a i) (b i) kilometre) ∙ g.new;
        }

    not-sooner : (d e : Difference) → Runs d → Runs e → d.first < e.first → ⊥
    not-sooner d e p q h =
        let k = e.first - 1 in
        q.1.before k (omega arith)
        (recoded d e k (codes-of d e p q) (p.0.coded k (omega arith) (omega (arith, p.2.up_to, q.2.from))))

    not-shorter : (d e : Difference) → Runs d → Runs e → d.last < e.last → ⊥
    not-shorter d e p q h =
        let k = suc d.last in
        p.1.after (omega (arith, q.0.present.far))
        (recoded e d k (codes-of e d q p) (q.0.coded k (omega (arith, p.2.up_to, q.2.from)) (omega arith)))

    same-run : (d e : Difference) → Runs d → Runs e → d ≡ e
    same-run d e p q =
        let s = codes-of d e p q in
        let f : d.first ≡ e.first = omega (arith, not-sooner d e p q, not-sooner e d q p) in
        let l : d.last ≡ e.last = omega (arith, not-shorter d e p q, not-shorter e d q p) in
        λ i. record { elevation = s.elevation i; azimuth = s.azimuth i; first = f i; last = l i; old = s.old i; new = s.new i }

-- ---- what is asked of the list, by its elements in place of their places
pub record Exact (m n : FilterMap) (ds : List Difference) : Type 0 where
  pub sound : Each (Sound m n) ds
  pub longest : Each (Longest m n) ds
  pub covered : (elevation azimuth kilometre : ℕ) → Present m n elevation azimuth kilometre
      → (code_at m elevation azimuth kilometre ≡ code_at n elevation azimuth kilometre → ⊥)
      → SomeOf (λ d. Within d elevation azimuth kilometre) ds
  pub sorted : Sorted Before ds

module _ (m n : FilterMap) where
  proper : (ds : List Difference) → Each (Sound m n) ds → Each Proper ds
  proper ds s = each_so (Sound m n) Proper ds (λ d p. p.some) s

  pub exact_compared : (ds : List Difference) → Exact m n ds → Compared m n ds
  exact_compared ds x = record {
    sound = x.sound;
    longest = x.longest;
    complete = λ elevation azimuth kilometre p ne. one-run ds elevation azimuth kilometre x.sorted
        (x.covered elevation azimuth kilometre p ne);
    ordered = sorted_ordered ds x.sorted;
  }

  pub compared_exact : (ds : List Difference) → Compared m n ds → Exact m n ds
  compared_exact ds c = record {
    sound = c.sound;
    longest = c.longest;
    covered = λ elevation azimuth kilometre p ne.
        let o = c.complete elevation azimuth kilometre p ne in
        some_at (λ d. Within d elevation azimuth kilometre) ds no_difference o.place o.listed o.within;
    sorted = ordered_sorted ds (proper ds c.sound) c.ordered;
  }

  -- a sound and longest run stands in every such list
  found : (d : Difference) (ds : List Difference) → Sound m n d × Longest m n d → Exact m n ds → SomeOf (λ e. d ≡ e) ds
  found d ds p x =
      let s = p.0 in
      let h = s.present in
      let c = s.coded d.first (omega arith) s.some in
      let w : Within d d.elevation d.azimuth d.first = record {
        segment = refl;
        around = refl;
        from = omega arith;
        up_to = s.some;
      } in
      some_each (λ e. Sound m n e × Longest m n e) (λ e. Within e d.elevation d.azimuth d.first) (λ e. d ≡ e) ds
      (λ e q v. same-run m n d.elevation d.azimuth d.first d e (p.0, p.1, w) (q.0, q.1, v))
      (each_both (Sound m n) (Longest m n) (λ e. Sound m n e × Longest m n e) ds (λ e a b. (a, b)) x.sound x.longest)
      (x.covered d.elevation d.azimuth d.first
      (record { from = h.from; in_old = h.in_old; in_new = h.in_new; around = h.around; far = omega (arith, s.some, h.far) })
      (λ e. s.differ (sym c.old ∙ e ∙ c.new)))

  all_found : (ds es : List Difference) → Exact m n ds → Exact m n es → Each (λ d. SomeOf (λ e. d ≡ e) es) ds
  all_found ds es x y =
      each_both (Sound m n) (Longest m n) (λ d. SomeOf (λ e. d ≡ e) es) ds (λ d a b. found d es (a, b) y) x.sound x.longest

  pub one_list : (ds es : List Difference) → Exact m n ds → Exact m n es → ds ≡ es
  one_list ds es x y =
      same-list ds es (proper ds x.sound) (proper es y.sound) x.sorted y.sorted (all_found ds es x y) (all_found es ds y x)
