-- The runs of one azimuth, by its two codes at each kilometre: each has its codes throughout and not beyond, they are in order, and every
-- kilometre whose codes differ lies in one. Assumes nothing.
use Prim.Native.Nat.{ℕ, zero, suc, ◌+◌, ◌-◌, ◌≤◌, ◌<◌}
use native.Mathlib.Omega.{arith}
use mathlib.Core.Path.{◌≡◌, refl, sym, ◌∙◌, subst}
use mathlib.Core.Logic.{inl}
use mathlib.Core.Bool.{Bool, true, false}
use mathlib.Core.List.{List, [], ◌∷◌, ◌++◌, append-nil}
use lib.Dec.{ltb, eqb}
use borrow.Author.Tests.{ltb-true, ltb-false, eqb-true, eqb-false, eq-eqb}
use Rattle.wire.proofs.EachLaws.{each_append, each_so}
use Rattle.wire.specs.Properties.{Each}
use Rattle.wire.specs.Checks.{pick, both}
use Rattle.wire.proofs.CheckLaws.{never}
use Rattle.compare_spec.specs.Differences.{Difference, stay, stretch, stretches}
use Rattle.compare_spec.specs.Compared.{Within, Before, by_kilometre}
use Rattle.compare_spec.proofs.Lists.{SomeOf, some_left, some_right, Sorted, sorted_append}

-- ---- codes that stay
module _ (old new : ℕ → ℕ) where
  -- a kilometre has both codes of another
  pub record Alike (first k : ℕ) : Type 0 where
    pub in_old : old k ≡ old first
    pub in_new : new k ≡ new first

  stay_true : (j k : ℕ) → stay old new j k ≡ true → Alike j k
  stay_true j k e = go (eqb (old j) (old k)) (eqb (new j) (new k)) refl refl e
    where
      go : (t u : Bool) → eqb (old j) (old k) ≡ t → eqb (new j) (new k) ≡ u → both t u ≡ true → Alike j k
      go true true p q r = record { in_old = sym (eqb-true (old j) (old k) p); in_new = sym (eqb-true (new j) (new k) q) }
      go true false p q r = never (cc r)
      go false u p q r = never (cc r)

  stay_false : (j k : ℕ) → stay old new j k ≡ false → Alike j k → ⊥
  stay_false j k e a = never (cc (e, eq-eqb (old j) (old k) (sym a.in_old), eq-eqb (new j) (new k) (sym a.in_new)))

  -- the kilometres from `first` to the one before `next` have the codes of the first, and the one before them has not
  pub record Going (first next : ℕ) : Type 0 where
    pub some : first < next
    pub alike : (k : ℕ) → first ≤ k → k < next → Alike first k
    pub fresh : (k : ℕ) → suc k ≡ first → Alike first k → ⊥

  -- and neither has the one after them, where `far` is the last kilometre
  pub record Whole (far first next : ℕ) : Type 0 where
    pub going : Going first next
    pub inside : next ≤ suc far
    pub ends : next ≤ far → Alike first next → ⊥

  goes_on : (first next : ℕ) → Going first next → Alike first next → Going first (suc next)
  goes_on first next g a = record { some = omega (arith, g.some); alike = more; fresh = g.fresh }
    where
      more : (k : ℕ) → first ≤ k → k < suc next → Alike first k
      more k l u = go (ltb k next) refl
        where
          go : (t : Bool) → ltb k next ≡ t → Alike first k
          go true e = g.alike k l (ltb-true k next e)
          go false e =
              let h = ltb-false k next e in
              let q : next ≡ k = omega arith in
              subst (Alike first) q a

  -- one kilometre alone
  alone : (first : ℕ) → ((k : ℕ) → suc k ≡ first → Alike first k → ⊥) → Going first (suc first)
  alone first fresh = record { some = omega arith; alike = itself; fresh = fresh }
    where
      itself : (k : ℕ) → first ≤ k → k < suc first → Alike first k
      itself k l u = let q : first ≡ k = omega arith in subst (Alike first) q (record { in_old = refl; in_new = refl })

  goes_anew : (first next : ℕ) → Going first next → (Alike first next → ⊥) → Going next (suc next)
  goes_anew first next g ne =
      alone next
      (λ k e a.
      let b = g.alike k (omega (arith, g.some)) (omega arith) in
      ne (record { in_old = sym a.in_old ∙ b.in_old; in_new = sym a.in_new ∙ b.in_new }))

  pub starts : Going 0 1
  starts = alone 0 (λ k e a. absurd (omega arith))

-- a run of an azimuth that begins at `low` or later
pub record Here (elevation azimuth low : ℕ) (d : Difference) : Type 0 where
  pub segment : d.elevation ≡ elevation
  pub around : d.azimuth ≡ azimuth
  pub from : low ≤ d.first

-- ---- an azimuth
module _ (elevation azimuth : ℕ) (old new : ℕ → ℕ) where
  -- what a stretch lists, if anything
  abbrev pub run_of : ℕ → ℕ → Difference
  run_of first next = record { elevation = elevation; azimuth = azimuth; first = first; last = next - 1; old = old first; new = new first }

  each_stretch : (P : Difference → Type 0) (first next : ℕ) → ((old first ≡ new first → ⊥) → P (run_of first next))
      → Each P (stretch elevation azimuth old new first next)
  each_stretch P first next h = go (eqb (old first) (new first)) refl
    where
      go : (t : Bool) → eqb (old first) (new first) ≡ t → Each P (pick t [] (run_of first next ∷ []))
      go true e = tt
      go false e = (h (eqb-false (old first) (new first) e), tt)

  some-stretch : (P : Difference → Type 0) (first next : ℕ) → (old first ≡ new first → ⊥) → P (run_of first next)
      → SomeOf P (stretch elevation azimuth old new first next)
  some-stretch P first next ne p = go (eqb (old first) (new first)) refl
    where
      go : (t : Bool) → eqb (old first) (new first) ≡ t → SomeOf P (pick t [] (run_of first next ∷ []))
      go true e = absurd (ne (eqb-true (old first) (new first) e))
      go false e = inl p

  sorted_stretch : (R : Difference → Difference → Type 0) (first next : ℕ) → Sorted R (stretch elevation azimuth old new first next)
  sorted_stretch R first next = go (eqb (old first) (new first))
    where
      go : (t : Bool) → Sorted R (pick t [] (run_of first next ∷ []))
      go true = tt
      go false = (tt, tt)

  -- to the kilometre `far`
  module _ (far : ℕ) where
    -- induction over stretches: P holds past the last kilometre, and for a stretch and what follows if it holds for what follows
    pub stretches-by : (P : ℕ → List Difference → Type 0) → P (suc far) []
        → ((first next : ℕ) (rest : List Difference) → Whole old new far first next → P next rest
        → P first (stretch elevation azimuth old new first next ++ rest))
        → (first next left : ℕ) → Going old new first next → next + left ≡ suc far
        → P first (stretches elevation azimuth old new first next left)
    unfolding stretches
    stretches-by P none more first next zero g e =
        let q : suc far ≡ next = omega arith in
        subst (P first) (append-nil (stretch elevation azimuth old new first next))
        (more first next [] (record { going = g; inside = omega arith; ends = λ h. absurd (omega arith) })
        (subst (λ (k : ℕ). P k []) q none))
    stretches-by P none more first next (suc left) g e =
        go (stay old new first next) refl (λ h. stretches-by P none more first (suc next) left h (omega arith))
        (λ h. stretches-by P none more next (suc next) left h (omega arith))
      where
        longer : List Difference
        longer = stretches elevation azimuth old new first (suc next) left

        others : List Difference
        others = stretches elevation azimuth old new next (suc next) left

        go : (t : Bool) → stay old new first next ≡ t → (Going old new first (suc next) → P first longer)
            → (Going old new next (suc next) → P next others)
            → P first (pick t longer (stretch elevation azimuth old new first next ++ others))
        go true p on anew = on (goes_on old new first next g (stay_true old new first next p))
        go false p on anew =
            let ne = stay_false old new first next p in
            more first next others (record { going = g; inside = omega arith; ends = λ h. ne }) (anew (goes_anew old new first next g ne))

    -- all runs of the azimuth that begin at `low` or later
    pub record Listed (P : Difference → Type 0) (low : ℕ) (ds : List Difference) : Type 0 where
      pub each : Each P ds
      pub here : Each (Here elevation azimuth low) ds
      pub sorted : Sorted Before ds
      pub covered : (k : ℕ) → low ≤ k → k ≤ far → (old k ≡ new k → ⊥) → SomeOf (λ d. Within d elevation azimuth k) ds

    module _ (P : Difference → Type 0) (of : (first next : ℕ) → Whole old new far first next → (old first ≡ new first → ⊥)
        → P (run_of first next)) where
      one_more : (first next : ℕ) (rest : List Difference) → Whole old new far first next → Listed P next rest
          → Listed P first (stretch elevation azimuth old new first next ++ rest)
      one_more first next rest w l =
          let some = w.going.some in
          let one = stretch elevation azimuth old new first next in
          record {
            each = each_append P one rest (each_stretch P first next (of first next w)) l.each;
            here =
                each_append (Here elevation azimuth first) one rest
                (each_stretch (Here elevation azimuth first) first next
                (λ ne. record { segment = refl; around = refl; from = omega arith }))
                (each_so (Here elevation azimuth next) (Here elevation azimuth first) rest
                (λ d h. record { segment = h.segment; around = h.around; from = omega (arith, h.from) })
                l.here);
            sorted =
                sorted_append Before one rest (sorted_stretch Before first next) l.sorted
                (each_stretch (λ d. Each (Before d) rest) first next
                (λ ne. each_so (Here elevation azimuth next) (Before (run_of first next)) rest
                (λ d h. by_kilometre (sym h.segment) (sym h.around) (omega (arith, h.from)))
                l.here));
            covered = cover;
          }
        where
          cover : (k : ℕ) → first ≤ k → k ≤ far → (old k ≡ new k → ⊥)
              → SomeOf (λ d. Within d elevation azimuth k) (stretch elevation azimuth old new first next ++ rest)
          cover k low high ne = go (ltb k next) refl
            where
              go : (t : Bool) → ltb k next ≡ t → SomeOf (λ d. Within d elevation azimuth k) (stretch elevation azimuth old new first
                  next ++ rest)
              go true e =
                  let u = ltb-true k next e in
                  let a = w.going.alike k low u in
                  some_left (λ d. Within d elevation azimuth k) (stretch elevation azimuth old new first next) rest
                  (some-stretch (λ d. Within d elevation azimuth k) first next (λ q. ne (a.in_old ∙ q ∙ sym a.in_new))
                  (record { segment = refl; around = refl; from = low; up_to = omega arith }))
              go false e =
                  some_right (λ d. Within d elevation azimuth k) (stretch elevation azimuth old new first next) rest
                  (l.covered k (ltb-false k next e) high ne)

      pub all_listed : Listed P 0 (stretches elevation azimuth old new 0 1 far)
      all_listed =
          stretches-by (Listed P) (record { each = tt; here = tt; sorted = tt; covered = λ k l h ne. absurd (omega arith) })
          one_more 0 1 far
          (starts old new)
          (omega arith)
