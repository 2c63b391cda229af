-- The differences of two maps: the runs of every azimuth of every elevation segment present in both, one after the other. Assumes nothing.
use Prim.Native.Nat.{ℕ, suc, ◌-◌, ◌≤◌}
use native.Mathlib.Omega.{arith}
use mathlib.Core.Path.{◌≡◌, refl, sym, ◌∙◌, subst}
use mathlib.Core.Bool.{Bool, true, false}
use mathlib.Core.List.{List}
use lib.Dec.{ltb}
use lib.ListN.{length}
use borrow.Author.Tests.{ltb-true, ltb-false}
use Rattle.wire.proofs.EachLaws.{each_so}
use Rattle.wire.specs.Properties.{Each}
use Rattle.wire.specs.Checks.{pick}
use Rattle.map_spec.specs.Map.{azimuths, last_kilometre, FilterMap, code_at}
use Rattle.compare_spec.specs.Differences.{Difference, azimuth_differences, in_order, present_in_both, differences}
use Rattle.compare_spec.specs.Compared.{Present, Sound, Longest, Within, Before, by_elevation, by_azimuth}
use Rattle.compare_spec.proofs.Lists.{each_order, some_order, Sorted, sorted_order}
use Rattle.compare_spec.proofs.Runs.{Alike, Whole, run_of, Here, Listed, all_listed}
use Rattle.compare_spec.proofs.OneList.{Exact}

-- ---- elevation segments present in both
pub lesser_both : (a b k : ℕ) → k ≤ pick (ltb a b) a b → (k ≤ a) × (k ≤ b)
lesser_both a b k h = go (ltb a b) refl h
  where
    go : (t : Bool) → ltb a b ≡ t → k ≤ pick t a b → (k ≤ a) × (k ≤ b)
    go true e l = let u = ltb-true a b e in (l, omega arith)
    go false e l = let u = ltb-false a b e in (omega arith, l)

pub both_lesser : (a b k : ℕ) → k ≤ a → k ≤ b → k ≤ pick (ltb a b) a b
both_lesser a b k p q = go (ltb a b)
  where
    go : (t : Bool) → k ≤ pick t a b
    go true = p
    go false = q

module _ (m n : FilterMap) where
  -- ---- one azimuth
  abbrev Kept : ℕ → ℕ → Difference → Type 0
  Kept elevation azimuth d = Present m n elevation azimuth 0 → Sound m n d × Longest m n d

  run_kept : (elevation azimuth first next : ℕ) → Whole (code_at m elevation azimuth) (code_at n elevation azimuth) last_kilometre first next
      → (code_at m elevation azimuth first ≡ code_at n elevation azimuth first → ⊥)
      → Kept elevation azimuth (run_of elevation azimuth (code_at m elevation azimuth) (code_at n elevation azimuth) first next)
  run_kept elevation azimuth first next w ne p =
      let some = w.going.some in
      let inside = w.inside in
      let on : suc (next - 1) ≡ next = omega arith in (
        record {
          some = omega arith;
          present = record { from = p.from; in_old = p.in_old; in_new = p.in_new; around = p.around; far = omega arith };
          coded = λ k l u. let a = w.going.alike k l (omega arith) in record { old = a.in_old; new = a.in_new };
          differ = ne;
        },
        record {
          before = λ k e c. w.going.fresh k e (record { in_old = c.old; in_new = c.new });
          after = λ h c.
              w.ends (omega arith)
              (subst (Alike (code_at m elevation azimuth) (code_at n elevation azimuth) first) on
              (record { in_old = c.old; in_new = c.new }));
        },
      )

  listed : (elevation azimuth : ℕ)
      → Listed elevation azimuth (code_at m elevation azimuth) (code_at n elevation azimuth) last_kilometre (Kept elevation azimuth) 0
      (azimuth_differences m n elevation azimuth)
  listed elevation azimuth =
      all_listed elevation azimuth (code_at m elevation azimuth) (code_at n elevation azimuth) last_kilometre (Kept elevation azimuth)
      (run_kept elevation azimuth)

  -- ---- one elevation segment
  abbrev segment : ℕ → List Difference
  segment elevation = in_order 0 azimuths (azimuth_differences m n elevation)

  segment_key : (elevation : ℕ) → Each (λ d. d.elevation ≡ elevation) (segment elevation)
  segment_key elevation =
      each_order (azimuth_differences m n elevation) (λ d. d.elevation ≡ elevation) 0 azimuths
      (λ azimuth l u.
      each_so (Here elevation azimuth 0) (λ d. d.elevation ≡ elevation)
      (azimuth_differences m n elevation azimuth)
      (λ d h. h.segment)
      (listed elevation azimuth).here)

  segment_sorted : (elevation : ℕ) → Sorted Before (segment elevation)
  segment_sorted elevation =
      sorted_order (azimuth_differences m n elevation) Before
      (λ azimuth d. Here elevation azimuth 0 d)
      (λ j k d e h p q. by_azimuth (p.segment ∙ sym q.segment) (omega (arith, p.around, q.around)))
      (λ azimuth. (listed elevation azimuth).here)
      (λ azimuth. (listed elevation azimuth).sorted)
      0 azimuths

  -- ---- all
  module _ (P : Difference → Type 0) (of : (d : Difference) → Sound m n d × Longest m n d → P d) where
    each-difference : Each P (differences m n)
    each-difference =
        each_order segment P 1 (present_in_both m n)
        (λ elevation l u.
        let p = lesser_both (length m.elevations) (length n.elevations) elevation (omega arith) in
        each_order (azimuth_differences m n elevation) P 0 azimuths
        (λ azimuth low high.
        each_so (Kept elevation azimuth) P (azimuth_differences m n elevation azimuth)
        (λ d k. of d (k (record { from = l; in_old = p.0; in_new = p.1; around = high; far = omega arith })))
        (listed elevation azimuth).each))

  pub differences_exact : Exact m n (differences m n)
  differences_exact = record {
    sound = each-difference (Sound m n) (λ d p. p.0);
    longest = each-difference (Longest m n) (λ d p. p.1);
    covered = λ elevation azimuth kilometre p ne.
        let in-run : Difference → Type 0 = λ d. Within d elevation azimuth kilometre in
        let u = both_lesser (length m.elevations) (length n.elevations) elevation p.in_old p.in_new in
        some_order segment in-run 1 (present_in_both m n) elevation p.from (omega arith)
        (some_order (azimuth_differences m n elevation) in-run 0 azimuths azimuth (omega arith) (omega (arith, p.around))
        ((listed elevation azimuth).covered kilometre (omega arith) p.far ne));
    sorted =
        sorted_order segment Before (λ elevation d. d.elevation ≡ elevation) (λ j k d e h p q. by_elevation (omega arith))
        segment_key segment_sorted 1
        (present_in_both m n);
  }
