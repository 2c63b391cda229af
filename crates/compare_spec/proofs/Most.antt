-- How many runs there are at most: one for kilometre 0, and one for each zone of either map that begins after it. Assumes nothing.
use Prim.Native.Nat.{ℕ, zero, suc, ◌+◌, ◌*◌, ◌≤◌, ◌<◌}
use native.Mathlib.Nat.{suc-mul}
use native.Mathlib.Omega.{arith}
use mathlib.Core.Path.{◌≡◌, refl}
use mathlib.Core.Bool.{Bool, true, false}
use mathlib.Core.List.{List, [], ◌∷◌, ◌++◌, flatten}
use lib.Dec.{eqb}
use lib.ListN.{length, length-append}
use borrow.Author.Tests.{eqb-true, eqb-false}
use Rattle.wire.specs.Checks.{pick}
use Rattle.map_spec.specs.Map.{azimuths, last_kilometre, FilterMap, AzimuthInRange, zones_at, code_at}
use Rattle.compare_spec.specs.Differences.{Difference, stay, stretch, stretches, azimuth_differences, most_runs, in_order, present_in_both, differences}
use Rattle.compare_spec.specs.Comparing.{difference_size, halfwords}
use Rattle.compare_spec.specs.Theorems.{MostDifferences, RoomForAll}
use Rattle.map_spec.proofs.Theorems.{azimuth_in_range}
use Rattle.compare_spec.proofs.Runs.{Alike, Whole, starts, run_of, stretches-by}
use Rattle.compare_spec.proofs.Maps.{lesser_both}
use Rattle.compare_spec.proofs.Begins.{begins, begins_fall, begins-drop, begins_range}

-- ---- one azimuth
module _ (elevation azimuth : ℕ) (old new : ℕ → ℕ) where
  pub stretch_few : (first next : ℕ) → length (stretch elevation azimuth old new first next) ≤ 1
  stretch_few first next = go (eqb (old first) (new first))
    where
      go : (t : Bool) → length (pick t [] (run_of elevation azimuth old new first next ∷ [])) ≤ 1
      go true = omega arith
      go false = omega arith

  -- a run and those after it
  run_more : (first next : ℕ) (rest : List Difference) → length (stretch elevation azimuth old new first next ++ rest) ≤ suc (length rest)
  run_more first next rest = omega (arith, length-append (stretch elevation azimuth old new first next) rest, stretch_few first next)

  pub runs_few : (first next left : ℕ) → length (stretches elevation azimuth old new first next left) ≤ suc left
  unfolding stretches
  runs_few first next zero = stretch_few first next
  runs_few first next (suc left) = go (stay old new first next) (runs_few first (suc next) left) (runs_few next (suc next) left)
    where
      longer : List Difference
      longer = stretches elevation azimuth old new first (suc next) left

      others : List Difference
      others = stretches elevation azimuth old new next (suc next) left

      go : (t : Bool) → length longer ≤ suc left → length others ≤ suc left
          → length (pick t longer (stretch elevation azimuth old new first next ++ others)) ≤ suc (suc left)
      go true p q = omega arith
      go false p q = omega (arith, run_more first next others)

  -- E k is at least the number of kilometres, from k on, at which a code changes
  module _
      (far : ℕ)
      (E : ℕ → ℕ)
      (falls : (j k : ℕ) → j ≤ k → E k ≤ E j)
      (drops : (k : ℕ) → k < far → (Alike old new (suc k) k → ⊥) → suc (E (suc (suc k))) ≤ E (suc k))
    where
      -- at most so many runs begin from a kilometre on, where one begins
      abbrev most : ℕ → ℕ
      most zero = suc (E 1)
      most (suc k) = E (suc k)

      before-that : (first next : ℕ) → Whole old new far first next → suc (most next) ≤ most first
      before-that first zero w = absurd (omega (arith, w.going.some))
      before-that zero (suc next) w = omega (arith, falls 1 (suc next) (omega arith))
      before-that (suc k) (suc next) w =
          let some = w.going.some in
          let inside = w.inside in
          omega (arith, drops k (omega arith) (w.going.fresh k refl), falls (suc (suc k)) (suc next) (omega arith))

      pub runs-most : length (stretches elevation azimuth old new 0 1 far) ≤ suc (E 1)
      runs-most =
          stretches-by elevation azimuth old new far (λ first ds. length ds ≤ most first) (omega arith)
          (λ first next rest w h. omega (arith, run_more first next rest, before-that first next w))
          0 1 far
          (starts old new)
          (omega arith)

-- ---- two azimuths in range
module _ (m n : FilterMap) (elevation azimuth : ℕ) where
  -- zones of either map that begin from a kilometre on
  abbrev either-begins : ℕ → ℕ
  either-begins k = begins k (zones_at m elevation azimuth) + begins k (zones_at n elevation azimuth)

  either_falls : (j k : ℕ) → j ≤ k → either-begins k ≤ either-begins j
  either_falls j k h = omega (arith, begins_fall (zones_at m elevation azimuth) j k h, begins_fall (zones_at n elevation azimuth) j k h)

  either_drops : (k : ℕ) → k < last_kilometre
      → (Alike (code_at m elevation azimuth) (code_at n elevation azimuth) (suc k) k → ⊥)
      → suc (either-begins (suc (suc k))) ≤ either-begins (suc k)
  either_drops k h ne =
      go (eqb (code_at m elevation azimuth k) (code_at m elevation azimuth (suc k))) refl
    where
      go : (t : Bool) → eqb (code_at m elevation azimuth k) (code_at m elevation azimuth (suc k)) ≡ t
          → suc (either-begins (suc (suc k))) ≤ either-begins (suc k)
      go true e =
          let q = eqb-true (code_at m elevation azimuth k) (code_at m elevation azimuth (suc k)) e in
          omega (
            arith,
            begins_fall (zones_at m elevation azimuth) (suc k) (suc (suc k)) (omega arith),
            begins-drop 0 (zones_at n elevation azimuth) k h (λ z. absurd (omega arith)) (λ r. ne (record { in_old = q; in_new = r })),
          )
      go false e =
          omega (
            arith,
            begins_fall (zones_at n elevation azimuth) (suc k) (suc (suc k)) (omega arith),
            begins-drop 0 (zones_at m elevation azimuth) k h (λ z. absurd (omega arith))
                (eqb-false (code_at m elevation azimuth k) (code_at m elevation azimuth (suc k)) e),
          )

  azimuth_most : AzimuthInRange (zones_at m elevation azimuth) → AzimuthInRange (zones_at n elevation azimuth)
      → length (azimuth_differences m n elevation azimuth) ≤ most_runs
  azimuth_most a b =
      omega (
        arith,
        begins_range 1 (zones_at m elevation azimuth) a,
        begins_range 1 (zones_at n elevation azimuth) b,
        runs-most elevation azimuth (code_at m elevation azimuth) (code_at n elevation azimuth) last_kilometre either-begins
            either_falls either_drops,
      )

-- ---- two maps in range
order_most : {A : Type 0} (of : ℕ → List A) (most first count : ℕ) → ((k : ℕ) → first ≤ k → k < first + count → length (of k) ≤ most)
    → length (in_order first count of) ≤ count * most
unfolding in_order
order_most of most first zero h = omega arith
order_most of most first (suc count) h =
    omega (
      arith,
      length-append (of first) (in_order (suc first) count of),
      suc-mul count most,
      h first (omega arith) (omega arith),
      order_most of most (suc first) count (λ k l u. h k (omega arith) (omega arith)),
    )

pub differences_most : MostDifferences
differences_most m n r s =
    order_most (λ elevation. in_order 0 azimuths (azimuth_differences m n elevation)) (azimuths * most_runs) 1 (present_in_both m n)
    (λ elevation l u.
    let p = lesser_both (length m.elevations) (length n.elevations) elevation (omega arith) in
    order_most (azimuth_differences m n elevation) most_runs 0 azimuths
    (λ azimuth low high.
    azimuth_most m n elevation azimuth (azimuth_in_range m r elevation azimuth l p.0 high) (azimuth_in_range n s elevation azimuth l
    p.1 high)))

-- ---- their halfwords
pub halfwords-length : (ds : List Difference) → length (halfwords ds) ≡ difference_size * length ds
unfolding halfwords flatten
halfwords-length [] = omega arith
halfwords-length (d ∷ ds) = omega (arith, halfwords-length ds)

pub halfwords_most : RoomForAll
halfwords_most m n r s =
    let p = lesser_both (length m.elevations) (length n.elevations) (present_in_both m n) (omega arith) in
    omega (arith, p.0, r.most, halfwords-length (differences m n), differences_most m n r s)
