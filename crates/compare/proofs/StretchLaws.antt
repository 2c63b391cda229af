-- Stretches of an azimuth, by parts on which both codes stay the same. Assumes nothing.
use Prim.Native.Nat.{ℕ, zero, suc, ◌+◌, ◌-◌, ◌≤◌, ◌<◌}
use native.Mathlib.Nat.{add-zero, zero-add, suc-add}
use native.Mathlib.Omega.{arith}
use mathlib.Core.Path.{◌≡◌, refl, sym, ap, ◌∙◌}
use mathlib.Core.Bool.{Bool, true, false}
use mathlib.Core.List.{List, [], ◌++◌}
use borrow.Author.Tests.{eq-eqb}
use Rattle.wire.specs.Checks.{pick}
use Rattle.map_spec.specs.Map.{last_kilometre, kilometres}
use Rattle.compare_spec.specs.Differences.{Difference, stay, stretch, stretches}

-- codes that are the same list nothing
module _ (elevation azimuth : ℕ) (codes : ℕ → ℕ) where
  stretch-none : (first next : ℕ) → stretch elevation azimuth codes codes first next ≡ []
  stretch-none first next = simp (eq-eqb (codes first) (codes first) refl)

  pub stretches-none : (first next left : ℕ) → stretches elevation azimuth codes codes first next left ≡ []
  unfolding stretches
  stretches-none first next zero = stretch-none first next
  stretches-none first next (suc left) =
      go (stay codes codes first next) (stretches-none first (suc next) left)
      (ap (λ (l : List Difference). l ++ stretches elevation azimuth codes codes next (suc next) left) (stretch-none first next)
      ∙ stretches-none next (suc next) left)
    where
      go : (t : Bool) {l m : List Difference} → l ≡ [] → m ≡ [] → pick t l m ≡ []
      go true e f = e
      go false e f = f

module _ (elevation azimuth : ℕ) (old new : ℕ → ℕ) where
  -- the codes at a kilometre are those of the first
  abbrev pub Same : ℕ → ℕ → Type 0
  Same first k = (old first ≡ old k) × (new first ≡ new k)

  pub same-stay : (first k : ℕ) → Same first k → stay old new first k ≡ true
  same-stay first k e = simp (eq-eqb (old first) (old k) e.0, eq-eqb (new first) (new k) e.1)

  step-stay : (first next left : ℕ) → stay old new first next ≡ true
      → stretches elevation azimuth old new first next (suc left) ≡ stretches elevation azimuth old new first (suc next) left
  unfolding stretches
  step-stay first next left e = simp e

  step_end : (first next left : ℕ) → stay old new first next ≡ false
      → stretches elevation azimuth old new first next (suc left)
      ≡ stretch elevation azimuth old new first next ++ stretches elevation azimuth old new next (suc next) left
  unfolding stretches
  step_end first next left e = simp e

  pub stretches_last : (first next left : ℕ) → left ≡ 0
      → stretches elevation azimuth old new first next left ≡ stretch elevation azimuth old new first next
  unfolding stretches
  stretches_last first next zero e = refl
  stretches_last first next (suc left) e = absurd (omega arith)

  -- so many kilometres that stay
  stay_on : (n first next left : ℕ) → ((k : ℕ) → next ≤ k → k < next + n → Same first k)
      → stretches elevation azimuth old new first next (n + left) ≡ stretches elevation azimuth old new first (next + n) left
  stay_on zero first next left h =
      let e : next ≡ next + 0 = sym (add-zero next) in
      ap (λ (l : ℕ). stretches elevation azimuth old new first next l) (zero-add left)
      ∙ ap (λ (k : ℕ). stretches elevation azimuth old new first k left) e
  stay_on (suc n) first next left h =
      let e : suc n + left ≡ suc (n + left) = suc-add n left in
      let f : suc next + n ≡ next + suc n = omega arith in
      ap (λ (l : ℕ). stretches elevation azimuth old new first next l) e
      ∙ step-stay first next (n + left) (same-stay first next (h next (omega arith) (omega arith)))
      ∙ stay_on n first (suc next) left (λ k low high. h k (omega arith) (omega arith))
      ∙ ap (λ (k : ℕ). stretches elevation azimuth old new first k left) f

  -- the kilometres from `next` to `end`, of all
  module _ (first next end : ℕ) (low : next ≤ end) (high : end ≤ last_kilometre) where
    pub part_stays : ((k : ℕ) → next ≤ k → k ≤ end → Same first k)
        → stretches elevation azimuth old new first next (kilometres - next) ≡ stretches elevation azimuth old new first (end + 1)
        (kilometres - (end + 1))
    part_stays h =
        let n = end + 1 - next in
        let e : kilometres - next ≡ n + (kilometres - (end + 1)) = omega arith in
        let f : next + n ≡ end + 1 = omega arith in
        ap (λ (l : ℕ). stretches elevation azimuth old new first next l) e
        ∙ stay_on n first next (kilometres - (end + 1)) (λ k l u. h k l (omega arith))
        ∙ ap (λ (k : ℕ). stretches elevation azimuth old new first k (kilometres - (end + 1))) f

    pub part-ends : stay old new first next ≡ false → ((k : ℕ) → next ≤ k → k ≤ end → Same next k)
        → stretches elevation azimuth old new first next (kilometres - next)
        ≡ stretch elevation azimuth old new first next ++ stretches elevation azimuth old new next (end + 1) (kilometres - (end + 1))
    part-ends s h =
        let n = end - next in
        let e : kilometres - next ≡ suc (n + (kilometres - (end + 1))) = omega arith in
        let f : suc next + n ≡ end + 1 = omega arith in
        ap (λ (l : ℕ). stretches elevation azimuth old new first next l) e
        ∙ step_end first next (n + (kilometres - (end + 1))) s
        ∙ ap (λ (l : List Difference). stretch elevation azimuth old new first next ++ l)
        (stay_on n next (suc next) (kilometres - (end + 1)) (λ k l u. h k (omega arith) (omega arith))
        ∙ ap (λ (k : ℕ). stretches elevation azimuth old new next k (kilometres - (end + 1))) f)

  -- the first kilometre begins a stretch: from it on, or from the one after it
  pub from_first : stretches elevation azimuth old new 0 0 kilometres ≡ stretches elevation azimuth old new 0 1 last_kilometre
  from_first = step-stay 0 0 last_kilometre (same-stay 0 0 (refl, refl))
