-- A block by its number, and a moment's head by its place: what is read of an accepted radial is what the rule answers. Assumes nothing.
use Prim.Native.Nat.{ℕ, zero, suc, ◌+◌, ◌-◌, ◌*◌, ◌≤◌, ◌<◌}
use native.Mathlib.Nat.{add-zero}
use native.Mathlib.Omega.{arith}
use mathlib.Core.Path.{◌≡◌, refl, sym, ap, ◌∙◌}
use mathlib.Core.Option.{Option, none, some}
use mathlib.Core.List.{List, [], ◌∷◌, map}
use lib.ListN.{length, get_or, get_or-eq_default}
use Rattle.wire.specs.Numbers.{fetched, Octets}
use Rattle.wire.specs.Answers.{refused, given, number_of}
use Rattle.wire.specs.Refusals.{number}
use Rattle.wire.specs.declared.refusal.Refusal.{Refusal}
use Rattle.wire.proofs.NumberLaws.{fetched-whole}
use Rattle.radial_spec.specs.Description.{RVOL, RELV, RRAD, constants, Moment, Description, first_pointer, volume_pointer}
use Rattle.radial_spec.specs.Description.{elevation_pointer, radial_pointer, moment_pointer, moment_head}
use Rattle.radial_spec.specs.Refusal.{count_in, pointer, part, moment_at, moments_at, description, radial_of}
use Rattle.radial_spec.specs.Lookups.{moment_of, moment_lying, blocks, Asked, no_such, lies, block_of}
use Rattle.radial_spec.proofs.Accepted.{moments_length}
use Rattle.wire.proofs.OnwardLaws.{shows_refused}
use Rattle.radial_spec.proofs.Held.{Held, held, number_refused}
use Rattle.radial.specs.Told.{Told, head_of, head_shown, told_of, block_shown}
use Rattle.radial.specs.Steps.{span_at, head_at, place_shown, constant_told, moment_told}
use Rattle.radial.proofs.HeadLaws.{span_is}
use Rattle.radial.proofs.FindLaws.{lies_at}

-- ---- the moments among the blocks
lyings : (ms : List Moment) → length (map lies (map moment_lying ms)) ≡ length ms
lyings [] = refl
lyings (m ∷ ms) = ap suc (lyings ms)

moment_at_lem : (b : List ℕ) (q n j : ℕ) → j < n
    → some (moment_told (head_of (moment_at (pointer b (q + 4 * j)) (part b (q + 4 * j)))))
    ≡ told_of (get_or (map lies (map moment_lying (moments_at b q n))) j no_such)
moment_at_lem b q zero j h = absurd (omega arith)
moment_at_lem b q (suc n) zero h = ap (λ (k : ℕ). some (moment_told (head_of (moment_at (pointer b k) (part b k))))) (add-zero q)
moment_at_lem b q (suc n) (suc j) h =
    let e : q + 4 * suc j ≡ q + 4 + 4 * j = omega arith in
    ap (λ (k : ℕ). some (moment_told (head_of (moment_at (pointer b k) (part b k))))) e ∙ moment_at_lem b (q + 4) n j (omega arith)

-- a refused radial has no block to tell of
pub block_refused : (b : List ℕ) (k : ℕ) (r : Refusal) → number r ≡ number_of (radial_of b)
    → refused (number r) ≡ block_shown (block_of b k)
unfolding block_of
block_refused b k r e = rw (number_refused b r e) refl

-- ---- the blocks of an accepted radial
module _ (b : List ℕ) (accepted : radial_of b ≡ given (description b)) where
  abbrev d : Description
  d = description b

  pub all_held : Held b
  all_held = held b d accepted

  abbrev asked : ℕ → Asked
  asked k = get_or (no_such ∷ map lies (blocks d)) k no_such

  block_is : (k : ℕ) (x : Option Told) → x ≡ told_of (asked k) → given x ≡ block_shown (block_of b k)
  unfolding block_of
  block_is k x h = rw accepted (ap given h)

  pub block_none : (k : ℕ) → count_in b < k → given none ≡ block_shown (block_of b k)
  block_none k h =
      let past : length (no_such ∷ map lies (blocks d)) ≤ k = omega (
        arith,
        lyings d.moments,
        moments_length b moment_pointer
            (count_in b - constants),
        all_held.start.some,
      ) in
      block_is k none (ap told_of (sym (get_or-eq_default (no_such ∷ map lies (blocks d)) no_such past)))

  pub block_zero : (k : ℕ) → k ≡ 0 → given none ≡ block_shown (block_of b k)
  block_zero k h = block_is k none (rw h refl)

  -- n is the name as the code has it
  pub block_volume : (k n : ℕ) → k ≡ 1 → n ≡ RVOL → given (some (constant_told n (span_at b volume_pointer))) ≡ block_shown (block_of b k)
  block_volume k n h e = block_is k _ (rw h (λ i. some (constant_told (e i) (span_is b volume_pointer all_held.volume i))))

  pub block_elevation : (k n : ℕ) → k ≡ 2 → n ≡ RELV
      → given (some (constant_told n (span_at b elevation_pointer))) ≡ block_shown (block_of b k)
  block_elevation k n h e = block_is k _ (rw h (λ i. some (constant_told (e i) (span_is b elevation_pointer all_held.elevation i))))

  pub block-radial : (k n : ℕ) → k ≡ 3 → n ≡ RRAD → given (some (constant_told n (span_at b radial_pointer))) ≡ block_shown (block_of b k)
  block-radial k n h e = block_is k _ (rw h (λ i. some (constant_told (e i) (span_is b radial_pointer all_held.radial i))))

  -- the pointer of a moment's block, and that its head is in the body
  module _ (k p : ℕ) (h : constants < k) (i : k ≤ count_in b) (e : p ≡ fetched 4 b (first_pointer + 4 * (k - 1))) where
    within : k - 4 < count_in b - constants
    within = omega arith

    pointed : p ≡ pointer b (moment_pointer + 4 * (k - 4))
    pointed =
        let q : first_pointer + 4 * (k - 1) ≡ moment_pointer + 4 * (k - 4) = omega arith in
        e ∙ fetched-whole 4 b (first_pointer + 4 * (k - 1)) (omega (arith, all_held.start.long, all_held.start.few)) ∙ ap (pointer b) q

    pub block_inside : p + moment_head ≤ length b
    block_inside = omega (arith, pointed, (all_held.moment (k - 4) within).inside)

    pub block-moment : given (some (moment_told (head_at b p))) ≡ block_shown (block_of b k)
    block-moment =
        let j : k ≡ suc (suc (suc (suc (k - 4)))) = omega arith in
        block_is k _
        (ap (λ (n : ℕ). some (moment_told (head_at b n))) pointed
        ∙ moment_at_lem b moment_pointer (count_in b - constants) (k - 4) within
        ∙ ap (λ (n : ℕ). told_of (asked n)) (sym j))

-- ---- a moment's head by its place
pub head-found : (b : List ℕ) (name p : ℕ) → Octets b → given p ≡ place_shown (moment_of b name)
    → given (head_at b p) ≡ head_shown (moment_of b name)
head-found b name p o e =
    let l = lies_at b name p o e in
    rw l.was (ap (λ (m : Moment). given (head_of m)) l.reads)

pub head-refused : (b : List ℕ) (name n : ℕ) → refused n ≡ place_shown (moment_of b name) → refused n ≡ head_shown (moment_of b name)
head-refused b name n e = rw (shows_refused (moment_of b name) (λ (m : Moment). m.place) n e) refl
