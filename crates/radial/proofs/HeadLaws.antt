-- What is read of an accepted radial is what the description says. Assumes nothing.
use Prim.Native.Nat.{ℕ, zero, suc, ◌+◌, ◌-◌, ◌*◌, ◌≤◌, ◌<◌}
use native.Mathlib.Nat.{add-zero}
use native.Mathlib.Omega.{arith}
use native.Mathlib.Numerals.{add-one}
use mathlib.Core.Logic.{⊎_elim}
use mathlib.Core.Path.{◌≡◌, refl, sym, ap, subst, ◌∙◌}
use mathlib.Core.List.{List, [], ◌∷◌, ◌++◌, map, append_assoc}
use lib.ListN.{length, set, replicate}
use lib.Seq.{set_at}
use Rattle.wire.specs.Numbers.{nums}
use Rattle.wire.specs.Answers.{given}
use Rattle.wire.proofs.NumberLaws.{nums-length}
use Rattle.radial_spec.specs.Description.{constants, Moment, most_moments, volume_pointer, elevation_pointer, radial_pointer, moment_pointer}
use Rattle.radial_spec.specs.Description.{constant_head, header_size, Member}
use Rattle.radial_spec.specs.Refusal.{count_in, pointer, part, block_says, block_at, moment_at, moments_at, description, radial_of}
use Rattle.radial_spec.proofs.Accepted.{moments_length}
use Rattle.radial_heading.specs.declared.Heading.{Heading}
use Rattle.radial.specs.declared.Span.{Span}
use Rattle.radial_head.specs.declared.MomentHead.{MomentHead}
use Rattle.radial.specs.Told.{span_of, head_of, no_head, heads_of, shown}
use Rattle.radial_heading.specs.Told.{heading_of, heading_shown}
use Rattle.radial.specs.Steps.{constant_pointers, span_at}
use Rattle.radial_spec.proofs.Held.{BlockHeld, Held, held}

-- ---- the heads in their places
pub map-length : (ms : List Moment) → length (map head_of ms) ≡ length ms
map-length [] = refl
map-length (m ∷ ms) = ap suc (map-length ms)

map_snoc : (ms : List Moment) (m : Moment) → map head_of (ms ++ (m ∷ [])) ≡ map head_of ms ++ (head_of m ∷ [])
map_snoc [] m = refl
map_snoc (x ∷ ms) m = ap (λ (l : List MomentHead). head_of x ∷ l) (map_snoc ms m)

-- one moment more
moments_snoc : (b : List ℕ) (q n : ℕ)
    → moments_at b q (suc n) ≡ moments_at b q n ++ (moment_at (pointer b (q + 4 * n)) (part b (q + 4 * n)) ∷ [])
moments_snoc b q zero = ap (λ (k : ℕ). moment_at (pointer b k) (part b k) ∷ []) (sym (add-zero q))
moments_snoc b q (suc n) =
    let e : q + 4 + 4 * n ≡ q + 4 * suc n = omega arith in
    ap (λ (l : List Moment). moment_at (pointer b q) (part b q) ∷ l)
    (moments_snoc b (q + 4) n ∙ ap (λ (k : ℕ). moments_at b (q + 4) n ++ (moment_at (pointer b k) (part b k) ∷ [])) e)

-- the first i heads of n are in their places
pub record Filling (b : List ℕ) (n : ℕ) (heads : List MomentHead) (i : ℕ) : Type 0 where
  pub below : i ≤ n
  pub small : n ≤ most_moments
  pub filled : heads ≡ map head_of (moments_at b moment_pointer i) ++ replicate (most_moments - i) no_head

module _ (b : List ℕ) (n : ℕ) (heads : List MomentHead) (i : ℕ) (g : Filling b n heads i) where
  pub fill-turns : (h : MomentHead) → i < n → h ≡ head_of (moment_at (pointer b (moment_pointer + 4 * i)) (part b (moment_pointer + 4 * i)))
      → Filling b n (set heads i h) (i + 1)
  fill-turns h more e = record {
    below = omega arith;
    small = g.small;
    filled =
        ap (λ (x : List MomentHead). set x i h) g.filled
        ∙ ap (λ (k : ℕ). set (map head_of (moments_at b moment_pointer i) ++ replicate k no_head) i h) one_left
        ∙ set_at (map head_of (moments_at b moment_pointer i)) no_head (replicate (most_moments - (i + 1)) no_head) h i
        (map-length (moments_at b moment_pointer i) ∙ moments_length b moment_pointer i)
        ∙ sym (append_assoc (map head_of (moments_at b moment_pointer i)) (h ∷ []) (replicate (most_moments - (i + 1)) no_head))
        ∙ ap (λ (x : List MomentHead). x ++ replicate (most_moments - (i + 1)) no_head) snoc;
  }
    where
      one_left : most_moments - i ≡ suc (most_moments - (i + 1))
      one_left = omega (arith, g.small)

      snoc : map head_of (moments_at b moment_pointer i) ++ (h ∷ []) ≡ map head_of (moments_at b moment_pointer (i + 1))
      snoc =
          ap (λ (m : MomentHead). map head_of (moments_at b moment_pointer i) ++ (m ∷ [])) e
          ∙ sym (map_snoc (moments_at b moment_pointer i) (moment_at (pointer b (moment_pointer + 4 * i)) (part b (moment_pointer + 4 * i))))
          ∙ ap (λ (x : List Moment). map head_of x) (sym (moments_snoc b moment_pointer i))
          ∙ ap (λ (k : ℕ). map head_of (moments_at b moment_pointer k)) (sym (add-one i))

  pub fill_ends : n ≤ i → heads ≡ heads_of (moments_at b moment_pointer n)
  fill_ends h =
      let e : i ≡ n = omega (arith, g.below) in
      g.filled
      ∙ ap (λ (k : ℕ). map head_of (moments_at b moment_pointer k) ++ replicate (most_moments - k) no_head) e
      ∙ ap (λ (k : ℕ). map head_of (moments_at b moment_pointer n) ++ replicate (most_moments - k) no_head) (sym
      (moments_length b moment_pointer n))

-- ---- all that is read of an accepted radial
-- a constant block's length is what it says, where that is no less than its head
pub span_is : (b : List ℕ) (q : ℕ) → BlockHeld b q → span_at b q ≡ span_of (block_at (pointer b q) (part b q))
span_is b q h =
    let l = part b q in
    let e : block_says l ≡ constant_head + length (nums 1 l constant_head (block_says l - constant_head)) = omega
    (arith, nums-length 1 l constant_head (block_says l - constant_head), h.says) in
    λ i. record { place = pointer b q; length = e i }

-- a pointer to a constant block stands in the body, and the block's head too
pub record Constant (b : List ℕ) (q : ℕ) : Type 0 where
  pub points : q + 4 ≤ length b
  pub held : BlockHeld b q

-- the three that an accepted radial has
pub constant_held : (b : List ℕ) (q : ℕ) → Held b → Member q constant_pointers → Constant b q
constant_held b q h =
    ⊎_elim (at volume_pointer (omega arith) h.volume)
    (⊎_elim (at elevation_pointer (omega arith) h.elevation) (⊎_elim (at radial_pointer (omega arith) h.radial) (λ e. absurd e)))
  where
    at : (k : ℕ) → k + 4 ≤ header_size → BlockHeld b k → q ≡ k → Constant b q
    at k l g e = subst (Constant b) (sym e) (record { points = omega (arith, l, h.start.long); held = g })

-- what the reader gives
module _ (b : List ℕ) (accepted : radial_of b ≡ given (description b)) where
  abbrev all : Held b
  all = held b (description b) accepted

  pub read : (h : Heading) (s₁ s₂ s₃ : Span) (hs : List MomentHead) → given h ≡ heading_shown (radial_of b) → s₁ ≡ span_at b volume_pointer
      → s₂ ≡ span_at b elevation_pointer → s₃ ≡ span_at b radial_pointer
      → hs ≡ heads_of (moments_at b moment_pointer (count_in b - constants))
      → given (record { count = h.count; header = h.header; volume = s₁; elevation = s₂; radial = s₃; moments = hs })
      ≡ shown (radial_of b)
  read h s₁ s₂ s₃ hs e e₁ e₂ e₃ f =
      let x : h ≡ heading_of (description b) = cc (e ∙ ap heading_shown accepted) in
      let v₁ = e₁ ∙ span_is b volume_pointer all.volume in
      let v₂ = e₂ ∙ span_is b elevation_pointer all.elevation in
      let v₃ = e₃ ∙ span_is b radial_pointer all.radial in
      (λ i. given (record { count = (x i).count; header = (x i).header; volume = v₁ i; elevation = v₂ i; radial = v₃ i; moments = f i }))
      ∙ ap shown (sym accepted)
