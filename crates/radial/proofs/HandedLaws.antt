-- The reader's result tells an acceptance from a refusal, and with the lent body is the description. Assumes nothing.
use Prim.Native.Nat.{ℕ, zero, suc, ◌+◌, ◌-◌}
use native.Mathlib.Omega.{arith}
use mathlib.Core.Path.{◌≡◌, refl, sym, ap, ◌∙◌}
use mathlib.Core.List.{List, ◌∷◌, map}
use lib.ListN.{length, take, drop, replicate}
use lib.Seq.{take_at}
use Rattle.std.specs.Prelude.{Ok, Err}
use Rattle.wire.specs.Numbers.{nums}
use Rattle.wire.specs.Answers.{given}
use Rattle.wire.specs.Refusals.{number}
use Rattle.wire.proofs.NumberLaws.{nums-length}
use Rattle.wire.proofs.OnwardLaws.{shows_given, shows_refused}
use Rattle.radial_spec.specs.Description.{constants, constant_head, Description, block_count, most_moments, moment_pointer, volume_pointer}
use Rattle.radial_spec.specs.Description.{elevation_pointer, radial_pointer}
use Rattle.radial_spec.specs.Refusal.{count_in, pointer, block_says, block_at, moment_at, moments_at, description, radial_of, Head, moment_by}
use Rattle.radial_spec.proofs.Accepted.{exactly, with_blocks}
use Rattle.radial_spec.proofs.Blocks.{head_is}
use Rattle.radial_spec.proofs.Held.{accepted_is}
use Rattle.radial_head.specs.declared.MomentHead.{MomentHead}
use Rattle.radial.specs.declared.Radial.{Radial}
use Rattle.radial.specs.Told.{head_of, span_of, no_head, heads_of, radial_told}
use Rattle.radial.specs.Theorems.{block_from, moment_from, described, Handed, HandedExactly}
use Rattle.radial.proofs.HeadLaws.{map-length}

-- ---- what is handed
block_from_lem : (b : List ℕ) (p : ℕ) → block_from b (span_of (block_at p (drop p b))) ≡ block_at p (drop p b)
block_from_lem b p =
    let n = block_says (drop p b) - constant_head in
    let e : constant_head + length (nums 1 (drop p b) constant_head n) - constant_head ≡ n =
    omega (arith, nums-length 1 (drop p b) constant_head n) in
    λ i. record { place = p; rest = nums 1 (drop p b) constant_head (e i) }

moment_from_lem : (b : List ℕ) (p : ℕ) → moment_from b (head_of (moment_at p (drop p b))) ≡ moment_at p (drop p b)
moment_from_lem b p = ap (λ (h : Head). moment_by p h (drop p b)) (head_is p (drop p b))

moments_from_heads : (b : List ℕ) (q n : ℕ) → map (moment_from b) (map head_of (moments_at b q n)) ≡ moments_at b q n
moments_from_heads b q zero = refl
moments_from_heads b q (suc n) = λ i. moment_from_lem b (pointer b q) i ∷ moments_from_heads b (q + 4) n i

-- the heads that count
pub heads-taken : (d : Description) → take (block_count d - constants) (heads_of d.moments) ≡ map head_of d.moments
heads-taken d =
    let e : block_count d - constants ≡ length d.moments = omega arith in
    ap (λ (n : ℕ). take n (heads_of d.moments)) e
    ∙ take_at (map head_of d.moments) (replicate (most_moments - length d.moments) no_head) (length d.moments)
    (map-length d.moments)

all_from : (b : List ℕ) → described (radial_told (description b)) b ≡ description b
all_from b =
    let ms = ap (λ (hs : List MomentHead). map (moment_from b) hs) (heads-taken (description b))
    ∙ moments_from_heads b moment_pointer (count_in b - constants) in
    let v = block_from_lem b (pointer b volume_pointer) in
    let e = block_from_lem b (pointer b elevation_pointer) in
    let r = block_from_lem b (pointer b radial_pointer) in
    λ i. with_blocks (description b) (v i) (e i) (r i) (ms i)

pub handed_is : Handed
handed_is b (Ok r) e =
    let s = shows_given (radial_of b) radial_told r e in
    let is = accepted_is b s.value s.was in
    ap (λ (x : Radial). given (described x b)) (s.is ∙ ap radial_told is)
    ∙ ap given (all_from b)
    ∙ sym (s.was ∙ ap given is)
handed_is b (Err r) e = sym (shows_refused (radial_of b) radial_told (number r) e)

pub handed_exactly : HandedExactly
handed_exactly b r d o e =
    let x = exactly b d o in
    ((λ h. x.0 (sym (handed_is b r e) ∙ h)), (λ h. handed_is b r e ∙ x.1 h))
