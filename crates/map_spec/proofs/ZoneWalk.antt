-- A zone by its place in an azimuth and by the number of its four bytes, and a walk from zone to zone that has come to the one that covers
-- a kilometre. Assumes nothing.
use Prim.Native.Nat.{ℕ, zero, suc, ◌+◌, ◌*◌, ◌-◌, ◌/◌, ◌%◌, ◌≤◌, ◌<◌}
use native.Mathlib.Nat.{add-zero}
use native.Mathlib.Omega.{arith}
use mathlib.Core.Path.{◌≡◌, refl, sym, ap, ◌∙◌, subst}
use mathlib.Core.List.{List, [], ◌∷◌}
use lib.ListN.{length, get_or, take, drop}
use borrow.Author.Tests.{le-leb, lt-leb}
use Rattle.wire.specs.Numbers.{num, fetched, Octets}
use Rattle.wire.specs.Checks.{AllHold}
use Rattle.wire.proofs.NumberLaws.{cut_is, num-two, num-four, num-drop, num-fits}
use Rattle.map_spec.specs.Map.{last_kilometre, most_azimuth_size, halfword_numbers, field_size, zone_size, Zone, code_from}
use Rattle.map_spec.specs.Reading.{value, after, zones_in, azimuth_part}
use Rattle.map_spec.specs.Places.{zone_at}
use Rattle.map_spec.proofs.PartLaws.{after-drop, next_rest}
use Rattle.map_spec.proofs.ZoneLaws.{Rises, rises_most}
use Rattle.map_spec.proofs.CheckFacts.{azimuth_facts}
use Rattle.map_spec.proofs.Accepted.{zones_rise, azimuth_long}

-- ---- a zone and those after it
value-at : (b : List ℕ) (at : ℕ) → value (drop at b) ≡ num field_size b at
value-at b at = num-drop field_size b at 0 ∙ ap (λ (k : ℕ). num field_size b k) (add-zero at)

zones_more : (l at : ℕ) (b : List ℕ) → zones_in (suc l) (drop at b) ≡ zone_at b at ∷ zones_in l (drop (at + zone_size) b)
unfolding zones_in zone_at
zones_more l at b =
    let e = ap value (after-drop b at) ∙ value-at b (at + field_size) in
    λ i. record { code = value-at b at i; end = e i } ∷ zones_in l (next_rest b at i)

-- ---- by the number of its four bytes
-- as it is fetched from a part of them alone
pub four-fetched : (b : List ℕ) (at r : ℕ) → at + zone_size ≤ length b → r ≡ fetched zone_size (take (at + zone_size - at) (drop at b)) 0
    → r ≡ num zone_size b at
four-fetched b at r there e =
    cut_is zone_size (at + zone_size - at) b at 0 r (omega arith) (omega arith) e ∙ ap (λ (k : ℕ). num zone_size b k) (add-zero at)

by_halves : (b : List ℕ) (at : ℕ) → num zone_size b at ≡ num field_size b at * halfword_numbers + num field_size b (at + field_size)
by_halves b at =
    let e : at + 2 + 1 ≡ at + 3 = omega arith in
    omega (arith, num-four b at, num-two b at, num-two b (at + 2), ap (λ (k : ℕ). get_or b k 0) e)

module _ (b : List ℕ) (octets : Octets b) (at zone : ℕ) (is : zone ≡ num zone_size b at) where
  end_fits : num field_size b (at + field_size) < halfword_numbers
  end_fits = num-fits field_size b (at + field_size) octets

  pub code_half : zone / halfword_numbers ≡ (zone_at b at).code
  unfolding zone_at
  code_half = omega (arith, is, by_halves b at, end_fits)

  pub end_half : zone % halfword_numbers ≡ (zone_at b at).end
  unfolding zone_at
  end_half = omega (arith, is, by_halves b at, end_fits)

-- ---- codes from a kilometre on, whichever the first zone begins at
code_late : (from later : ℕ) (zs : List Zone) (k : ℕ) → from ≤ k → later ≤ k → code_from later zs k ≡ code_from from zs k
unfolding code_from
code_late from later [] k h l = refl
code_late from later (z ∷ zs) k h l = simp (le-leb from k h, le-leb later k l)

code_inside : (from : ℕ) (z : Zone) (zs : List Zone) (k : ℕ) → from ≤ k → k ≤ z.end → code_from from (z ∷ zs) k ≡ z.code
unfolding code_from
code_inside from z zs k h u = simp (le-leb from k h, le-leb k z.end u)

code-past : (from : ℕ) (z : Zone) (zs : List Zone) (k : ℕ) → from ≤ k → z.end < k → code_from from (z ∷ zs) k ≡ code_from (suc z.end) zs k
unfolding code_from
code-past from z zs k h u = simp (le-leb from k h, lt-leb k z.end u)

-- ---- at the zone that stands at a place of a checked azimuth: so many are left, and answer as the whole from a kilometre on
pub record Facing (b : List ℕ) (at from left : ℕ) : Type 0 where
  pub sized : at + zone_size * left ≡ azimuth_part.size b
  pub rises : Rises from (zones_in left (drop at b))
  pub same : (k : ℕ) → from ≤ k → code_from from (zones_in left (drop at b)) k ≡ code_from 0 (azimuth_part.read b) k

module _ (b : List ℕ) (checked : AllHold (azimuth_part.checks b)) where
  pub facing_first : Facing b field_size 0 (value b)
  facing_first =
      let f = azimuth_facts b checked in
      record { sized = refl; rises = zones_rise (value b) 0 (after b) f.some f.zones; same = λ k h. refl }

  module _ (at from left : ℕ) (here : Facing b at from left) where
    pub facing-place : at ≤ most_azimuth_size
    facing-place = omega (arith, here.sized, (azimuth_facts b checked).most)

    -- while a kilometre is left, a zone is left
    pub facing-some : from ≤ last_kilometre → 0 < left
    unfolding zones_in
    facing-some near = go left here.rises
      where
        go : (n : ℕ) → Rises from (zones_in n (drop at b)) → 0 < n
        go zero r = absurd (omega (arith, r))
        go (suc n) r = omega arith

    module _ (near : from ≤ last_kilometre) where
      some : 0 < left
      some = facing-some near

      zones-left : zones_in left (drop at b) ≡ zone_at b at ∷ zones_in (left - 1) (drop (at + zone_size) b)
      zones-left =
          let e : left ≡ suc (left - 1) = omega (arith, some) in
          ap (λ (n : ℕ). zones_in n (drop at b)) e ∙ zones_more (left - 1) at b

      pub facing-there : at + zone_size ≤ length b
      facing-there = omega (arith, here.sized, azimuth_long b checked, some)

      rises-here : Rises from (zone_at b at ∷ zones_in (left - 1) (drop (at + zone_size) b))
      rises-here = subst (λ (zs : List Zone). Rises from zs) zones-left here.rises

      same_here : (k : ℕ) → from ≤ k
          → code_from from (zone_at b at ∷ zones_in (left - 1) (drop (at + zone_size) b)) k ≡ code_from 0 (azimuth_part.read b) k
      same_here k h = ap (λ (zs : List Zone). code_from from zs k) (sym zones-left) ∙ here.same k h

      pub facing-low : from ≤ (zone_at b at).end
      facing-low = rises-here.0

      pub facing-high : (zone_at b at).end ≤ last_kilometre
      facing-high = omega (arith, rises_most (suc (zone_at b at).end) (zones_in (left - 1) (drop (at + zone_size) b)) rises-here.1)

      -- its kilometres have its code
      pub facing-code : (k : ℕ) → from ≤ k → k ≤ (zone_at b at).end → code_from 0 (azimuth_part.read b) k ≡ (zone_at b at).code
      facing-code k h u = sym (same_here k h) ∙ code_inside from (zone_at b at) (zones_in (left - 1) (drop (at + zone_size) b)) k h u

      -- at a kilometre of it the walk is still there, after its last it has come to the next one
      pub facing-stays : (later : ℕ) → from ≤ later → later ≤ (zone_at b at).end → Facing b at later left
      facing-stays later h u =
          let zs = zone_at b at ∷ zones_in (left - 1) (drop (at + zone_size) b) in
          record {
            sized = here.sized;
            rises = subst (λ (ys : List Zone). Rises later ys) (sym zones-left) (u, rises-here.1);
            same = λ k g.
                ap (λ (ys : List Zone). code_from later ys k) zones-left ∙ code_late from later zs k (omega arith) g
                ∙ same_here k (omega arith);
          }

      pub facing-next : Facing b (at + zone_size) (suc (zone_at b at).end) (left - 1)
      facing-next =
          let ys = zones_in (left - 1) (drop (at + zone_size) b) in
          record {
            sized = omega (arith, here.sized, some);
            rises = rises-here.1;
            same = λ k g.
                sym (code-past from (zone_at b at) ys k (omega (arith, rises-here.0)) (omega arith))
                ∙ same_here k (omega (arith, rises-here.0));
          }
