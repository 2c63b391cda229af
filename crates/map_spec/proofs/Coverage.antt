-- Exactly one zone of an azimuth in range covers a kilometre. Assumes nothing.
use Prim.Native.Nat.{ℕ, zero, suc, ◌≤◌, ◌<◌}
use native.Mathlib.Omega.{arith}
use mathlib.Core.Path.{◌≡◌, refl, sym, ap, ◌∙◌, subst}
use mathlib.Core.Bool.{Bool, true, false}
use mathlib.Core.List.{List, [], ◌∷◌}
use lib.Dec.{leb}
use lib.ListN.{length, get_or}
use borrow.Author.Tests.{leb-true, leb-false, le-leb, lt-leb}
use Rattle.wire.specs.Properties.{Each}
use Rattle.map_spec.specs.Map.{most_code, last_kilometre, Zone, ZoneInRange, AzimuthInRange, code_from, no_zone, start_of}
use Rattle.map_spec.specs.Theorems.{OneZone}
use Rattle.map_spec.proofs.ZoneLaws.{Rises, ends_rise}

-- ---- the same with the first zone's kilometres from `from` on
abbrev start_from : ℕ → List Zone → ℕ → ℕ
start_from from zs zero = from
start_from from zs (suc k) = suc (get_or zs k no_zone).end

start_suc : (from : ℕ) (z : Zone) (zs : List Zone) (k : ℕ) → start_from from (z ∷ zs) (suc k) ≡ start_from (suc z.end) zs k
start_suc from z zs zero = refl
start_suc from z zs (suc k) = refl

start_zero : (zs : List Zone) (k : ℕ) → start_of zs k ≡ start_from 0 zs k
start_zero zs zero = refl
start_zero zs (suc k) = refl

record CoversFrom (from : ℕ) (zs : List Zone) (k kilometre : ℕ) : Type 0 where
  listed : k < length zs
  after : start_from from zs k ≤ kilometre
  up_to : kilometre ≤ (get_or zs k no_zone).end

record OneFrom (from : ℕ) (zs : List Zone) (kilometre code : ℕ) : Type 0 where
  zone : ℕ
  covers : CoversFrom from zs zone kilometre
  only : (k : ℕ) → CoversFrom from zs k kilometre → k ≡ zone
  coded : (get_or zs zone no_zone).code ≡ code
  range : code ≤ most_code

-- each end is at least `from`
ends_above : (from : ℕ) (zs : List Zone) (k : ℕ) → Rises from zs → k < length zs → from ≤ (get_or zs k no_zone).end
ends_above from [] k r h = absurd (omega arith)
ends_above from (z ∷ zs) zero r h = r.0
ends_above from (z ∷ zs) (suc k) r h = omega (arith, r.0, ends_above (suc z.end) zs k r.1 (omega arith))

module _ (from : ℕ) (z : Zone) (zs : List Zone) (kilometre : ℕ) (r : Rises from (z ∷ zs)) (low : from ≤ kilometre) where
  -- the kilometre is within the first zone
  here : kilometre ≤ z.end → z.code ≤ most_code → OneFrom from (z ∷ zs) kilometre (code_from from (z ∷ zs) kilometre)
  unfolding code_from
  here h c =
      let e : code_from from (z ∷ zs) kilometre ≡ z.code = simp (le-leb from kilometre low, le-leb kilometre z.end h) in
      record { zone = 0; covers = record { listed = omega arith; after = low; up_to = h }; only = first; coded = sym e; range = rw e c }
    where
      first : (k : ℕ) → CoversFrom from (z ∷ zs) k kilometre → k ≡ 0
      first zero v = refl
      first (suc k) v =
          let l = v.listed in
          let a = v.after in
          let g = ends_above z.end (z ∷ zs) k (omega arith, r.1) (omega arith) in
          absurd (omega arith)

  -- it is past the first zone, and within one of those after it
  there : z.end < kilometre → OneFrom (suc z.end) zs kilometre (code_from (suc z.end) zs kilometre)
      → OneFrom from (z ∷ zs) kilometre (code_from from (z ∷ zs) kilometre)
  unfolding code_from
  there h o =
      let e : code_from from (z ∷ zs) kilometre ≡ code_from (suc z.end) zs kilometre
      = simp (le-leb from kilometre low, lt-leb kilometre z.end h) in
      let v = o.covers in
      record {
        zone = suc o.zone;
        covers = record { listed = omega (arith, v.listed); after = rw (start_suc from z zs o.zone) v.after; up_to = v.up_to };
        only = later;
        coded = o.coded ∙ sym e;
        range = rw e o.range;
      }
    where
      later : (k : ℕ) → CoversFrom from (z ∷ zs) k kilometre → k ≡ suc o.zone
      later zero v = absurd (omega (arith, v.up_to))
      later (suc k) v =
          ap suc
          (o.only k (record {
            listed = omega (arith, v.listed);
            after = subst (λ (s : ℕ). s ≤ kilometre) (start_suc from z zs k)
                v.after;
            up_to = v.up_to;
          }))

one_from : (from : ℕ) (zs : List Zone) (kilometre : ℕ) → Each ZoneInRange zs → Rises from zs → from ≤ kilometre
    → kilometre ≤ last_kilometre → OneFrom from zs kilometre (code_from from zs kilometre)
one_from from [] kilometre g r low high = absurd (omega (arith, r))
one_from from (z ∷ zs) kilometre g r low high =
    go (leb kilometre z.end) refl (λ h. one_from (suc z.end) zs kilometre g.1 r.1 h high)
  where
    go : (t : Bool) → leb kilometre z.end ≡ t
        → (suc z.end ≤ kilometre → OneFrom (suc z.end) zs kilometre (code_from (suc z.end) zs kilometre))
        → OneFrom from (z ∷ zs) kilometre (code_from from (z ∷ zs) kilometre)
    go true e i = here from z zs kilometre r low (leb-true kilometre z.end e) g.0.code
    go false e i = let h = leb-false kilometre z.end e in there from z zs kilometre r low h (i h)

pub one-zone : (zs : List Zone) (kilometre : ℕ) → AzimuthInRange zs → kilometre ≤ last_kilometre
    → OneZone zs kilometre (code_from 0 zs kilometre)
one-zone [] kilometre a h = absurd (omega (arith, a.some))
one-zone (z ∷ zs) kilometre a h =
    let o = one_from 0 (z ∷ zs) kilometre a.zones (ends_rise 0 z zs (omega arith) a.rise) (omega arith) h in
    let v = o.covers in
    record {
      zone = o.zone;
      covers = record { listed = v.listed; after = rw (start_zero (z ∷ zs) o.zone) v.after; up_to = v.up_to };
      only = λ k w. o.only k (record {
        listed = w.listed;
        after = subst (λ (s : ℕ). s ≤ kilometre) (start_zero (z ∷ zs) k)
            w.after;
        up_to = w.up_to;
      });
      coded = o.coded;
      range = o.range;
    }
