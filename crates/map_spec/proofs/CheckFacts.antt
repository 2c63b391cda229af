-- The checks of a zone, an azimuth and a body as plain facts, both ways. Assumes nothing.
use Prim.Native.Nat.{ℕ, suc, ◌+◌, ◌≤◌}
use native.Mathlib.Omega.{arith}
use mathlib.Core.Path.{◌≡◌, refl}
use mathlib.Core.Bool.{Bool, true, false, not}
use mathlib.Core.List.{List}
use lib.Dec.{ltb, eqb}
use lib.ListN.{length, drop, length-drop}
use borrow.Author.Tests.{ltb-false, le-ltb, eq-eqb, eqb-true, not-false}
use Rattle.form_spec.specs.Parts.{run_size, run_checks}
use Rattle.wire.specs.Checks.{both, AllHold}
use Rattle.wire.proofs.CheckLaws.{all_hold_append, all_hold_join, neither}
use Rattle.map_spec.specs.Map.{most_minutes, most_elevations, most_zones, most_code, last_kilometre}
use Rattle.map_spec.specs.Reading.{value, after, end_broken, zones_checks, azimuth_part, elevation_part, date_in, minutes_in, segments_in, leftover_checks, map_checks}
use Rattle.map_spec.proofs.FieldLaws.{both_rest}

-- ---- the end field
pub record EndFacts (left from end : ℕ) : Type 0 where
  pub high : end ≤ last_kilometre
  pub low : from ≤ end
  pub last : left ≡ 0 → end ≡ last_kilometre

pub end_facts : (left from end : ℕ) → end_broken left from end ≡ false → EndFacts left from end
end_facts left from end e =
    let p = neither _ _ e in
    let q = neither _ _ p.1 in
    record {
      high = ltb-false last_kilometre end p.0;
      low = ltb-false end from q.0;
      last =
          λ z. eqb-true end last_kilometre
          (not-false (eqb end last_kilometre) (both_rest _ _ (eq-eqb left 0 z) q.1));
    }

pub end_holds : (left from end : ℕ) → EndFacts left from end → end_broken left from end ≡ false
end_holds left from end f = simp (le-ltb last_kilometre end f.high, le-ltb end from f.low) (go (eqb left 0) refl)
  where
    go : (t : Bool) → eqb left 0 ≡ t → both t (not (eqb end last_kilometre)) ≡ false
    go true p = simp (eq-eqb end last_kilometre (f.last (eqb-true left 0 p)))
    go false p = refl

-- ---- a zone, and those after it
pub record ZoneFacts (left from : ℕ) (b : List ℕ) : Type 0 where
  pub here : 4 ≤ length b
  pub code : value b ≤ most_code
  pub end : EndFacts left from (value (after b))
  pub rest : AllHold (zones_checks left (suc (value (after b))) (after (after b)))

pub zone_facts : (left from : ℕ) (b : List ℕ) → AllHold (zones_checks (suc left) from b) → ZoneFacts left from b
unfolding zones_checks
zone_facts left from b p =
    let l : 2 ≤ length (drop 2 b) = ltb-false (length (drop 2 b)) 2 p.1.1.0 in
    let l' : 2 ≤ length b = ltb-false (length b) 2 p.0 in
    let k = simp length-drop at l in
    record {
      here = omega arith;
      code = ltb-false most_code (value b) p.1.0;
      end = end_facts left from (value (after b)) p.1.1.1.0;
      rest = p.1.1.1.1;
    }

pub zone_holds : (left from : ℕ) (b : List ℕ) → ZoneFacts left from b → AllHold (zones_checks (suc left) from b)
unfolding zones_checks
zone_holds left from b f =
    let l : 2 ≤ length (drop 2 b) = rw length-drop (omega (arith, f.here)) in (
      le-ltb (length b) 2 (omega (arith, f.here)),
      (le-ltb most_code (value b) f.code, (le-ltb (length (drop 2 b)) 2 l, (end_holds left from (value (after b)) f.end, f.rest))),
    )

-- ---- an azimuth
pub record AzimuthFacts (b : List ℕ) : Type 0 where
  pub here : 2 ≤ length b
  pub some : 1 ≤ value b
  pub most : value b ≤ most_zones
  pub zones : AllHold (zones_checks (value b) 0 (after b))

pub azimuth_facts : (b : List ℕ) → AllHold (azimuth_part.checks b) → AzimuthFacts b
azimuth_facts b p =
    let q = neither (ltb (value b) 1) (ltb most_zones (value b)) p.1.0 in
    record {
      here = ltb-false (length b) 2 p.0;
      some = ltb-false (value b) 1 q.0;
      most = ltb-false most_zones (value b) q.1;
      zones = p.1.1;
    }

pub azimuth_holds : (b : List ℕ) → AzimuthFacts b → AllHold (azimuth_part.checks b)
azimuth_holds b f = (le-ltb (length b) 2 f.here, (simp (le-ltb (value b) 1 f.some, le-ltb most_zones (value b) f.most), f.zones))

-- ---- a body
pub record MapFacts (b : List ℕ) : Type 0 where
  pub here : 6 ≤ length b
  pub date : 1 ≤ date_in b
  pub minutes : minutes_in b ≤ most_minutes
  pub some : 1 ≤ segments_in b
  pub most : segments_in b ≤ most_elevations
  pub elevations : AllHold (run_checks elevation_part (segments_in b) (drop 6 b))
  pub whole : length b ≤ 6 + run_size elevation_part (segments_in b) (drop 6 b)

pub map_facts : (b : List ℕ) → AllHold (map_checks b) → MapFacts b
map_facts b p =
    let q = neither (ltb (segments_in b) 1) (ltb most_elevations (segments_in b)) p.1.1.1.1.1.0 in
    let r = all_hold_append (run_checks elevation_part (segments_in b) (drop 6 b)) (leftover_checks b) p.1.1.1.1.1.1 in
    let l : 2 ≤ length (drop 4 b) = ltb-false (length (drop 4 b)) 2 p.1.1.1.1.0 in
    let k = simp length-drop at l in
    record {
      here = omega arith;
      date = ltb-false (date_in b) 1 p.1.0;
      minutes = ltb-false most_minutes (minutes_in b) p.1.1.1.0;
      some = ltb-false (segments_in b) 1 q.0;
      most = ltb-false most_elevations (segments_in b) q.1;
      elevations = r.0;
      whole = ltb-false _ _ r.1.0;
    }

pub map_holds : (b : List ℕ) → MapFacts b → AllHold (map_checks b)
map_holds b f =
    let l : 2 ≤ length (drop 2 b) = rw length-drop (omega (arith, f.here)) in
    let k : 2 ≤ length (drop 4 b) = rw length-drop (omega (arith, f.here)) in (
      le-ltb (length b) 2 (omega (arith, f.here)),
      (
        le-ltb (date_in b) 1 f.date,
        (
          le-ltb (length (drop 2 b)) 2 l,
          (
            le-ltb most_minutes (minutes_in b) f.minutes,
            (
              le-ltb (length (drop 4 b)) 2 k,
              (
                simp (le-ltb (segments_in b) 1 f.some, le-ltb most_elevations (segments_in b) f.most),
                all_hold_join (run_checks elevation_part (segments_in b) (drop 6 b)) (leftover_checks b) f.elevations
                    (le-ltb (6 + run_size elevation_part (segments_in b) (drop 6 b)) (length b) f.whole, tt),
              ),
            ),
          ),
        ),
      ),
    )
