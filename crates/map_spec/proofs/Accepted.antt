-- A body that no check refuses: it is long enough, what is read of it is in range, and its bytes are those that the map renders to. Assumes
-- nothing.
use Prim.Native.Nat.{ℕ, zero, suc, ◌+◌, ◌*◌, ◌≤◌, ◌<◌}
use native.Mathlib.Omega.{arith}
use mathlib.Core.Path.{◌≡◌, refl, sym, ap, ◌∙◌}
use mathlib.Core.List.{List, ◌++◌, append-nil}
use lib.ListN.{length, drop, length-drop, drop_of_length-le}
use lib.Seq.{drop-drop}
use Rattle.form_spec.specs.Parts.{run_size, run_in, fields_of}
use Rattle.wire.specs.Properties.{Each}
use Rattle.wire.specs.Numbers.{num, be, Octets}
use Rattle.wire.specs.Checks.{AllHold}
use Rattle.wire.specs.Tables.{render}
use Rattle.wire.proofs.NumberLaws.{num-fits, octets_drop}
use Rattle.map_spec.specs.Map.{azimuths, zone_fields, azimuth_fields, elevation_fields, map_bytes, ZoneInRange, AzimuthInRange, ElevationInRange, InRange}
use Rattle.map_spec.specs.Reading.{value, after, zones_checks, zones_in, azimuth_part, elevation_part, date_in, minutes_in, segments_in, map_checks, map_in}
use Rattle.map_spec.proofs.FieldLaws.{field_back}
use Rattle.map_spec.proofs.CheckFacts.{zone_facts, azimuth_facts, map_facts}
use Rattle.form_spec.proofs.PartLaws.{run-count, run-range, run_back}
use Rattle.map_spec.proofs.ZoneLaws.{Rises, rises_ends}

-- ---- zones
pub zones-long : (n from : ℕ) (b : List ℕ) → AllHold (zones_checks n from b) → 4 * n ≤ length b
zones-long zero from b p = omega arith
zones-long (suc n) from b p =
    let f = zone_facts n from b p in
    let q : 4 * n ≤ length (after (after b)) = zones-long n (suc (value (after b))) (after (after b)) f.rest in
    let k = simp length-drop at q in
    omega (arith, f.here)

pub zones-count : (n : ℕ) (b : List ℕ) → length (zones_in n b) ≡ n
unfolding zones_in
zones-count zero b = refl
zones-count (suc n) b = ap suc (zones-count n (after (after b)))

zones_range : (n from : ℕ) (b : List ℕ) → AllHold (zones_checks n from b) → Each ZoneInRange (zones_in n b)
unfolding zones_in
zones_range zero from b p = tt
zones_range (suc n) from b p =
    let f = zone_facts n from b p in
    (record { code = f.code; end = f.end.high }, zones_range n (suc (value (after b))) (after (after b)) f.rest)

pub zones_rise : (n from : ℕ) (b : List ℕ) → 1 ≤ n → AllHold (zones_checks n from b) → Rises from (zones_in n b)
unfolding zones_in
zones_rise zero from b h p = absurd (omega arith)
zones_rise (suc zero) from b h p = let f = zone_facts 0 from b p in (f.end.low, ap suc (f.end.last refl))
zones_rise (suc (suc n)) from b h p =
    let f = zone_facts (suc n) from b p in
    (f.end.low, zones_rise (suc n) (suc (value (after b))) (after (after b)) (omega arith) f.rest)

two_fields : (n : ℕ) (b : List ℕ) → drop (4 * suc n) b ≡ drop (4 * n) (after (after b))
two_fields n b =
    let e : 4 * suc n ≡ 2 + (2 + 4 * n) = omega arith in
    ap (λ (k : ℕ). drop k b) e ∙ sym (drop-drop (2 + 4 * n) 2 b) ∙ sym (drop-drop (4 * n) 2 (drop 2 b))

zones_back : (n from : ℕ) (b : List ℕ) → Octets b → AllHold (zones_checks n from b)
    → render (fields_of zone_fields (zones_in n b)) ++ drop (4 * n) b ≡ b
unfolding zones_in
zones_back zero from b o p = refl
zones_back (suc n) from b o p =
    let f = zone_facts n from b p in
    let o' = octets_drop 2 b o in
    let l : 2 ≤ length (after b) = rw length-drop (omega (arith, f.here)) in
    let r = render (fields_of zone_fields (zones_in n (after (after b)))) in
    let i : r ++ drop (4 * n) (after (after b)) ≡ after (after b)
    = zones_back n (suc (value (after b))) (after (after b)) (octets_drop 2 (after b) o') f.rest in
    let e : r ++ drop (4 * suc n) b ≡ after (after b) = ap (λ (x : List ℕ). r ++ x) (two_fields n b) ∙ i in
    ap (λ (x : List ℕ). be 2 (value b) ++ (be 2 (value (after b)) ++ x)) e
    ∙ ap (λ (x : List ℕ). be 2 (value b) ++ x) (field_back (after b) o' l)
    ∙ field_back b o (omega (arith, f.here))

-- ---- an azimuth
pub azimuth_long : (b : List ℕ) → AllHold (azimuth_part.checks b) → azimuth_part.size b ≤ length b
azimuth_long b p =
    let f = azimuth_facts b p in
    let q : 4 * value b ≤ length (after b) = zones-long (value b) 0 (after b) f.zones in
    let k = simp length-drop at q in
    omega (arith, f.here)

pub azimuth_range : (b : List ℕ) → AllHold (azimuth_part.checks b) → AzimuthInRange (azimuth_part.read b)
azimuth_range b p =
    let f = azimuth_facts b p in
    let n = zones-count (value b) (after b) in
    record {
      some = omega (arith, f.some);
      most = omega (arith, f.most);
      zones = zones_range (value b) 0 (after b) f.zones;
      rise = rises_ends 0 (zones_in (value b) (after b)) (zones_rise (value b) 0 (after b) f.some f.zones);
    }

azimuth_back : (b : List ℕ) → Octets b → AllHold (azimuth_part.checks b) → render (azimuth_fields (azimuth_part.read b)) ++ drop
    (azimuth_part.size b) b ≡ b
azimuth_back b o p =
    let f = azimuth_facts b p in
    let r = render (fields_of zone_fields (zones_in (value b) (after b))) in
    let t = drop (2 + 4 * value b) b in
    let d : r ++ t ≡ after b
    = ap (λ (x : List ℕ). r ++ x) (sym (drop-drop (4 * value b) 2 b)) ∙ zones_back (value b) 0 (after b) (octets_drop 2 b o) f.zones in
    ap (λ (n : ℕ). be 2 n ++ (r ++ t)) (zones-count (value b) (after b)) ∙ ap (λ (x : List ℕ). be 2 (value b) ++ x) d
    ∙ field_back b o f.here

-- ---- an elevation segment
elevation_range : (b : List ℕ) → AllHold (elevation_part.checks b) → ElevationInRange (elevation_part.read b)
elevation_range b p = record {
  all = run-count azimuth_part azimuths b;
  each = run-range azimuth_part AzimuthInRange azimuth_range
      azimuths b p;
}

elevation_back : (b : List ℕ) → Octets b → AllHold (elevation_part.checks b)
    → render (elevation_fields (elevation_part.read b)) ++ drop (elevation_part.size b) b ≡ b
elevation_back b o p = run_back azimuth_part azimuth_fields azimuth_back azimuths b o p

-- ---- the body
pub accepted_range : (b : List ℕ) → Octets b → AllHold (map_checks b) → InRange (map_in b)
accepted_range b o p =
    let f = map_facts b p in
    let n = run-count elevation_part (segments_in b) (drop 6 b) in
    let v : num 2 b 0 < 65536 = num-fits 2 b 0 o in
    record {
      date = f.date;
      halfword = omega arith;
      minutes = f.minutes;
      some = omega (arith, f.some);
      most = omega (arith, f.most);
      each = run-range elevation_part ElevationInRange elevation_range (segments_in b) (drop 6 b) f.elevations;
    }

pub accepted-bytes : (b : List ℕ) → Octets b → AllHold (map_checks b) → b ≡ map_bytes (map_in b)
accepted-bytes b o p =
    let f = map_facts b p in
    let n = segments_in b in
    let c = drop 6 b in
    let y = render (fields_of elevation_fields (run_in elevation_part n c)) in
    let l : length c ≤ run_size elevation_part n c = rw length-drop (omega (arith, f.whole)) in
    let l₂ : 2 ≤ length (drop 2 b) = rw length-drop (omega (arith, f.here)) in
    let l₄ : 2 ≤ length (drop 4 b) = rw length-drop (omega (arith, f.here)) in
    let i : c ≡ y =
    sym (run_back elevation_part elevation_fields elevation_back n c (octets_drop 6 b o) f.elevations)
    ∙ ap (λ (x : List ℕ). y ++ x) (drop_of_length-le c l) ∙ append-nil y in
    let e₄ : drop 4 b ≡ be 2 n ++ y =
    sym (field_back (drop 4 b) (octets_drop 4 b o) l₄) ∙ ap (λ (x : List ℕ). be 2 n ++ x) (drop-drop 2 4 b ∙ i) in
    let e₂ : drop 2 b ≡ be 2 (minutes_in b) ++ (be 2 n ++ y) =
    sym (field_back (drop 2 b) (octets_drop 2 b o) l₂) ∙ ap (λ (x : List ℕ). be 2 (minutes_in b) ++ x) (drop-drop 2 2 b ∙ e₄) in
    sym (field_back b o (omega (arith, f.here)))
    ∙ ap (λ (x : List ℕ). be 2 (date_in b) ++ x) e₂
    ∙ ap (λ (k : ℕ). be 2 (date_in b) ++ (be 2 (minutes_in b) ++ (be 2 k ++ y))) (sym (run-count elevation_part n c))
