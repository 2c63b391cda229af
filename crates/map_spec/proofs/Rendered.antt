-- The bytes of a map in range: no check refuses them, and the map that stands in them is that map. Assumes nothing.
use Prim.Native.Nat.{ℕ, suc, ◌+◌, ◌*◌, ◌-◌, ◌≤◌}
use native.Mathlib.Omega.{arith}
use mathlib.Core.Path.{◌≡◌, refl, sym, ap, ◌∙◌, subst}
use mathlib.Core.List.{List, [], ◌∷◌, ◌++◌, append-nil}
use lib.ListN.{length, drop, length-drop}
use lib.Seq.{drop-drop}
use Rattle.form_spec.specs.Parts.{run_size, run_checks, run_in, fields_of}
use Rattle.wire.specs.Properties.{Each}
use Rattle.wire.specs.Numbers.{be}
use Rattle.wire.specs.Checks.{AllHold}
use Rattle.wire.specs.Tables.{render}
use Rattle.map_spec.specs.Map.{last_kilometre, Zone, FilterMap, zone_fields, azimuth_fields, elevation_fields, map_bytes, ZoneInRange, AzimuthInRange, ElevationInRange, InRange, EndsRise}
use Rattle.map_spec.specs.Reading.{value, after, zones_checks, zones_in, azimuth_part, elevation_part, date_in, minutes_in, segments_in, map_checks, map_in}
use Rattle.map_spec.proofs.FieldLaws.{value_of}
use Rattle.form_spec.proofs.PartLaws.{PartOf, RunOf, run_of}
use Rattle.map_spec.proofs.CheckFacts.{EndFacts, zone_holds, azimuth_holds, map_holds}
use Rattle.map_spec.proofs.ZoneLaws.{Rises, ends_rise}

-- ---- zones
zones-length : (zs : List Zone) (t : List ℕ) → length (render (fields_of zone_fields zs) ++ t) ≡ 4 * length zs + length t
zones-length [] t = omega arith
zones-length (z ∷ zs) t = omega (arith, zones-length zs t)

zones_rest : (zs : List Zone) (t : List ℕ) → drop (4 * length zs) (render (fields_of zone_fields zs) ++ t) ≡ t
zones_rest [] t = refl
zones_rest (z ∷ zs) t =
    let b = be 2 z.code ++ (be 2 z.end ++ (render (fields_of zone_fields zs) ++ t)) in
    let e : 4 * suc (length zs) ≡ 4 + 4 * length zs = omega arith in
    ap (λ (k : ℕ). drop k b) e ∙ sym (drop-drop (4 * length zs) 4 b) ∙ zones_rest zs t

zones-read : (zs : List Zone) (t : List ℕ) → Each ZoneInRange zs → zones_in (length zs) (render (fields_of zone_fields zs) ++ t) ≡ zs
unfolding zones_in
zones-read [] t r = refl
zones-read (z ∷ zs) t r =
    let c = value_of z.code (be 2 z.end ++ (render (fields_of zone_fields zs) ++ t)) (omega (arith, r.0.code)) in
    let e = value_of z.end (render (fields_of zone_fields zs) ++ t) (omega (arith, r.0.end)) in
    let i = zones-read zs t r.1 in
    λ k. record { code = c k; end = e k } ∷ i k

last_is : (z : Zone) (zs : List Zone) → Rises (suc z.end) zs → length zs ≡ 0 → z.end ≡ last_kilometre
last_is z [] r e = omega (arith, r)
last_is z (y ∷ zs) r e = absurd (omega arith)

no_zone : (from : ℕ) (t : List ℕ) → AllHold (zones_checks 0 from t)
unfolding zones_checks
no_zone from t = tt

zones-pass : (zs : List Zone) (from : ℕ) (t : List ℕ) → Each ZoneInRange zs → Rises from zs
    → AllHold (zones_checks (length zs) from (render (fields_of zone_fields zs) ++ t))
zones-pass [] from t r s = no_zone from t
zones-pass (z ∷ zs) from t r s =
    let b = be 2 z.code ++ (be 2 z.end ++ (render (fields_of zone_fields zs) ++ t)) in
    let c : value b ≡ z.code = value_of z.code (be 2 z.end ++ (render (fields_of zone_fields zs) ++ t)) (omega (arith, r.0.code)) in
    let e : value (after b) ≡ z.end = value_of z.end (render (fields_of zone_fields zs) ++ t) (omega (arith, r.0.end)) in
    let i = zones-pass zs (suc z.end) t r.1 s.1 in
    let f : EndFacts (length zs) from z.end = record { high = r.0.end; low = s.0; last = last_is z zs s.1 } in
    zone_holds (length zs) from b
    (record {
      here = omega (arith, zones-length zs t);
      code = omega (arith, r.0.code);
      end = subst (λ (k : ℕ). EndFacts (length zs) from k) (sym e) f;
      rest = subst (λ (k : ℕ). AllHold (zones_checks (length zs) (suc k) (after (after b)))) (sym e) i;
    })

-- ---- an azimuth
rises : (a : List Zone) → 1 ≤ length a → EndsRise a → Rises 0 a
rises [] h e = absurd (omega arith)
rises (z ∷ zs) h e = ends_rise 0 z zs (omega arith) e

azimuth_of : (a : List Zone) (t : List ℕ) → AzimuthInRange a → PartOf azimuth_part a (render (azimuth_fields a) ++ t) t
azimuth_of a t r =
    let d = be 2 (length a) ++ (render (fields_of zone_fields a) ++ t) in
    let v : value d ≡ length a = value_of (length a) (render (fields_of zone_fields a) ++ t) (omega (arith, r.most)) in
    record {
      pass =
          azimuth_holds d
          (record {
            here = omega (arith, zones-length a t);
            some = omega (arith, r.some);
            most = omega (arith, r.most);
            zones = subst (λ (k : ℕ). AllHold (zones_checks k 0 (after d))) (sym v)
                (zones-pass a 0 t r.zones (rises a r.some r.rise));
          });
      rest = ap (λ (k : ℕ). drop (2 + 4 * k) d) v ∙ sym (drop-drop (4 * length a) 2 d) ∙ zones_rest a t;
      read = ap (λ (k : ℕ). zones_in k (after d)) v ∙ zones-read a t r.zones;
    }

-- ---- an elevation segment: its azimuths are 360
elevation_of : (e : List (List Zone)) (t : List ℕ) → ElevationInRange e → PartOf elevation_part e (render (elevation_fields e) ++ t) t
elevation_of e t r =
    let b = render (elevation_fields e) ++ t in
    let o = run_of azimuth_part azimuth_fields AzimuthInRange azimuth_of e t r.each in
    record {
      pass = subst (λ (k : ℕ). AllHold (run_checks azimuth_part k b)) r.all o.pass;
      rest = ap (λ (k : ℕ). drop (run_size azimuth_part k b) b) (sym r.all) ∙ o.rest;
      read = ap (λ (k : ℕ). run_in azimuth_part k b) (sym r.all) ∙ o.read;
    }

-- ---- the body
module _ (m : FilterMap) (r : InRange m) where
  date_is : date_in (map_bytes m) ≡ m.date
  date_is = value_of m.date (be 2 m.minutes ++ (be 2 (length m.elevations) ++ render
      (fields_of elevation_fields m.elevations))) r.halfword

  minutes_is : minutes_in (map_bytes m) ≡ m.minutes
  minutes_is = value_of m.minutes (be 2 (length m.elevations) ++ render (fields_of elevation_fields m.elevations))
      (omega (arith, r.minutes))

  pub segments_is : segments_in (map_bytes m) ≡ length m.elevations
  segments_is = value_of (length m.elevations) (render (fields_of elevation_fields m.elevations)) (omega (arith, r.most))

  elevations_are : RunOf elevation_part m.elevations (render (fields_of elevation_fields m.elevations)) []
  elevations_are =
      subst (λ (b : List ℕ). RunOf elevation_part m.elevations b [])
      (append-nil (render (fields_of elevation_fields m.elevations))) (run_of elevation_part elevation_fields ElevationInRange
      elevation_of m.elevations [] r.each)

  pub rendered_pass : AllHold (map_checks (map_bytes m))
  rendered_pass =
      let c = render (fields_of elevation_fields m.elevations) in
      let n = length m.elevations in
      let z : length c - run_size elevation_part n c ≡ 0 = sym (length-drop (run_size elevation_part n c) c)
      ∙ ap (λ (l : List ℕ). length l) elevations_are.rest in
      let w : length (map_bytes m) ≤ 6 + run_size elevation_part n c = omega arith in
      map_holds (map_bytes m)
      (record {
        here = omega arith;
        date = omega (arith, r.date, date_is);
        minutes = omega (arith, r.minutes, minutes_is);
        some = omega (arith, r.some, segments_is);
        most = omega (arith, r.most, segments_is);
        elevations = subst (λ (k : ℕ). AllHold (run_checks elevation_part k c)) (sym segments_is) elevations_are.pass;
        whole = subst (λ (k : ℕ). length (map_bytes m) ≤ 6 + run_size elevation_part k c) (sym segments_is) w;
      })

  pub rendered_read : map_in (map_bytes m) ≡ m
  rendered_read =
      let c = render (fields_of elevation_fields m.elevations) in
      let e : run_in elevation_part (segments_in (map_bytes m)) c ≡ m.elevations = ap (λ (k : ℕ). run_in elevation_part k c)
      segments_is ∙ elevations_are.read in
      λ i. record { date = date_is i; minutes = minutes_is i; elevations = e i }
