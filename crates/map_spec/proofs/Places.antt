-- Where an azimuth stands in a body: the azimuths of all elevation segments are counted through, 360 to a segment. Assumes nothing.
use Prim.Native.Nat.{ℕ, zero, suc, ◌+◌, ◌*◌, ◌-◌, ◌/◌, ◌%◌, ◌≤◌, ◌<◌}
use native.Mathlib.Nat.{add_assoc}
use native.Mathlib.Omega.{arith}
use mathlib.Core.Path.{◌≡◌, sym, ap, ◌∙◌, subst}
use mathlib.Core.List.{List, [], ◌++◌}
use lib.ListN.{length, get_or, drop, length-drop}
use lib.Seq.{drop-drop}
use Rattle.form_spec.specs.Parts.{run_size, run_checks}
use Rattle.wire.specs.Checks.{Check, AllHold}
use Rattle.map_spec.specs.Map.{azimuths, head_size, Zone, AzimuthInRange}
use Rattle.map_spec.specs.Reading.{azimuth_part, elevation_part, segments_in, map_checks, map_in}
use Rattle.map_spec.specs.Places.{index_of, place_of, AzimuthStands}
use Rattle.map_spec.specs.Theorems.{AzimuthsStand}
use Rattle.form_spec.proofs.PartLaws.{run_none, run_more, run-add, run-next, checks_none, checks_more, checks_add, run-read, run_holds, run-there}
use Rattle.map_spec.proofs.CheckFacts.{map_facts}
use Rattle.map_spec.proofs.Accepted.{azimuth_long, azimuth_range}

-- n elevation segments are n times 360 azimuths
pub size_flat : (n : ℕ) (b : List ℕ) → run_size elevation_part n b ≡ run_size azimuth_part (n * azimuths) b
size_flat zero b = run_none elevation_part b ∙ sym (run_none azimuth_part b)
size_flat (suc n) b =
    let c = drop (elevation_part.size b) b in
    let e : azimuths + n * azimuths ≡ suc n * azimuths = omega arith in
    run_more elevation_part n b
    ∙ ap (λ (k : ℕ). elevation_part.size b + k) (size_flat n c)
    ∙ sym (run-add azimuth_part azimuths (n * azimuths) b)
    ∙ ap (λ (k : ℕ). run_size azimuth_part k b) e

pub checks_flat : (n : ℕ) (b : List ℕ) → run_checks elevation_part n b ≡ run_checks azimuth_part (n * azimuths) b
checks_flat zero b = checks_none elevation_part b ∙ sym (checks_none azimuth_part b)
checks_flat (suc n) b =
    let c = drop (elevation_part.size b) b in
    let e : azimuths + n * azimuths ≡ suc n * azimuths = omega arith in
    checks_more elevation_part n b
    ∙ ap (λ (ks : List Check). elevation_part.checks b ++ ks) (checks_flat n c)
    ∙ sym (checks_add azimuth_part azimuths (n * azimuths) b)
    ∙ ap (λ (k : ℕ). run_checks azimuth_part k b) e

-- ---- places one after the other
pub place-first : (b : List ℕ) → place_of 0 b ≡ head_size
place-first b = ap (λ (k : ℕ). head_size + k) (run_none azimuth_part (drop head_size b))

-- by the bytes behind the first fields
part_at : (index : ℕ) (b : List ℕ) → drop (run_size azimuth_part index (drop head_size b)) (drop head_size b) ≡ drop (place_of index b) b
part_at index b = drop-drop (run_size azimuth_part index (drop head_size b)) head_size b

pub place-next : (index : ℕ) (b : List ℕ) → place_of (index + 1) b ≡ place_of index b + azimuth_part.size (drop (place_of index b) b)
place-next index b =
    let r = run_size azimuth_part index (drop head_size b) in
    ap (λ (k : ℕ). head_size + k) (run-next azimuth_part index (drop head_size b))
    ∙ sym (add_assoc head_size r (azimuth_part.size (drop r (drop head_size b))))
    ∙ ap (λ (x : List ℕ). place_of index b + azimuth_part.size x) (part_at index b)

-- ---- a body that no check refuses
module _ (b : List ℕ) (holds : AllHold (map_checks b)) where
  all_pass : AllHold (run_checks azimuth_part (segments_in b * azimuths) (drop head_size b))
  all_pass = subst AllHold (checks_flat (segments_in b) (drop head_size b)) (map_facts b holds).elevations

  module _ (index : ℕ) (inside : index < segments_in b * azimuths) where
    passes_at : AllHold (azimuth_part.checks (drop (place_of index b) b))
    passes_at =
        subst (λ (x : List ℕ). AllHold (azimuth_part.checks x)) (part_at index b)
        (run_holds azimuth_part (segments_in b * azimuths) index (drop head_size b) all_pass inside)

    within-at : place_of index b + azimuth_part.size (drop (place_of index b) b) ≤ length b
    within-at =
        let r = run_size azimuth_part index (drop head_size b) in
        let h = run-there azimuth_part azimuth_long (segments_in b * azimuths) index (drop head_size b) all_pass inside in
        let e = ap (λ (x : List ℕ). azimuth_part.size x) (part_at index b) in
        omega (arith, h, e, length-drop head_size b, (map_facts b holds).here)

  -- azimuth a of the e-th segment, both from 0
  zones_at : (e a : ℕ) → e < segments_in b → a < azimuths
      → azimuth_part.read (drop (place_of (e * azimuths + a) b) b) ≡ get_or (get_or (map_in b).elevations e []) a []
  zones_at e a inside around =
      let c = drop head_size b in
      let s = run_size elevation_part e c in
      let f : s + run_size azimuth_part a (drop s c) ≡ run_size azimuth_part (e * azimuths + a) c
      = ap (λ (k : ℕ). k + run_size azimuth_part a (drop k c)) (size_flat e c) ∙ sym (run-add azimuth_part (e * azimuths) a c) in
      sym
      (ap (λ (x : List (List Zone)). get_or x a []) (run-read elevation_part [] (segments_in b) e c inside)
      ∙ run-read azimuth_part [] azimuths a (drop s c) around
      ∙ ap (λ (x : List ℕ). azimuth_part.read x)
      (drop-drop (run_size azimuth_part a (drop s c)) s c ∙ ap (λ (k : ℕ). drop k c) f ∙ part_at (e * azimuths + a) b))

pub azimuths_stand : AzimuthsStand
azimuths_stand b holds elevation azimuth from most around =
    let index = index_of elevation azimuth in
    let inside : index < segments_in b * azimuths = omega arith in
    let zones = zones_at b holds (elevation - 1) azimuth (omega arith) around in
    let passes = passes_at b holds index inside in
    record {
      within = within-at b holds index inside;
      passes = passes;
      zones = zones;
      range = subst AzimuthInRange zones (azimuth_range (drop (place_of index b) b) passes);
    }

-- by the index
pub index_stands : (b : List ℕ) → AllHold (map_checks b) → (index : ℕ) → index < segments_in b * azimuths
    → AzimuthStands b (1 + index / azimuths) (index % azimuths) (place_of index b)
index_stands b holds index inside =
    let e : index_of (1 + index / azimuths) (index % azimuths) ≡ index = omega arith in
    subst (λ (k : ℕ). AzimuthStands b (1 + index / azimuths) (index % azimuths) (place_of k b)) e
    (azimuths_stand b holds (1 + index / azimuths) (index % azimuths) (omega arith) (omega arith) (omega arith))
