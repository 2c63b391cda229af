-- Both bodies walked azimuth by azimuth, those of all elevation segments counted through. Assumes nothing.
use Prim.Native.Nat.{ℕ, zero, suc, ◌+◌, ◌*◌, ◌-◌, ◌/◌, ◌%◌, ◌≤◌, ◌<◌}
use native.Mathlib.Nat.{zero-add}
use native.Mathlib.Omega.{arith}
use mathlib.Core.Path.{◌≡◌, refl, sym, ap, ◌∙◌, subst}
use mathlib.Core.List.{List, ◌++◌}
use lib.ListN.{length, get_or, take, drop, length-drop}
use lib.Seq.{drop-drop}
use Rattle.form_spec.specs.Parts.{run_size}
use Rattle.wire.specs.Numbers.{fetched}
use Rattle.wire.specs.Checks.{AllHold}
use Rattle.wire.specs.Sheets.{Sheet, sheet}
use Rattle.wire.proofs.ListLaws.{part_is}
use Rattle.form_spec.proofs.PartLaws.{run_none, run_more, run-next}
use Rattle.map_spec.specs.Map.{azimuths, last_kilometre, kilometres, field_size, zone_size, head_size, code_from}
use Rattle.map_spec.specs.Reading.{value, azimuth_part, map_in}
use Rattle.map_spec.specs.Places.{place_of, AzimuthStands}
use Rattle.map_spec.proofs.CheckFacts.{map_facts, azimuth_facts}
use Rattle.map_spec.proofs.PartLaws.{fetched-value}
use Rattle.map_spec.proofs.Places.{place-first, place-next, index_stands}
use Rattle.compare_spec.specs.Differences.{Difference, stretches, azimuth_differences, in_order, differences}
use Rattle.compare_spec.specs.Comparing.{difference_size}
use Rattle.compare_spec.proofs.Lists.{order_none, order_last, order_flat}
use Rattle.compare_spec.proofs.Most.{runs_few}
use Rattle.compare.specs.Steps.{most_counted, listing, zones_differences, size_fetched, Same, Checked}
use Rattle.compare.proofs.SheetLaws.{listing-append, listing-long}
use Rattle.compare.proofs.TurnLaws.{none_listed}
use Rattle.compare.proofs.SameBytes.{azimuth_same, size_same, same-beyond}
use Rattle.compare.proofs.EntryLaws.{enough_old, enough_new}

module _ (old new : List ℕ) where
  -- the azimuth of an index, and all before it
  abbrev one : ℕ → List Difference
  one index = azimuth_differences (map_in old) (map_in new) (1 + index / azimuths) (index % azimuths)

  abbrev done : ℕ → List Difference
  done index = in_order 0 index one

  done_next : (index : ℕ) → done (index + 1) ≡ done index ++ one index
  done_next index = order_last one 0 index ∙ ap (λ (k : ℕ). done index ++ one k) (zero-add index)

  -- ---- the walk
  pub record Reached (out₀ : List ℕ) (index : ℕ) (out : List ℕ) (i j count : ℕ) : Type 0 where
    pub at_old : i ≡ place_of index old
    pub at_new : j ≡ place_of index new
    pub few : count ≤ index * kilometres
    pub same : sheet (difference_size * count) out ≡ listing (done index) (sheet 0 out₀)

  moved : (out₀ : List ℕ) (k k' i i' j j' : ℕ) → k ≡ k' → i ≡ i' → j ≡ j' → (out : List ℕ) (count : ℕ) → Reached out₀ k out i j count
      → Reached out₀ k' out i' j' count
  moved out₀ k k' i i' j j' e f h out count r =
      record {
        at_old = sym f ∙ r.at_old ∙ ap (λ (x : ℕ). place_of x old) e;
        at_new = sym h ∙ r.at_new ∙ ap (λ (x : ℕ). place_of x new) e;
        few = omega (arith, r.few, e);
        same = r.same ∙ ap (λ (x : ℕ). listing (done x) (sheet 0 out₀)) e;
      }

  module _ {elevations : ℕ} (checked : Checked elevations old new) {out₀ : List ℕ} where
    pub reached-start : Reached out₀ 0 out₀ head_size head_size 0
    reached-start = record {
      at_old = sym (place-first old);
      at_new = sym (place-first new);
      few = omega arith;
      same = ap (λ (ds : List Difference). listing ds (sheet 0 out₀)) (sym (order_none one 0));
    }

    pub reached-done : {index : ℕ} {out : List ℕ} {i j count : ℕ} → Reached out₀ index out i j count → index ≡ azimuths * elevations
        → sheet (difference_size * count) out ≡ listing (differences (map_in old) (map_in new)) (sheet 0 out₀)
    reached-done {index} r all =
        let e : index ≡ elevations * azimuths = omega (arith, all) in
        let d : done index ≡ differences (map_in old) (map_in new)
        = ap done e
        ∙ order_flat (azimuth_differences (map_in old) (map_in new)) elevations
        ∙ ap (λ (n : ℕ). in_order 1 n (λ elevation. in_order 0 azimuths (azimuth_differences (map_in old) (map_in new) elevation)))
        checked.present in
        r.same ∙ ap (λ (ds : List Difference). listing ds (sheet 0 out₀)) d

    -- at an azimuth of both
    module _ {index : ℕ} {out : List ℕ} {i j count : ℕ} (r : Reached out₀ index out i j count) (more : index < azimuths * elevations) where
      pub stands-old : AzimuthStands old (1 + index / azimuths) (index % azimuths) i
      stands-old =
          subst (AzimuthStands old (1 + index / azimuths) (index % azimuths)) (sym r.at_old)
          (index_stands old checked.in_old index (omega (arith, enough_old checked)))

      pub stands-new : AzimuthStands new (1 + index / azimuths) (index % azimuths) j
      stands-new =
          subst (AzimuthStands new (1 + index / azimuths) (index % azimuths)) (sym r.at_new)
          (index_stands new checked.in_new index (omega (arith, enough_new checked)))

      pub reached-few : count + kilometres ≤ most_counted
      reached-few =
          omega (arith, r.few, enough_old checked, (map_facts old checked.in_old).most)

      codes-are : zones_differences (1 + index / azimuths) (index % azimuths) (drop i old) (drop j new) ≡ one index
      codes-are =
          λ k. stretches (1 + index / azimuths) (index % azimuths) (code_from 0 (stands-old.zones k)) (code_from 0 (stands-new.zones k)) 0
          1 last_kilometre

      -- it is listed, and both go on behind it
      pub reached-next : {out' : List ℕ} {count' i' j' : ℕ}
          → sheet (difference_size * count') out'
          ≡ listing (zones_differences (1 + index / azimuths) (index % azimuths) (drop i old) (drop j new))
          (sheet (difference_size * count) out)
          → i' ≡ i + azimuth_part.size (drop i old) → j' ≡ j + azimuth_part.size (drop j new)
          → Reached out₀ (index + 1) out' i' j' count'
      reached-next listed iIs jIs =
          let ds = zones_differences (1 + index / azimuths) (index % azimuths) (drop i old) (drop j new) in
          let c = ap (λ (t : Sheet). t.long) listed ∙ listing-long ds (sheet (difference_size * count) out) in
          let l : length ds ≤ kilometres
          = runs_few (1 + index / azimuths) (index % azimuths) (code_from 0 (azimuth_part.read (drop i old)))
          (code_from 0 (azimuth_part.read (drop j new))) 0 1 last_kilometre in
          record {
            at_old = iIs ∙ ap (λ (k : ℕ). k + azimuth_part.size (drop k old)) r.at_old ∙ sym (place-next index old);
            at_new = jIs ∙ ap (λ (k : ℕ). k + azimuth_part.size (drop k new)) r.at_new ∙ sym (place-next index new);
            few = omega (arith, c, l, r.few);
            same =
                listed
                ∙ ap (λ (l : List Difference). listing l (sheet (difference_size * count) out)) codes-are
                ∙ ap (λ (t : Sheet). listing (one index) t) r.same
                ∙ sym (listing-append (done index) (one index) (sheet 0 out₀))
                ∙ ap (λ (l : List Difference). listing l (sheet 0 out₀)) (sym (done_next index));
          }

    -- so many that lie wholly in bytes that are the same
    pub reached-past : (n : ℕ) {index : ℕ} {out : List ℕ} {i j count : ℕ} (same : ℕ) → Reached out₀ index out i j count
        → index + n ≤ azimuths * elevations → Same same (drop i old) (drop j new) → run_size azimuth_part n (drop i old) ≤ same
        → Reached out₀ (index + n) out (i + run_size azimuth_part n (drop i old)) (j + run_size azimuth_part n (drop i old)) count
    reached-past zero {index} {out} {i} {j} {count} same r most s inside =
        moved out₀ index (index + 0) i (i + run_size azimuth_part 0 (drop i old)) j (j + run_size azimuth_part 0 (drop i old)) (omega arith)
        (omega (arith, run_none azimuth_part (drop i old))) (omega (arith, run_none azimuth_part (drop i old))) out count r
    reached-past (suc n) {index} {out} {i} {j} {count} same r most s inside =
        let p = azimuth_part.size (drop i old) in
        let all : run_size azimuth_part (suc n) (drop i old) ≡ p + run_size azimuth_part n (drop (i + p) old)
        = run_more azimuth_part n (drop i old) ∙ ap (λ (x : List ℕ). p + run_size azimuth_part n x) (drop-drop p i old) in
        let within : p ≤ same = omega (arith, all, inside) in
        let rest : Same (same - p) (drop (i + p) old) (drop (j + p) new)
        = λ k h.
        ap (λ (x : List ℕ). get_or x k 0) (sym (drop-drop p i old))
        ∙ same-beyond (drop i old) (drop j new) same s within k h
        ∙ ap (λ (x : List ℕ). get_or x k 0) (drop-drop p j new) in
        let next : Reached out₀ (index + 1) out (i + p) (j + p) count
        = reached-next r (omega arith)
        (none_listed (drop i old) (drop j new) (1 + index / azimuths) (index % azimuths) count out
        (azimuth_same (drop i old) (drop j new) same s within)) refl
        (ap (λ (x : ℕ). j + x) (size_same (drop i old) (drop j new) same s within)) in
        moved out₀ (index + 1 + n) (index + suc n) (i + p + run_size azimuth_part n (drop (i + p) old))
        (i + run_size azimuth_part (suc n) (drop i old))
        (j + p + run_size azimuth_part n (drop (i + p) old)) (j + run_size azimuth_part (suc n) (drop i old)) (omega arith)
        (omega (arith, all)) (omega (arith, all)) out count
        (reached-past n (same - p) next (omega arith) rest (omega (arith, all, inside)))

-- ---- the part of a slice from a place on, as it is lent
module _ (b : List ℕ) (at : ℕ) where
  pub run-part : (n : ℕ) → run_size azimuth_part n (take (length b - at) (drop at b)) ≡ run_size azimuth_part n (drop at b)
  run-part n = ap (λ (x : List ℕ). run_size azimuth_part n x) (part_is b at)

  pub checked_part : AllHold (azimuth_part.checks (drop at b)) → AllHold (azimuth_part.checks (take (length b - at) (drop at b)))
  checked_part h = subst (λ (x : List ℕ). AllHold (azimuth_part.checks x)) (sym (part_is b at)) h

  -- the size of an azimuth that is there
  pub size_part : field_size ≤ length (drop at b) → size_fetched (take (length b - at) (drop at b)) ≡ azimuth_part.size (drop at b)
  size_part here =
      let e : fetched field_size (drop at b) 0 ≡ value (drop at b) = fetched-value (drop at b) 0 (omega arith) in
      ap size_fetched (part_is b at) ∙ ap (λ (n : ℕ). field_size + zone_size * n) e

  pub checked_size : AllHold (azimuth_part.checks (drop at b))
      → size_fetched (take (length b - at) (drop at b)) ≡ azimuth_part.size (drop at b)
  checked_size h = size_part (azimuth_facts (drop at b) h).here

pub parts_same : (n : ℕ) (old new : List ℕ) (i j : ℕ) → Same n (take (length old - i) (drop i old))
    (take (length new - j) (drop j new)) → Same n (drop i old) (drop j new)
parts_same n old new i j s k h =
    ap (λ (x : List ℕ). get_or x k 0) (sym (part_is old i)) ∙ s k h ∙ ap (λ (x : List ℕ). get_or x k 0) (part_is new j)

pub parts_listed : (elevation azimuth : ℕ) (old new : List ℕ) (i j : ℕ) (s : Sheet)
    → listing (zones_differences elevation azimuth (take (length old - i) (drop i old)) (take (length new - j) (drop j new))) s
    ≡ listing (zones_differences elevation azimuth (drop i old) (drop j new)) s
parts_listed elevation azimuth old new i j s =
    λ k. listing (zones_differences elevation azimuth (part_is old i k) (part_is new j k)) s

-- ---- an azimuth more of a run, by a fetch in the part that is lent
pub run_on : (b : List ℕ) (count at size same : ℕ) → same ≤ length b → at ≤ same → at ≡ run_size azimuth_part count b
    → size ≡ size_fetched (take (length b - at) (drop at b)) → size ≤ same - at → at + size ≡ run_size azimuth_part (count + 1) b
run_on b count at size same there inside is sized fits =
    let l : field_size ≤ length (drop at b) = rw length-drop (omega arith) in
    let e = ap (λ (k : ℕ). azimuth_part.size (drop k b)) is in
    omega (arith, run-next azimuth_part count b, is, sized, size_part b at l, e)
