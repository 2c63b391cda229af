-- A walk of checked parts: a part that stops, stops the walk; after a part that passes the walk goes on behind it. Assumes nothing.
use Prim.Native.Nat.{ℕ, suc, ◌+◌, ◌*◌, ◌-◌, ◌/◌, ◌≤◌, ◌<◌}
use native.Mathlib.Nat.{add-zero, zero-add, add_assoc}
use native.Mathlib.Omega.{arith}
use mathlib.Core.Path.{◌≡◌, sym, ap, ◌∙◌, subst}
use mathlib.Core.Option.{none, some}
use mathlib.Core.Bool.{true, false}
use mathlib.Core.List.{List, ◌++◌}
use Rattle.std.specs.Prelude.{Option}
use lib.ListN.{length, take, drop, length-drop}
use lib.Seq.{drop-drop}
use borrow.Author.Tests.{lt-ltb, le-ltb}
use Rattle.form_spec.specs.Parts.{Part, run_size, run_checks}
use Rattle.wire.specs.Numbers.{fetched}
use Rattle.wire.proofs.ListLaws.{part_is}
use Rattle.wire.specs.Checks.{Check, decide, first, AllHold}
use Rattle.wire.proofs.CheckLaws.{never, passed, stopped, decide-append, decide-none, decide-some, all_hold}
use Rattle.map_spec.specs.Map.{most_zones, field_size, zone_size}
use Rattle.map_spec.proofs.PartLaws.{fetched-value}
use Rattle.map_spec.specs.Reading.{value, after, zones_checks, azimuth_part}
use Rattle.wire.specs.Answers.{Answer, refused, given, rule}
use Rattle.map_check.specs.Told.{part_step, run_step}
use Rattle.map_check.specs.Steps.{next_end, zones_step, CutOff}
use Rattle.map_check.proofs.RisingLaws.{not_last, whole-stop, whole-next}

-- ---- one part
pub step-first : (ks : List Check) (n k : ℕ) → rule ks n ≡ refused k → first ks ≡ some k
step-first ks n k e = stopped ks refused (given n) k e (λ q. never (cc q)) (λ m q. cc q)

pub step-none : (ks : List Check) (n m : ℕ) → rule ks n ≡ given m → (first ks ≡ none) × (n ≡ m)
step-none ks n m e = let p = passed ks refused (given n) (given m) e (λ k q. never (cc q)) in (p.0, cc p.1)

-- ---- a part and those behind it
module _ (ks rest : List Check) (n : ℕ) (end : Answer ℕ) where
  pub part_stops : (k : ℕ) → rule ks n ≡ refused k → decide (ks ++ rest) refused end ≡ refused k
  part_stops k e = decide-append ks rest refused end ∙ decide-some ks refused (decide rest refused end) k (step-first ks n k e)

  pub part-passes : (m : ℕ) → rule ks n ≡ given m → decide (ks ++ rest) refused end ≡ decide rest refused end
  part-passes m e = decide-append ks rest refused end ∙ decide-none ks refused (decide rest refused end) (step-none ks n m e).0

-- ---- one azimuth, by its zone count as it was fetched
pub azimuth_cut : (b : List ℕ) → length b < field_size → refused 23 ≡ part_step azimuth_part b
azimuth_cut b h = simp (lt-ltb (length b) field_size h)

module _ (b : List ℕ) (here : field_size ≤ length b) (count : ℕ) (fetched-count : count ≡ fetched field_size b 0) where
  counted : count ≡ value b
  counted = fetched-count ∙ fetched-value b 0 (omega arith)

  pub azimuth_none : count < 1 → refused 24 ≡ part_step azimuth_part b
  azimuth_none h = simp (le-ltb (length b) field_size here, lt-ltb (value b) 1 (omega (arith, counted)))

  module _ (some : 1 ≤ count) where
    pub azimuth-many : most_zones < count → refused 24 ≡ part_step azimuth_part b
    azimuth-many h =
        simp (
          le-ltb (length b) field_size here,
          le-ltb (value b) 1 (omega (arith, counted)),
          lt-ltb most_zones (value b) (omega (arith, counted)),
        )

    module _ (few : count ≤ most_zones) where
      zones-decide : part_step azimuth_part b ≡ decide (zones_checks (value b) 0 (after b)) refused (given (azimuth_part.size b))
      zones-decide =
          simp (
            le-ltb (length b) field_size here,
            le-ltb (value b) 1 (omega (arith, counted)),
            le-ltb most_zones (value b) (omega (arith, counted)),
          )

      azimuth-stop : (n : ℕ) → refused n ≡ zones_step (value b) (after b) → refused n ≡ part_step azimuth_part b
      azimuth-stop n e =
          let ks = zones_checks (value b) 0 (after b) in
          sym (zones-decide ∙ decide-some ks refused (given (azimuth_part.size b)) n (step-first ks (zone_size * value b) n (sym e)))

      -- the zones are not all there
      pub azimuth-short : length b < field_size + zone_size * count → (n : ℕ)
          → CutOff (take (length b - field_size) (drop field_size b)) n → refused n ≡ part_step azimuth_part b
      azimuth-short h n cut =
          let p = part_is b field_size in
          let l : length (after b) < zone_size * value b = rw length-drop (omega (arith, counted)) in
          azimuth-stop n (subst (λ (x : List ℕ). CutOff x n) p cut (value b) l)

      -- they are, and come to an end
      module _ (whole : field_size + zone_size * count ≤ length b) (end : Option ℕ) where
        abbrev zonesOf : List ℕ
        zonesOf = take (field_size + zone_size * count - field_size) (drop field_size b)

        module _ (told : end ≡ next_end (length zonesOf / zone_size) 0 zonesOf) where
          some-value : 1 ≤ value b
          some-value = omega (arith, counted)

          there : zone_size * value b ≤ length (after b)
          there = rw length-drop (omega (arith, counted))

          sized : field_size + zone_size * count - field_size ≡ zone_size * value b
          sized = omega (arith, counted)

          pub azimuth-wrong : not_last end ≡ true → refused 24 ≡ part_step azimuth_part b
          azimuth-wrong t = azimuth-stop 24 (whole-stop (after b) (value b) some-value there _ sized end told t)

          pub azimuth-right : not_last end ≡ false → given (field_size + zone_size * count) ≡ part_step azimuth_part b
          azimuth-right t =
              let ks = zones_checks (value b) 0 (after b) in
              let p = step-none ks (zone_size * value b) (zone_size * value b)
              (sym (whole-next (after b) (value b) some-value there _ sized end told t)) in
              ap (λ (n : ℕ). given (field_size + zone_size * n)) counted
              ∙ sym (zones-decide ∙ decide-none ks refused (given (azimuth_part.size b)) p.0)

-- ---- a run of parts: what is left of a walk from a place
abbrev pub walk : {A : Type 0} → Part A → ℕ → ℕ → List ℕ → Answer ℕ
walk part left at b = rule (run_checks part left (drop at b)) (at + run_size part left (drop at b))

module _ {A : Type 0} (part : Part A) where
  walk_turn' : (l at : ℕ) (b : List ℕ) (m : ℕ) → part_step part (drop at b) ≡ given m → walk part (suc l) at b ≡ walk part l (at + m) b
  unfolding run_checks run_size
  walk_turn' l at b m e =
      let d = drop at b in
      let s = part.size d in
      let r = run_checks part l (drop s d) in
      part-passes (part.checks d) r s (given (at + (s + run_size part l (drop s d)))) m e
      ∙ ap (λ (k : ℕ). decide r refused (given k)) (sym (add_assoc at s (run_size part l (drop s d))))
      ∙ ap (λ (x : List ℕ). decide (run_checks part l x) refused (given (at + s + run_size part l x))) (drop-drop s at b)
      ∙ ap (λ (k : ℕ). walk part l (at + k) b) (step-none (part.checks d) s m e).1

  walk-stop' : (l at : ℕ) (b : List ℕ) (k : ℕ) → part_step part (drop at b) ≡ refused k → walk part (suc l) at b ≡ refused k
  unfolding run_checks run_size
  walk-stop' l at b k e =
      let d = drop at b in
      let s = part.size d in
      part_stops (part.checks d) (run_checks part l (drop s d)) s (given (at + (s + run_size part l (drop s d)))) k e

  pub walk_turn : (left at : ℕ) (b : List ℕ) (m : ℕ) → 0 < left → given m ≡ part_step part (drop at b)
      → walk part (left - 1) (at + m) b ≡ walk part left at b
  walk_turn left at b m h e =
      let l : left ≡ suc (left - 1) = omega arith in
      sym (ap (λ (k : ℕ). walk part k at b) l ∙ walk_turn' (left - 1) at b m (sym e))

  pub walk-stop : (left at : ℕ) (b : List ℕ) (k : ℕ) → 0 < left → refused k ≡ part_step part (drop at b) → refused k ≡ walk part left at b
  walk-stop left at b k h e =
      let l : left ≡ suc (left - 1) = omega arith in
      sym (ap (λ (k : ℕ). walk part k at b) l ∙ walk-stop' (left - 1) at b k (sym e))

  pub walk_done : (left at : ℕ) (b : List ℕ) → left ≤ 0 → given at ≡ walk part left at b
  unfolding run_checks run_size
  walk_done left at b h =
      let l : left ≡ 0 = omega arith in
      let none : walk part 0 at b ≡ given at = ap given (add-zero at) in
      sym (ap (λ (k : ℕ). walk part k at b) l ∙ none)

  pub walk_start : (left : ℕ) (b : List ℕ) → walk part left 0 b ≡ run_step part left b
  walk_start left b = ap (λ (k : ℕ). rule (run_checks part left b) k) (zero-add (run_size part left b))

  -- a part that passes lies within the bytes
  pub part-fits : ((b : List ℕ) → AllHold (part.checks b) → part.size b ≤ length b) → (at : ℕ) (b : List ℕ) (m : ℕ) → at ≤ length b
      → given m ≡ part_step part (drop at b) → at + m ≤ length b
  part-fits long at b m h e =
      let d = drop at b in
      let p = step-none (part.checks d) (part.size d) m (sym e) in
      let l : part.size d ≤ length b - at = rw (← length-drop at b) (long d (all_hold (part.checks d) p.0)) in
      omega (arith, p.1)
