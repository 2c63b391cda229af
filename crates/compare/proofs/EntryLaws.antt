-- Two checked bodies: the comparison's outcome by what the walks leave. Assumes nothing.
use Prim.Native.Nat.{ℕ, ◌*◌, ◌≤◌, ◌<◌}
use native.Mathlib.Nat.{zero-add}
use native.Mathlib.Omega.{arith}
use mathlib.Core.Path.{◌≡◌, refl, sym, ap, ◌∙◌}
use mathlib.Core.List.{List, map}
use mathlib.Core.Bool.{Bool, true, false}
use Rattle.std.specs.Prelude.{min}
use lib.Dec.{ltb}
use borrow.Author.Tests.{ltb-true, ltb-false}
use lib.ListN.{length, drop}
use Rattle.wire.specs.Numbers.{Octets}
use Rattle.wire.specs.Checks.{pick, AllHold}
use Rattle.wire.specs.Answers.{refused, given, refusal}
use Rattle.wire.specs.Writing.{filled}
use Rattle.wire.specs.Sheets.{Sheet, sheet}
use Rattle.wire.proofs.CheckLaws.{all_hold, decide-some}
use Rattle.wire.proofs.AnswerLaws.{rule_given, rule_refused}
use Rattle.wire.proofs.SheetLaws.{onto-long, onto-filled}
use Rattle.map_spec.specs.Map.{head_size}
use Rattle.map_spec.specs.Reading.{elevation_part, segments_in, map_checks, map_in, map_of, Summary, summary, summary_of}
use Rattle.map_spec.proofs.Accepted.{accepted_range}
use Rattle.form_spec.proofs.PartLaws.{run-count}
use Rattle.compare_spec.specs.Differences.{differences, present_in_both}
use Rattle.compare_spec.specs.Comparing.{Comparison, comparison, difference_size, six_of, halfwords, most_halfwords, comparison_of}
use Rattle.compare_spec.proofs.Maps.{lesser_both}
use Rattle.compare_spec.proofs.Most.{halfwords-length}
use Rattle.compare_spec.proofs.Theorems.{room_for_all}
use Rattle.compare_spec.proofs.InTurn.{map-given, in_order}
use Rattle.compare.specs.Steps.{listing, list_of, Counts, Checked}

-- ---- elevation segments present in both
segments_are : (b : List ℕ) → length (map_in b).elevations ≡ segments_in b
segments_are b = run-count elevation_part (segments_in b) (drop head_size b)

lesser : (a b : ℕ) → min a b ≡ pick (ltb a b) a b
lesser a b = go (ltb a b) refl
  where
    go : (t : Bool) → ltb a b ≡ t → min a b ≡ pick t a b
    go true e = omega (arith, ltb-true a b e)
    go false e = omega (arith, ltb-false a b e)

pub present_is : (older newer : ℕ) (old new : List ℕ) → older ≡ segments_in old → newer ≡ segments_in new
    → min older newer ≡ present_in_both (map_in old) (map_in new)
present_is older newer old new e f =
    let p = e ∙ sym (segments_are old) in
    let q = f ∙ sym (segments_are new) in
    (λ i. min (p i) (q i)) ∙ lesser (length (map_in old).elevations) (length (map_in new).elevations)

module _ {elevations : ℕ} {old new : List ℕ} (c : Checked elevations old new) where
  -- no more of them than either has
  fewer : (elevations ≤ length (map_in old).elevations) × (elevations ≤ length (map_in new).elevations)
  fewer = lesser_both (length (map_in old).elevations) (length (map_in new).elevations) elevations (omega (arith, c.present))

  pub enough_old : elevations ≤ segments_in old
  enough_old = omega (arith, fewer.0, segments_are old)

  pub enough_new : elevations ≤ segments_in new
  enough_new = omega (arith, fewer.1, segments_are new)

  pub room_most : Octets old → Octets new → length (list_of old new) ≤ most_halfwords
  room_most o p = room_for_all (map_in old) (map_in new) (accepted_range old o c.in_old) (accepted_range new p c.in_new)

-- ---- what a walk counts, and lists where all have room
module _ (old new : List ℕ) (count : ℕ) (before after : List ℕ)
    (walked : sheet (difference_size * count) after ≡ listing (differences (map_in old) (map_in new)) (sheet 0 before))
  where
    pub counted : difference_size * count ≡ length (list_of old new)
    unfolding halfwords
    counted = ap (λ (t : Sheet). t.long) walked ∙ onto-long (map six_of (differences (map_in old) (map_in new)))
        (sheet 0 before) ∙ zero-add (length (list_of old new))

    pub listed : length (list_of old new) ≤ length before → after ≡ filled (list_of old new) before
    unfolding halfwords
    listed h = ap (λ (t : Sheet). t.out) (walked ∙ onto-filled (map six_of (differences (map_in old) (map_in new))) before h)

-- ---- the outcome, by what `check_map` answers of either body
map-refused : (b : List ℕ) (n : ℕ) → refused n ≡ summary_of b → map_of b ≡ refused n
map-refused b n e = decide-some (map_checks b) refused (given (map_in b)) n (rule_refused (map_checks b) (summary (map_in b)) n (sym e))

pub map-counts : (b : List ℕ) (s : Summary) → given s ≡ summary_of b → Counts s.elevations b
map-counts b s e =
    let p = rule_given (map_checks b) (summary (map_in b)) s (sym e) in
    record { checked = all_hold (map_checks b) p.0; all = sym (ap (λ (s : Summary). s.elevations) p.1) ∙ segments_are b }

pub first-refused : (old new out : List ℕ) (n : ℕ) → refused n ≡ summary_of old → comparison_of old new out ≡ refusal out n
first-refused old new out n e = (in_order old new out).old_bad n (map-refused old n e)

module _ (old new out : List ℕ) (holds : AllHold (map_checks old)) where
  pub second_refused : (n : ℕ) → refused n ≡ summary_of new → comparison_of old new out ≡ refusal out n
  second_refused n e = (in_order old new out).new_bad (map_in old) n (map-given old holds) (map-refused new n e)

  module _ (holds' : AllHold (map_checks new)) where
    pub room-refused : length out < length (list_of old new) → comparison_of old new out ≡ refusal out 13
    room-refused h = (in_order old new out).too_little (map_in old) (map_in new) (map-given old holds) (map-given new holds') h

    pub all-given : (older newer count : ℕ) → older ≡ segments_in old → newer ≡ segments_in new
        → difference_size * count ≡ length (list_of old new) → length (list_of old new) ≤ length out
        → comparison_of old new out
        ≡ record {
          answer = given (record { old_elevations = older; new_elevations = newer; differences = count });
          output = filled
              (list_of old new) out;
        }
    all-given older newer count e f g h =
        let a = segments_are old ∙ sym e in
        let b = segments_are new ∙ sym f in
        let c : length (differences (map_in old) (map_in new))
        ≡ count = omega (arith, g, halfwords-length (differences (map_in old) (map_in new))) in
        let same : ◌≡◌ {A = Comparison} (comparison (map_in old) (map_in new))
        (record { old_elevations = older; new_elevations = newer; differences = count })
        = λ i. record { old_elevations = a i; new_elevations = b i; differences = c i } in
        (in_order old new out).enough (map_in old) (map_in new) (map-given old holds) (map-given new holds') h
        ∙ ap (λ (v : Comparison). record { answer = given v; output = filled (list_of old new) out }) same
