use Prim.Native.Nat.{ℕ, ◌*◌}
use native.Mathlib.Omega.{arith}
use mathlib.Core.Path.{◌≡◌, sym, ap, ◌∙◌}
use mathlib.Core.List.{List}
use lib.ListN.{length}
use borrow.Author.Tests.{leb-true, leb-false}
use Rattle.wire.specs.Writing.{filled}
use Rattle.wire.specs.Sheets.{sheet}
use Rattle.wire.proofs.AnswerLaws.{kept}
use Rattle.map_spec.specs.Reading.{map_in}
use Rattle.compare_spec.specs.Differences.{differences}
use Rattle.compare_spec.specs.Comparing.{difference_size, comparison_of}
use Rattle.std.specs.Prelude.{Ok, Err, min}
use Rattle.wire.specs.declared.refusal.Refusal.TheVariants.{OutputSmall}
use Rattle.compare.specs.Told.{tell_compare}
use Rattle.compare.specs.Steps.{listing, list_of, Counts, Checked}
use Rattle.compare.proofs.EntryLaws.{present_is, counted, listed, room_most, room-refused, all-given}
use Rattle.compare.proofs.compare_checked.Goals as goal

-- both bodies are checked for the lesser of their numbers of elevation segments
checked_both : {older newer least : ℕ} {old new : List ℕ} → Counts older old × Counts newer new → least ≡ min older newer
    → Checked least old new
checked_both {older} {newer} {least} {old} {new} k e = record {
  in_old = k.0.checked;
  in_new = k.1.checked;
  present = e ∙ present_is older newer old new k.0.all k.1.all;
}

pub has_room-requires : goal.has_room-requires
has_room-requires c = checked_both c.requires c.min-elevations.ensures

pub returns-then-not-has_room : goal.returns-then-not-has_room
returns-then-not-has_room c =
    let a = c.args in
    let old = a.old.now in
    let new = a.new.now in
    let out = a.out.now in
    let little = leb-false (length (list_of old new)) (length out) (sym c.has_room.ensures.0 ∙ c.if-not-has_room.true) in
    kept tell_compare (comparison_of old new out) (Err OutputSmall) _ out
    (room-refused old new out c.requires.0.checked c.requires.1.checked little) c.has_room.ensures.1

pub compare_azimuths-count-requires : goal.compare_azimuths-count-requires
compare_azimuths-count-requires c = checked_both c.requires c.min-elevations.ensures

pub overflow_cast-result : goal.overflow_cast-result
overflow_cast-result c =
    let all = counted c.args.old.now c.args.new.now c.compare_azimuths-count.result _ _ c.compare_azimuths-count.ensures in
    let most =
    room_most (checked_both c.requires c.min-elevations.ensures) (λ i. (c.type_inv.old i).fits)
    (λ i. (c.type_inv.new i).fits) in
    record { fits = omega (arith, most, all) }

pub returns : goal.returns
returns c =
    let a = c.args in
    let old = a.old.now in
    let new = a.new.now in
    let out = a.out.now in
    let w = c.compare_azimuths-count in
    let walked : sheet (difference_size * w.result) w.new.out ≡ listing (differences (map_in old) (map_in new)) (sheet 0 out) =
    w.ensures ∙ ap (λ (l : List ℕ). listing (differences (map_in old) (map_in new)) (sheet 0 l)) c.has_room.ensures.1 in
    let enough = leb-true (length (list_of old new)) (length out) (sym c.has_room.ensures.0 ∙ c.if-not-has_room.false) in
    kept tell_compare (comparison_of old new out) (Ok (record { old_elevations = a.older; new_elevations = a.newer; differences = w.result })) _ (filled (list_of old new) out)
    (all-given old new out c.requires.0.checked c.requires.1.checked a.older a.newer w.result c.requires.0.all c.requires.1.all
    (counted old new w.result _ _ w.ensures) enough)
    (listed old new w.result out w.new.out walked enough)
