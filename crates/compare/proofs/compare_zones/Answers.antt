use Prim.Native.Nat.{ℕ, ◌+◌, ◌*◌, ◌/◌, ◌%◌, ◌≤◌, ◌<◌}
use native.Mathlib.Omega.{arith}
use mathlib.Core.Path.{◌≡◌, refl, ◌∙◌}
use mathlib.Core.Bool.{true, not, ◌&&◌, ◌||◌}
use mathlib.Core.List.{List}
use Rattle.std.specs.Prelude.{min}
use lib.Dec.{eqb}
use lib.ListN.{length}
use Rattle.wire.specs.Numbers.{Octets, num}
use Rattle.wire.specs.Checks.{AllHold, pick}
use Rattle.wire.specs.Sheets.{sheet}
use Rattle.map_spec.specs.Map.{last_kilometre, halfword_numbers, field_size, zone_size}
use Rattle.map_spec.specs.Reading.{value, azimuth_part}
use Rattle.map_spec.specs.Places.{zone_at}
use Rattle.map_spec.proofs.ZoneWalk.{facing_first, facing-place, facing-there, code_half, end_half}
use Rattle.compare_spec.specs.Comparing.{difference_size}
use Rattle.compare.specs.Steps.{listing, one_if}
use Rattle.compare.proofs.TurnLaws.{Walking, walking_start, turn_low, walking-next, walking-done}
use Rattle.compare.proofs.compare_zones.Goals as goal

-- the first zone of a body is there
first_there : (b : List ℕ) → AllHold (azimuth_part.checks b) → field_size + zone_size ≤ length b
first_there b h = facing-there b h field_size 0 (value b) (facing_first b h) (omega arith)

-- a turn of the loop, with the codes of the two zones that the walks have come to taken from their four bytes
module _ {old new : List ℕ} (old_octets : Octets old) (new_octets : Octets new) (checked_old : AllHold (azimuth_part.checks old))
    (checked_new : AllHold (azimuth_part.checks new)) {elevation azimuth count : ℕ} {out₀ out : List ℕ}
    {i j next first was is listed : ℕ} (w : Walking old new elevation azimuth count out₀ out i j next first was is listed)
    (more : next ≤ last_kilometre) {zone_old zone_new code other : ℕ} (old_is : zone_old ≡ num zone_size old i)
    (new_is : zone_new ≡ num zone_size new j) (code_is : code ≡ zone_old / halfword_numbers)
    (other_is : other ≡ zone_new / halfword_numbers)
  where
    code_old : code ≡ (zone_at old i).code
    code_old = code_is ∙ code_half old old_octets i zone_old old_is

    code_new : other ≡ (zone_at new j).code
    code_new = other_is ∙ code_half new new_octets j zone_new new_is

    low : (not (eqb was code) || not (eqb is other)) && not (eqb was is) ≡ true → 1 ≤ next
    low = turn_low checked_old checked_new w more code_old code_new

    -- the ends are taken from them too, and the rest is as the loop has it
    turned : {p q end i' j' first' listed' : ℕ} {out' : List ℕ} → p ≡ zone_old % halfword_numbers → q ≡ zone_new % halfword_numbers
        → end ≡ min p q → i' ≡ pick (eqb p end) (i + zone_size) i → j' ≡ pick (eqb q end) (j + zone_size) j
        → first' ≡ pick (not (eqb was code) || not (eqb is other)) next first
        → sheet (difference_size * listed') out'
        ≡ listing (one_if ((not (eqb was code) || not (eqb is other)) && not (eqb was is)) elevation azimuth first next was is)
        (sheet (difference_size * listed) out)
        → (next < end + 1) × (end ≤ last_kilometre)
        × Walking old new elevation azimuth count out₀ out' i' j' (end + 1) first' code other listed'
    turned p_is q_is end_is i_is j_is f e =
        walking-next checked_old checked_new w more code_old code_new (p_is ∙ end_half old old_octets i zone_old old_is)
        (q_is ∙ end_half new new_octets j zone_new new_is) end_is i_is j_is f e

pub four_at-requires : goal.four_at-requires
four_at-requires c = first_there c.args.old.now c.requires.0

pub four_at-requires-2 : goal.four_at-requires-2
four_at-requires-2 c = first_there c.args.new.now c.requires.1

pub loop-open-init : goal.loop-open-init
loop-open-init c =
    let old_octets : Octets c.args.old.now = λ k. (c.type_inv.old k).fits in
    let new_octets : Octets c.args.new.now = λ k. (c.type_inv.new k).fits in (
      omega arith,
      omega arith,
      omega arith,
      refl,
      walking_start c.requires.0 c.requires.1
          (c.code_of.ensures ∙ code_half c.args.old.now old_octets field_size c.four_at.result c.four_at.ensures)
          (c.code_of-2.ensures ∙ code_half c.args.new.now new_octets field_size c.four_at-2.result c.four_at-2.ensures),
    )

pub four_at-zone_old-requires : goal.four_at-zone_old-requires
four_at-zone_old-requires c =
    let l = c.loop-open in
    let w = l.invariant.4 in
    facing-there c.args.old.now c.requires.0 l.i l.open.next w.left_old w.at_old c.loop-open-test.true

pub four_at-zone_new-requires : goal.four_at-zone_new-requires
four_at-zone_new-requires c =
    let l = c.loop-open in
    let w = l.invariant.4 in
    facing-there c.args.new.now c.requires.1 l.j l.open.next w.left_new w.at_new c.loop-open-test.true

pub list-listed-requires : goal.list-listed-requires
list-listed-requires c =
    let l = c.loop-open in (
      omega arith,
      low (λ k. (c.type_inv.old k).fits) (λ k. (c.type_inv.new k).fits) c.requires.0 c.requires.1
          l.invariant.4 c.loop-open-test.true c.four_at-zone_old.ensures c.four_at-zone_new.ensures c.code_of-code.ensures c.code_of-other.ensures,
    )

pub overflow_add-open : goal.overflow_add-open
overflow_add-open c =
    let l = c.loop-open in
    let t =
    turned (λ k. (c.type_inv.old k).fits) (λ k. (c.type_inv.new k).fits) c.requires.0 c.requires.1
    l.invariant.4 c.loop-open-test.true c.four_at-zone_old.ensures c.four_at-zone_new.ensures c.code_of-code.ensures c.code_of-other.ensures
    c.end_of-end_old.ensures c.end_of-end_new.ensures c.min-end.ensures c.past-i.ensures c.past-j.ensures c.begun.ensures
    c.list-listed.ensures in
    record { fits = omega (arith, t.1) }

pub loop-open-smaller : goal.loop-open-smaller
loop-open-smaller c =
    let l = c.loop-open in
    let t =
    turned (λ k. (c.type_inv.old k).fits) (λ k. (c.type_inv.new k).fits) c.requires.0 c.requires.1
    l.invariant.4 c.loop-open-test.true c.four_at-zone_old.ensures c.four_at-zone_new.ensures c.code_of-code.ensures c.code_of-other.ensures
    c.end_of-end_old.ensures c.end_of-end_new.ensures c.min-end.ensures c.past-i.ensures c.past-j.ensures c.begun.ensures
    c.list-listed.ensures in
    omega (arith, t.0)

pub loop-open-preserved : goal.loop-open-preserved
loop-open-preserved c =
    let l = c.loop-open in
    let t =
    turned (λ k. (c.type_inv.old k).fits) (λ k. (c.type_inv.new k).fits) c.requires.0 c.requires.1
    l.invariant.4 c.loop-open-test.true c.four_at-zone_old.ensures c.four_at-zone_new.ensures c.code_of-code.ensures c.code_of-other.ensures
    c.end_of-end_old.ensures c.end_of-end_new.ensures c.min-end.ensures c.past-i.ensures c.past-j.ensures c.begun.ensures
    c.list-listed.ensures in
    let w = t.2 in
    let end = c.min-end.result in (
      facing-place c.args.old.now c.requires.0 c.past-i.result (end + 1) w.left_old w.at_old,
      facing-place c.args.new.now c.requires.1 c.past-j.result (end + 1) w.left_new w.at_new,
      omega (arith, t.1),
      c.list-listed.auto.out ∙ l.invariant.3,
      w,
    )

pub returns : goal.returns
returns c = c.list.ensures ∙ walking-done c.requires.0 c.requires.1 c.loop-open.invariant.4 c.loop-open-test.false
