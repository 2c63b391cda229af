use Prim.Native.Nat.{ℕ, ◌*◌}
use native.Mathlib.Omega.{arith}
use mathlib.Core.Path.{◌≡◌, refl, sym, ap, ◌∙◌}
use mathlib.Core.List.{List}
use lib.Dec.{leb}
use lib.ListN.{length}
use borrow.Author.Tests.{le-leb}
use Rattle.wire.proofs.ListLaws.{none-put}
use Rattle.compare_spec.specs.Comparing.{difference_size}
use Rattle.compare.specs.Steps.{list_of}
use Rattle.compare.proofs.EntryLaws.{counted, room_most}
use Rattle.compare.proofs.has_room.Goals as goal

pub returns-then-out-ge-MOST : goal.returns-then-out-ge-MOST
returns-then-out-ge-MOST c =
    let old = c.args.old.now in
    let new = c.args.new.now in
    let most = room_most c.requires (λ i. (c.type_inv.old i).fits) (λ i. (c.type_inv.new i).fits) in
    (sym (le-leb (length (list_of old new)) (length c.args.out.now) (omega (arith, most))), refl)

pub overflow_mul-result : goal.overflow_mul-result
overflow_mul-result c =
    let old = c.args.old.now in
    let new = c.args.new.now in
    let most = room_most c.requires (λ i. (c.type_inv.old i).fits) (λ i. (c.type_inv.new i).fits) in
    let w = c.compare_azimuths-count in
    let all : difference_size * w.result ≡ length (list_of old new) = counted old new w.result _ _ w.ensures in
    record { fits = omega (arith, most, all) }

pub returns : goal.returns
returns c =
    let old = c.args.old.now in
    let new = c.args.new.now in
    let w = c.compare_azimuths-count in
    let all : difference_size * w.result ≡ length (list_of old new) = counted old new w.result _ _ w.ensures in
    let out = c.args.out.now in
    let p = none-put out w.new.out w.auto.out in (
      ap (λ (l : List ℕ). leb (difference_size * w.result) (length l)) p ∙ ap (λ (k : ℕ). leb k (length out)) all,
      p,
    )
