use mathlib.Core.Path.{refl}
use Rattle.std.specs.Prelude.{Err}
use Rattle.std.proofs.lemmas.Result.{err_from_is_err_and}
use Rattle.wire.proofs.AnswerLaws.{kept}
use Rattle.compare_spec.specs.Comparing.{comparison_of}
use Rattle.compare.specs.Told.{tell_compare}
use Rattle.compare.proofs.EntryLaws.{map-counts, first-refused, second_refused}
use Rattle.compare.proofs.compare.Goals as goal

pub returns-in_err-older : goal.returns-in_err-older
returns-in_err-older c =
    let p = err_from_is_err_and c.from_residual.result c.from_residual.ensures.1 in
    let a = c.args in
    rw (p.1, p.2)
    (kept tell_compare (comparison_of a.old.now a.new.now a.out.now) (Err c.in_err-older.field-0.0) _ a.out.now
    (first-refused a.old.now a.new.now a.out.now _ c.in_err-older.ensures) refl)

pub returns-in_err-newer : goal.returns-in_err-newer
returns-in_err-newer c =
    let p = err_from_is_err_and c.from_residual-in_err-newer.result c.from_residual-in_err-newer.ensures.1 in
    let a = c.args in
    let counts = map-counts a.old.now _ c.in_ok-older.ensures in
    rw (p.1, p.2)
    (kept tell_compare (comparison_of a.old.now a.new.now a.out.now) (Err c.in_err-newer.field-0.0) _ a.out.now
    (second_refused a.old.now a.new.now a.out.now counts.checked _ c.in_err-newer.ensures) refl)

pub compare_checked-requires : goal.compare_checked-requires
compare_checked-requires c =
    (map-counts c.args.old.now _ c.in_ok-older.ensures, map-counts c.args.new.now _ c.in_ok-newer.ensures)
