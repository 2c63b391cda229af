-- Demand 1 of the entries that write to what was lent: any checks, then 13. Assumes nothing.
use Prim.Native.Nat.{ℕ}
use mathlib.Core.Path.{◌≡◌, refl}
use mathlib.Core.Bool.{true}
use mathlib.Core.List.{List, [], ◌∷◌, ◌++◌}
use lib.ListN.{length}
use Rattle.form_spec.specs.Forms.{list_checks, body_by}
use Rattle.wire.specs.Checks.{Check}
use Rattle.wire.specs.Answers.{Promise}
use Rattle.wire.specs.Refusals.{tell}
use Rattle.wire.specs.Sizes.{bytes}
use Rattle.wire.specs.declared.Bytes.{Bytes}
use Rattle.wire.specs.Writing.{tell_write, filled, room_check, then_room, wrote_all, written}
use Rattle.set_spec.specs.Walk.{set_of}
use Rattle.set.specs.Told.{set_says, tell_set}
use Rattle.salvage_spec.specs.Walk.{kept_of, skipped_of}
use Rattle.salvage_spec.specs.Salvage.{report, salvage_of}
use Rattle.salvage.specs.Told.{reported, tell_salvage}
use Rattle.writer_head.specs.declared.Given.{Given}
use Rattle.writer.specs.Writing.{frames_of, write_checks, write_of}
use Rattle.request.specs.Request.{request_form, request_written}
use Rattle.censor.specs.Censor.{censor_form, censor_written}
use Rattle.map_spec.specs.Reading.{map_checks, map_in}
use Rattle.compare_spec.specs.Differences.{differences}
use Rattle.compare_spec.specs.Comparing.{comparison, halfwords, comparison_of}
use Rattle.compare.specs.Told.{compared_as, tell_compare}
use Rattle.demands.specs.Notions.{KeptLent}
use Rattle.demands.specs.Orders.{set_checks, comparison_checks, salvage_checks}
use Rattle.demands.proofs.ByChecksLaws.{inside, inside_join, by_outcome, outcome_untouched, kept-lent}
use Rattle.demands.proofs.Inside.{list_inside, map_inside}
use Rattle.demands.proofs.Readers.{by_set, set_untouched}

module _ {T A : Type 0} (f : T → A) (g : A → T) (reads : (v : A) → f (g v) ≡ v) (back : (x : T) → g (f x) ≡ x) where
  all_kept : (ks : List Check) (v : A) (whole out : List ℕ) → inside ks ≡ true
      → KeptLent (Promise (tell f) (wrote_all ks v whole out)) (tell f) (then_room ks whole (length out)) (wrote_all ks v whole out) out
  all_kept ks v whole out i =
      let all = then_room ks whole (length out) in
      kept-lent f g reads back all (wrote_all ks v whole out) out
      (by_outcome all out v (filled whole out) (inside_join ks (room_check (length out) whole ∷ []) i refl))
      (outcome_untouched all out v (filled whole out))

written_kept : (ks : List Check) (whole out : List ℕ) → inside ks ≡ true
    → KeptLent (Promise tell_write (written ks whole out)) tell_write (then_room ks whole (length out)) (written ks whole out) out
written_kept ks whole out i = all_kept (λ (size : Bytes). size) (λ size. size) (λ v. refl) (λ x. refl) ks (bytes (length whole)) whole out i

pub write_kept : (g : Given) (body out : List ℕ)
    → KeptLent (Promise tell_write (write_of g body out)) tell_write (then_room (write_checks g body) (frames_of g body) (length out))
    (write_of g body out) out
unfolding write_of
write_kept g body out = written_kept (write_checks g body) (frames_of g body) out refl

pub request_kept : (list out : List ℕ)
    → KeptLent (Promise tell_write (request_written list out)) tell_write
    (then_room (list_checks request_form list) (body_by request_form list) (length out))
    (request_written list out) out
unfolding request_written
request_kept list out = written_kept (list_checks request_form list) (body_by request_form list) out refl

pub censor_kept : (list out : List ℕ)
    → KeptLent (Promise tell_write (censor_written list out)) tell_write (then_room (list_checks censor_form list)
    (body_by censor_form list) (length out))
    (censor_written list out) out
unfolding censor_written
censor_kept list out = written_kept (list_checks censor_form list) (body_by censor_form list) out (list_inside censor_form (λ n. refl) list)

pub compare_kept : (old new out : List ℕ)
    → KeptLent (Promise tell_compare (comparison_of old new out)) tell_compare (comparison_checks old new (length out))
    (comparison_of old new out) out
compare_kept old new out =
    all_kept compared_as
    (λ c. record { old_elevations = c.old_elevations; new_elevations = c.new_elevations; differences = c.differences }) (λ v. refl) (λ x. refl)
    (map_checks old ++ map_checks new) (comparison (map_in old) (map_in new))
    (halfwords (differences (map_in old) (map_in new))) out (inside_join (map_checks old) (map_checks new) (map_inside old) (map_inside new))

pub set_kept : (frames out : List ℕ) → KeptLent (Promise tell_set (set_of frames out)) tell_set (set_checks frames (length out))
    (set_of frames out) out
set_kept frames out = kept-lent set_says (λ s. record { header = s.header; length = s.long }) (λ v. refl) (λ x. refl) (set_checks frames (length out)) (set_of frames out) out
    (by_set frames out) (set_untouched frames out)

pub salvage_kept : (b out runs : List ℕ)
    → KeptLent (Promise tell_salvage (salvage_of b out runs)) tell_salvage (salvage_checks b out runs) (salvage_of b out runs) (out, runs)
unfolding salvage_of
salvage_kept b out runs =
    let all = salvage_checks b out runs in
    let v = report (kept_of b) (skipped_of b) in
    kept-lent reported (λ s. record { kept = s.kept; length = s.long; runs = s.runs }) (λ v. refl) (λ x. refl) all (salvage_of b out runs) (out, runs)
    (by_outcome all (out, runs) v _ refl)
    (outcome_untouched all (out, runs) v _)
