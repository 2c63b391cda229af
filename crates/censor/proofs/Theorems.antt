-- What the reader of message 8 accepts is the table, the reader and the writer undo each other, and the struct tells the answer. Assumes
-- nothing.
use Prim.Native.Nat.{ℕ, ◌+◌, ◌*◌, ◌-◌}
use native.Mathlib.Omega.{arith}
use mathlib.Core.Path.{◌≡◌, refl, sym, ap, ◌∙◌}
use mathlib.Core.Bool.{Bool, true, false, not}
use mathlib.Core.List.{List, ◌∷◌}
use lib.Dec.{eqb, ltb}
use lib.ListN.{length, replicate}
use lib.Seq.{take_at}
use Rattle.wire.specs.Numbers.{num, nums}
use Rattle.wire.specs.Answers.{Answer, refused, given, onward}
use Rattle.form_spec.specs.Forms.{outside, rows_of}
use Rattle.wire.proofs.NumberLaws.{nums-length}
use Rattle.form_spec.proofs.FormLaws.{table_fits, read_is_table, written_is_read as form_written, read_is_written as form-read}
use Rattle.censor.specs.Censor.{counts, region_fields, censor_form, count, censor_of, censor_written}
use Rattle.censor.specs.Told.{places, censor_shown, list_of}
use Rattle.censor.specs.Steps.{region_bytes, regions_broken}
use Rattle.censor.specs.Theorems.{BodyIsTable, WrittenIsRead, ReadIsWritten, StructTells}
use Rattle.censor.proofs.StepLaws.{ways, regions_wide, read_ways}

-- ---- message 8 is a form
pub body_is_table : BodyIsTable
unfolding censor_of
body_is_table body list o e = read_is_table censor_form (omega arith) body list o e

pub written_is_read : WrittenIsRead
unfolding censor_of censor_written
written_is_read list out size h e =
    form_written censor_form (omega arith) list out size
    (table_fits 2 (rows_of censor_form (count list)) list (refl, regions_wide (count list)) h) e

pub read_is_written : ReadIsWritten
unfolding censor_of censor_written
read_is_written body out list o e room = form-read censor_form (omega arith) body list out o e room

-- ---- the struct
ways_told : (n : ℕ) (l : List ℕ) → length l ≡ region_fields * n → (a h m b : Bool)
    → onward (censor_shown (ways a h m b refused (given (n ∷ l)))) (λ censor. given (list_of censor)) ≡ ways a h m b refused (given (n ∷ l))
ways_told n l k true h m b = refl
ways_told n l k false true m b = refl
ways_told n l k false false true b = refl
ways_told n l k false false false true = refl
ways_told n l k false false false false = ap (λ (x : List ℕ). given (n ∷ x)) (take_at l (replicate (places - length l) 0)
    (region_fields * n) k)

pub struct_tells : StructTells
struct_tells body =
    let n = num 2 body 0 in
    let l = nums 2 body 2 (region_fields * n) in
    let w = read_ways body n refl in
    ap (λ (x : Answer (List ℕ)). onward (censor_shown x) (λ censor. given (list_of censor))) w
    ∙ ways_told n l (nums-length 2 body 2 (region_fields * n)) (ltb (length body) 2) (outside counts n)
    (not (eqb (length body) (2 + region_bytes * n))) (regions_broken n l)
    ∙ sym w
