-- What the reader of message 9 accepts is the table, and the reader and the writer undo each other. Assumes nothing.
use Prim.Native.Nat.{ℕ, ◌^◌, ◌<◌}
use native.Mathlib.Omega.{arith}
use mathlib.Core.Path.{◌≡◌, refl, ap, ◌∙◌}
use mathlib.Core.Bool.{Bool, true, false}
use mathlib.Core.List.{List, [], ◌∷◌}
use borrow.Author.Tests.{eqb-true, not-false}
use lib.Dec.{eqb}
use lib.ListN.{length, get_or}
use Rattle.wire.specs.Properties.{Each}
use Rattle.wire.specs.Numbers.{num}
use Rattle.wire.specs.Checks.{pick, among}
use Rattle.wire.specs.Answers.{refused, given}
use Rattle.form_spec.specs.Forms.{outside, body_checks, read_by, list_checks, body_by}
use Rattle.wire.proofs.CheckLaws.{never, decide-none}
use Rattle.wire.proofs.AnswerLaws.{rule_given}
use Rattle.wire.proofs.WriteLaws.{accepted}
use Rattle.form_spec.proofs.FormLaws.{read_is_table, body-is-read, read_is_written as form-read-is-written}
use Rattle.request.specs.Request.{permitted_codes, permitted, request_form, request_of, request_written}
use Rattle.request.specs.Theorems.{BodyIsTable, WrittenIsRead, ReadIsWritten}

-- if all numbers of a list have a property, each one among them has it
among_is : (P : ℕ → Type 0) (x : ℕ) (l : List ℕ) → Each P l → among x l ≡ true → P x
among_is P x [] a e = never (cc e)
among_is P x (y ∷ ys) a e = go (eqb x y) refl e (λ q. among_is P x ys a.1 q)
  where
    go : (t : Bool) → eqb x y ≡ t → pick t true (among x ys) ≡ true → (among x ys ≡ true → P x) → P x
    go true p q later = rw (eqb-true x y p) a.0
    go false p q later = later q

permitted_small : (code : ℕ) → outside permitted code ≡ false → code < 256 ^ 2
unfolding outside
permitted_small code p =
    among_is (λ n. n < 256 ^ 2) code permitted_codes
    (omega arith, (omega arith, (omega arith, (omega arith, (omega arith, (omega arith, tt)))))) (not-false _ p)

-- the answer as a list of one number
one-read : (body : List ℕ) (code : ℕ) → request_of body ≡ given code → read_by request_form body ≡ given (code ∷ [])
unfolding request_of
one-read body code e =
    let p = rule_given (body_checks request_form body) (num 2 body 0) code e in
    decide-none (body_checks request_form body) refused (given (num 2 body 0 ∷ [])) p.0 ∙ ap (λ (n : ℕ). given (n ∷ [])) p.1

read_one : (body : List ℕ) (code : ℕ) → read_by request_form body ≡ given (code ∷ []) → request_of body ≡ given code
unfolding request_of
read_one body code e =
    let p = rule_given (body_checks request_form body) (num 2 body 0 ∷ []) (code ∷ []) e in
    decide-none (body_checks request_form body) refused (given (num 2 body 0)) p.0 ∙ cc p.1

pub body_is_table : BodyIsTable
body_is_table body code o e = read_is_table request_form (omega arith) body (code ∷ []) o (one-read body code e)

-- one number is the whole list
one_number : (list : List ℕ) → length list ≡ 1 → list ≡ get_or list 0 0 ∷ []
one_number [] h = absurd (omega arith)
one_number (x ∷ []) h = refl
one_number (x ∷ y ∷ list) h = absurd (omega arith)

pub written_is_read : WrittenIsRead
unfolding request_written
written_is_read list out size e =
    let a = accepted (list_checks request_form list) (body_by request_form list) out size e in
    let one : list ≡ get_or list 0 0 ∷ [] = one_number list (eqb-true (length list) 1 (not-false _ a.0.1.0)) in (
      one,
      ap request_of a.1
          ∙ read_one (body_by request_form list) (get_or list 0 0)
          (body-is-read request_form (omega arith) list a.0 (permitted_small (get_or list 0 0) a.0.1.1.0, tt) ∙ ap given one),
    )

pub read_is_written : ReadIsWritten
unfolding request_written
read_is_written body out code o e room = form-read-is-written request_form (omega arith) body (code ∷ []) out o (one-read body code e) room
