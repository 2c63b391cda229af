-- "Message 9: one halfword, 129, 130, 132, 136, 144 or 160."
use Rattle.std.specs.Prelude.{ℕ, List, [], ◌∷◌}
use Rattle.wire.specs.Numbers.{num}
use Rattle.wire.specs.Answers.{Answer, rule, Outcome}
use Rattle.form_spec.specs.Forms.{Range, one_of, row, Form, body_checks, written_by}
use Rattle.wire.specs.declared.Bytes.{Bytes}

abbrev pub permitted_codes : List ℕ
permitted_codes = 129 ∷ 130 ∷ 132 ∷ 136 ∷ 144 ∷ 160 ∷ []

abbrev pub permitted : Range
permitted = one_of permitted_codes

-- "Body 9: 23, 24.": no field is a count, and no part is repeated
abbrev pub request_form : Form
request_form = record { front = row 2 permitted ∷ []; counter = 0; rest = λ n. []; early = λ n. [] }

-- the reader's answer: the code of a body
unfoldable pub request_of : List ℕ → Answer ℕ
request_of body = rule (body_checks request_form body) (num 2 body 0)

-- "Body writers: the reader's checks, then 13.": of a list of one number
unfoldable pub request_written : List ℕ → List ℕ → Outcome (List ℕ) Bytes
request_written list out = written_by request_form list out
