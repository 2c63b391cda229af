-- What holds of every body and list of message 9: what is read is what the table says, and the reader and the writer undo each other.
use Rattle.std.specs.Prelude.{ℕ, ◌≤◌, ◌≡◌, List, [], ◌∷◌, length, get_or, take}
use Rattle.wire.specs.Numbers.{Octets}
use Rattle.form_spec.specs.Forms.{body_by}
use Rattle.wire.specs.Answers.{given}
use Rattle.wire.specs.Writing.{wrote}
use Rattle.wire.specs.declared.Bytes.{Bytes}
use Rattle.request.specs.Request.{request_form, request_of, request_written}

-- "What is read is what the interface document defines": an accepted body is the table of the code that is reported
abbrev pub BodyIsTable : Type 0
BodyIsTable = (body : List ℕ) (code : ℕ) → Octets body → request_of body ≡ given code → body ≡ body_by request_form (code ∷ [])

-- the reader accepts what the writer wrote of a list, and reports the list's one number
abbrev pub WrittenIsRead : Type 0
WrittenIsRead = (list out : List ℕ) (size : Bytes) → (request_written list out).answer ≡ given size
    → (list ≡ get_or list 0 0 ∷ []) × (request_of (take size.0 (request_written list out).output) ≡ given (get_or list 0 0))

-- writing the code that the reader reports gives the same body
abbrev pub ReadIsWritten : Type 0
ReadIsWritten = (body out : List ℕ) (code : ℕ) → Octets body → request_of body ≡ given code → length body ≤ length out
    → request_written (code ∷ []) out ≡ wrote body out
