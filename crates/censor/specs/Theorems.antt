-- What holds of every body and list of message 8: what is read is what the table says, the reader and the writer undo each other, and the
-- struct that is handed back tells the answer.
use Rattle.std.specs.Prelude.{ℕ, ◌≤◌, ◌<◌, ◌≡◌, List, length, get_or, take}
use Rattle.wire.specs.Numbers.{Octets}
use Rattle.wire.specs.Answers.{given, onward}
use Rattle.wire.specs.Writing.{wrote}
use Rattle.wire.specs.declared.Bytes.{Bytes}
use Rattle.censor.specs.Censor.{body_of, censor_of, censor_written}
use Rattle.censor.specs.Told.{censor_shown, list_of}

-- every number of the list is a halfword
abbrev pub Halfwords : List ℕ → Type 0
Halfwords list = (i : ℕ) → get_or list i 0 < 65536

-- "What is read is what the interface document defines": an accepted body is the table of the numbers that are reported, the count first
abbrev pub BodyIsTable : Type 0
BodyIsTable = (body list : List ℕ) → Octets body → censor_of body ≡ given list → body ≡ body_of list

-- the reader accepts what the writer wrote, and reports the same numbers
abbrev pub WrittenIsRead : Type 0
WrittenIsRead = (list out : List ℕ) (size : Bytes) → Halfwords list → (censor_written list out).answer ≡ given size
    → censor_of (take size.0 (censor_written list out).output) ≡ given list

-- writing the numbers that the reader reports gives the same body
abbrev pub ReadIsWritten : Type 0
ReadIsWritten = (body out list : List ℕ) → Octets body → censor_of body ≡ given list → length body ≤ length out
    → censor_written list out ≡ wrote body out

-- the struct holds the whole answer
abbrev pub StructTells : Type 0
StructTells = (body : List ℕ) → onward (censor_shown (censor_of body)) (λ censor. given (list_of censor)) ≡ censor_of body
