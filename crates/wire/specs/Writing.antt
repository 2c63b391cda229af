-- "An accepted call that writes fills its output from the start, reports the length and leaves the rest."
use Rattle.std.specs.Prelude.{ℕ, List, [], ◌∷◌, ◌++◌, ltb, length, drop, Result}
use Rattle.wire.specs.Checks.{Check, check}
use Rattle.wire.specs.Answers.{Answer, given, Outcome, outcome}
use Rattle.wire.specs.Sizes.{bytes}
use Rattle.wire.specs.declared.Bytes.{Bytes}
use Rattle.wire.specs.declared.refusal.Refusal.{Refusal}
use Rattle.wire.specs.Refusals.{tell}

-- the contents of an output that held `out`, after `body` was stored at its start
abbrev pub filled : List ℕ → List ℕ → List ℕ
filled body out = body ++ drop (length body) out

-- the outcome of a call that writes `body`
abbrev pub wrote : List ℕ → List ℕ → Outcome (List ℕ) Bytes
wrote body out = record { answer = given (bytes (length body)); output = filled body out }

-- 13: "output too small for the whole answer", by the output's length
abbrev pub room_check : ℕ → List ℕ → Check
room_check room whole = check 13 (ltb room (length whole))

-- the checks of an entry that writes: any list of checks, "then 13"
abbrev pub then_room : List Check → List ℕ → ℕ → List Check
then_room ks whole room = ks ++ (room_check room whole ∷ [])

-- the outcome: v is reported and the whole answer written, or a refusal and nothing written
abbrev pub wrote_all : {A : Type 0} → List Check → A → List ℕ → List ℕ → Outcome (List ℕ) A
wrote_all ks v whole out = outcome (then_room ks whole (length out)) out v (filled whole out)

-- a writer reports the length of what it wrote
abbrev pub written : List Check → List ℕ → List ℕ → Outcome (List ℕ) Bytes
written ks body out = wrote_all ks (bytes (length body)) body out

-- the length that a writer reports, or the number of its refusal
abbrev pub tell_write : Result Bytes Refusal → Answer Bytes
tell_write = tell (λ size. size)
