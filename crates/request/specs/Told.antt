-- What the reader's answer means: the number of refusal, or the values.
use Rattle.std.specs.Prelude.{ℕ, Result}
use Rattle.wire.specs.Answers.{Answer}
use Rattle.wire.specs.Refusals.{tell}
use Rattle.wire.specs.declared.refusal.Refusal.{Refusal}

abbrev pub tell_request : Result ℕ Refusal → Answer ℕ
tell_request = tell (λ code. code)
