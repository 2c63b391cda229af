-- What the answer of a reading means: the number of refusal, or the header.
use Rattle.std.specs.Prelude.{Result}
use Rattle.wire.specs.Answers.{Answer}
use Rattle.wire.specs.Refusals.{tell}
use Rattle.wire.specs.declared.refusal.Refusal.{Refusal}
use Rattle.header.specs.declared.Header.{Header}

abbrev pub tell_header : Result Header Refusal → Answer Header
tell_header = tell (λ h. h)
