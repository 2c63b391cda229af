-- What the answer of a set means: the number of refusal, or segment 1's header and the length.
use Rattle.std.specs.Prelude.{Result}
use Rattle.wire.specs.Answers.{Answer}
use Rattle.wire.specs.Refusals.{tell}
use Rattle.wire.specs.declared.refusal.Refusal.{Refusal}
use Rattle.set_spec.specs.Walk.{SetSays}
use Rattle.set.specs.declared.Set.{Set}

abbrev pub set_says : Set → SetSays
set_says s = record { header = s.header; long = s.length }

abbrev pub tell_set : Result Set Refusal → Answer SetSays
tell_set = tell set_says
