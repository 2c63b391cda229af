-- What each case of an answer means: the number of refusal, or the meaning of the code.
use Rattle.std.specs.Prelude.{Result}
use Rattle.wire.specs.Answers.{Answer}
use Rattle.wire.specs.Refusals.{tell}
use Rattle.wire.specs.declared.refusal.Refusal.{Refusal}
use Rattle.gate_value.specs.declared.Gate.{Gate}
use Rattle.gate_value.specs.declared.Gate.TheVariants.{Value, BelowThreshold, RangeFolded}
use Rattle.gate_value.specs.Value.{Worth, below_threshold, range_folded, worth}

abbrev pub meaning : Gate → Worth
meaning (Value v) = worth v
meaning BelowThreshold = below_threshold
meaning RangeFolded = range_folded

abbrev pub tell_gate : Result Gate Refusal → Answer Worth
tell_gate = tell meaning
