use mathlib.Core.Path.{sym}
use Rattle.wire.proofs.NumberLaws.{num-one}
use Rattle.wire.proofs.number.U8Number.whole.Goals as goal

pub returns : goal.returns
returns c = sym (num-one _ _)
