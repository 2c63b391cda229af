-- The cases of message 8, by computation of the rules. Assumes nothing.
use mathlib.Core.Path.{refl}
use Rattle.wire.specs.Numbers.{num}
use Rattle.form_spec.specs.Forms.{outside}
use Rattle.censor.specs.Censor.{censor_of, censor_written}
use Rattle.censor.specs.Cases.{All, cases}

pub table : All cases
unfolding num outside censor_of censor_written
table = refl
