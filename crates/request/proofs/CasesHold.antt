-- The cases of message 9, by computation of the rules. Assumes nothing.
use mathlib.Core.Path.{refl}
use Rattle.wire.specs.Numbers.{num}
use Rattle.form_spec.specs.Forms.{outside}
use Rattle.request.specs.Request.{request_of, request_written}
use Rattle.request.specs.Cases.{All, cases}

pub table : All cases
unfolding num outside request_of request_written
table = refl
