use Rattle.wire.proofs.FloatLaws.{zero_by_zero, nan_read, no_nan}
use mathlib.Core.Path.{sym, ◌∙◌}
use Rattle.wire.proofs.float_of.Goals as goal

pub float_from_bits-result : goal.float_from_bits-result
float_from_bits-result c = rw (no_nan _ c.if-bits-le-INFINITE.true) tt

pub returns-else-bits-le-INFINITE : goal.returns-else-bits-le-INFINITE
returns-else-bits-le-INFINITE c = zero_by_zero ∙ sym (nan_read _ c.if-bits-le-INFINITE.false)
