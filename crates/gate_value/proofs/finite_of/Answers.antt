use Rattle.gate_value.proofs.FloatLaws.{finite_no_nan}
use Rattle.gate_value.proofs.finite_of.Goals as goal

pub float_from_bits-result : goal.float_from_bits-result
float_from_bits-result c = rw (finite_no_nan c.args.bits c.requires) tt
