use Rattle.radial_check.proofs.BitLaws.{Seeking, named}
use Rattle.radial_check.proofs.bit_of.Given as goal

abbrev pub invariant-loop-known : goal.invariant-loop-known
invariant-loop-known l = Seeking named l.name l.bit l.known-index
