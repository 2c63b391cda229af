use Rattle.wire.proofs.ExitLaws.{exits}
use Rattle.radial.proofs.BlockLaws.{block_refused}
use Rattle.radial.proofs.block.Goals as goal

pub returns-in_err-accept : goal.returns-in_err-accept
returns-in_err-accept c = rw (exits _ _ c.from_residual.ensures) (block_refused _ c.args.k _ c.in_err-accept.ensures.number)
