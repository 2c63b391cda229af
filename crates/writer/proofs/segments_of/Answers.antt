use native.Mathlib.Omega.{arith}
use Rattle.writer.proofs.CutLaws.{count_cut}
use Rattle.writer.proofs.segments_of.Goals as goal

pub returns : goal.returns
returns c = omega (arith, count_cut c.args.kind c.args.body.now c.if-kind-eq-RADIAL.false)
