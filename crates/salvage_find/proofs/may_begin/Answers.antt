use Rattle.salvage_find.proofs.MarkLaws.{unseen}
use Rattle.salvage_find.proofs.may_begin.Goals as goal

pub loop-i-preserved : goal.loop-i-preserved
loop-i-preserved c e = unseen c.args.part.now c.loop-i.i c.loop-i.any c.loop-i.invariant e
