use Rattle.wire.proofs.refusal.Refusal.number.Goals as goal
use Rattle.wire.proofs.RefusalLaws.{tag_is}

pub returns : goal.returns
returns c = tag_is c.args.self
