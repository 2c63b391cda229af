use Rattle.radial.proofs.PartLaws.{head_cut}
use Rattle.radial.proofs.head_at.Goals as goal

pub returns : goal.returns
returns c = head_cut c.args.body.now c.args.place _ c.requires c.head_of.ensures
