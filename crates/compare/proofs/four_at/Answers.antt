use Rattle.map_spec.proofs.ZoneWalk.{four-fetched}
use Rattle.compare.proofs.four_at.Goals as goal

pub returns : goal.returns
returns c =
    four-fetched c.args.part.now c.args.at c.fetch.result c.requires c.fetch.ensures
