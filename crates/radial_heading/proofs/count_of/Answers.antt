use Rattle.wire.proofs.NumberLaws.{cut_is}
use native.Mathlib.Omega.{arith}
use Rattle.radial_spec.specs.Description.{count_place}
use Rattle.radial_heading.proofs.count_of.Goals as goal

pub returns : goal.returns
returns c =
    let args = c.args in
    let pre = c.requires in
    cut_is 2 2 args.body.now count_place 0 _ (omega arith) (omega (arith, pre)) c.fetch.ensures
