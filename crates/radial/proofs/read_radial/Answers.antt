use Rattle.radial_heading.proofs.HeadingLaws.{heading_given}
use Rattle.radial.proofs.HeadLaws.{read}
use Rattle.radial.proofs.read_radial.Goals as goal

pub invariant_of-accepted : goal.invariant_of-accepted
invariant_of-accepted c = record { accepted = heading_given _ _ c.in_ok-read.ensures }

pub returns : goal.returns
returns c =
    let e = c.in_ok-read.ensures in
    read c.args.body.now (heading_given _ _ e) _ _ _ _ _ e c.span_of-volume.ensures c.span_of-elevation.ensures c.span_of-radial.ensures
    c.all_heads-heads.ensures
