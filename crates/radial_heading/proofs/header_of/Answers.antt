use mathlib.Core.Path.{◌≡◌, sym, ◌∙◌}
use native.Mathlib.Omega.{arith}
use lib.ListN.{length, take}
use lib.Seq.{length-take-le}
use Rattle.wire.proofs.NumberLaws.{number_is}
use Rattle.radial_spec.specs.Description.{header_size}
use Rattle.radial_heading.proofs.HeadingLaws.{header_there}
use Rattle.radial_heading.proofs.header_of.Goals as goal

pub returns : goal.returns
returns c =
    let b = c.args.body.now in
    let long : length (take header_size b) ≡ header_size = length-take-le header_size b c.requires in
    (λ i.
    record {
      station = sym (number_is 4 _ 0 _ c.fetch.ensures (omega (arith, long))) i;
      time = sym (number_is 4 _ 4 _ c.fetch-2.ensures (omega (arith, long))) i;
      date = sym (number_is 2 _ 8 _ c.fetch-3.ensures (omega (arith, long))) i;
      azimuth_number = sym (number_is 2 _ 10 _ c.fetch-4.ensures (omega (arith, long))) i;
      azimuth = sym (number_is 4 _ 12 _ c.fetch-5.ensures (omega (arith, long))) i;
      size = sym (number_is 2 _ 18 _ c.fetch-6.ensures (omega (arith, long))) i;
      spacing = sym (number_is 1 _ 20 _ c.fetch-7.ensures (omega (arith, long))) i;
      status = sym (number_is 1 _ 21 _ c.fetch-8.ensures (omega (arith, long))) i;
      elevation_number = sym (number_is 1 _ 22 _ c.fetch-9.ensures (omega (arith, long))) i;
      sector = sym (number_is 1 _ 23 _ c.fetch-10.ensures (omega (arith, long))) i;
      elevation = sym (number_is 4 _ 24 _ c.fetch-11.ensures (omega (arith, long))) i;
      spot = sym (number_is 1 _ 28 _ c.fetch-12.ensures (omega (arith, long))) i;
      indexing = sym (number_is 1 _ 29 _ c.fetch-13.ensures (omega (arith, long))) i;
    })
    ∙ header_there b
