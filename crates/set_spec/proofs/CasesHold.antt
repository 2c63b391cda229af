-- The cases, by computation of the rule. Assumes nothing.
use mathlib.Core.Path.{refl}
use Rattle.wire.specs.Numbers.{num}
use Rattle.header.specs.Header.{stored_in, header_in}
use Rattle.frame.specs.Walk.{turns}
use Rattle.set_spec.specs.Segment.{numbered}
use Rattle.set_spec.specs.Walk.{all_seen, joined, set_of}
use Rattle.set_spec.specs.Cases.{Limits}

pub limits : Limits
unfolding num stored_in header_in numbered turns all_seen joined set_of
limits = (refl, (refl, (refl, (refl, (refl, (refl, (refl, (refl, tt))))))))
