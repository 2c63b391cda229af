-- The cases in both orders, by computation of the rule. Assumes nothing.
use mathlib.Core.Path.{refl}
use mathlib.Core.List.{flatten}
use Rattle.wire.specs.Numbers.{num}
use Rattle.header.specs.Header.{stored_in, header_in}
use Rattle.frame.specs.Walk.{turns}
use Rattle.set_spec.specs.Segment.{numbered}
use Rattle.set_spec.specs.Walk.{all_seen, joined, set_of}
use Rattle.set_order.specs.Cases.{InBothOrders, LongTaken}

pub in_both_orders : InBothOrders
unfolding num stored_in header_in numbered turns all_seen joined set_of flatten
in_both_orders = refl

pub long-taken : LongTaken
unfolding num stored_in header_in numbered turns all_seen joined set_of
long-taken = refl
