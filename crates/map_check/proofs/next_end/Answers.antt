use mathlib.Core.Path.{sym, ◌∙◌}
use Rattle.wire.specs.Numbers.{Octets}
use Rattle.map_check.proofs.RisingLaws.{rising_start, rising-done, rising-broken, rising-on}
use Rattle.map_check.proofs.next_end.Goals as goal

pub loop-at-init : goal.loop-at-init
loop-at-init c =
    let octets : Octets c.args.zones.now = λ i. (c.type_inv.zones i).fits in
    rising_start _ octets _ c.fetch-zone.ensures c.if-zones-lt-ZONE_SIZE.false

pub returns-then-zone_broken : goal.returns-then-zone_broken
returns-then-zone_broken c =
    let octets : Octets c.args.zones.now = λ i. (c.type_inv.zones i).fits in
    rising-broken _ octets _ _ _ c.loop-at.invariant (sym c.zone_broken.ensures ∙ c.if-zone_broken.true)

pub loop-at-preserved : goal.loop-at-preserved
loop-at-preserved c =
    let octets : Octets c.args.zones.now = λ i. (c.type_inv.zones i).fits in
    rising-on _ octets _ _ _ c.loop-at.invariant _ c.end_of.ensures
    (sym c.zone_broken.ensures ∙ c.if-zone_broken.false) _ c.fetch-zone-in-loop-at.ensures c.loop-at-test.true

pub returns-then-zone_broken-2 : goal.returns-then-zone_broken-2
returns-then-zone_broken-2 c =
    let octets : Octets c.args.zones.now = λ i. (c.type_inv.zones i).fits in
    rising-broken _ octets _ _ _ c.loop-at.invariant (sym c.zone_broken-2.ensures ∙ c.if-zone_broken-2.true)

pub returns : goal.returns
returns c =
    let octets : Octets c.args.zones.now = λ i. (c.type_inv.zones i).fits in
    rising-done _ octets _ _ _ c.loop-at.invariant _ c.end_of-2.ensures
    (sym c.zone_broken-2.ensures ∙ c.if-zone_broken-2.false) c.loop-at-test.false
