use mathlib.Core.Path.{sym, ◌∙◌}
use Rattle.wire.specs.Refusals.{number}
use Rattle.map_check.proofs.StepLaws.{azimuth_cut, azimuth_none, azimuth-many, azimuth-short, azimuth-wrong, azimuth-right}
use Rattle.map_check.proofs.check_azimuth.Goals as goal

pub returns-then-part-lt-FIELD_SIZE : goal.returns-then-part-lt-FIELD_SIZE
returns-then-part-lt-FIELD_SIZE c = azimuth_cut c.args.part.now c.if-part-lt-FIELD_SIZE.true

pub returns-then-count-lt1 : goal.returns-then-count-lt1
returns-then-count-lt1 c =
    azimuth_none c.args.part.now c.if-part-lt-FIELD_SIZE.false c.fetch-count.result c.fetch-count.ensures
    c.if-count-lt1.true

pub returns-then-count-gt-MOST_ZONES : goal.returns-then-count-gt-MOST_ZONES
returns-then-count-gt-MOST_ZONES c =
    azimuth-many c.args.part.now c.if-part-lt-FIELD_SIZE.false c.fetch-count.result c.fetch-count.ensures
    c.if-count-lt1.false c.if-count-gt-MOST_ZONES.true

pub returns-then-part-size : goal.returns-then-part-size
returns-then-part-size c =
    let if2 = c.if-count-lt1 in
    azimuth-short c.args.part.now c.if-part-lt-FIELD_SIZE.false c.fetch-count.result c.fetch-count.ensures
    if2.false c.if-count-gt-MOST_ZONES.false c.if-part-size.true
    (number c.cut_zones.result) c.cut_zones.ensures

pub returns-then-ne : goal.returns-then-ne
returns-then-ne c =
    let if2 = c.if-count-lt1 in
    let if3 = c.if-count-gt-MOST_ZONES in
    let end = c.next_end in
    azimuth-wrong c.args.part.now c.if-part-lt-FIELD_SIZE.false c.fetch-count.result c.fetch-count.ensures
    if2.false if3.false
    c.if-part-size.false end.result end.ensures (sym c.ne.ensures ∙ c.if-ne.true)

pub returns : goal.returns
returns c =
    let if2 = c.if-count-lt1 in
    let if3 = c.if-count-gt-MOST_ZONES in
    let end = c.next_end in
    azimuth-right c.args.part.now c.if-part-lt-FIELD_SIZE.false c.fetch-count.result c.fetch-count.ensures
    if2.false if3.false
    c.if-part-size.false end.result end.ensures (sym c.ne.ensures ∙ c.if-ne.false)
