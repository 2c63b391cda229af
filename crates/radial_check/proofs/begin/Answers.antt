use Rattle.radial_check.proofs.StepLaws.{compressed, short-radial, long-radial, few-blocks, many-blocks, good_start}
use Rattle.radial_check.proofs.begin.Goals as goal

pub returns-then-fetch-ne0 : goal.returns-then-fetch-ne0
returns-then-fetch-ne0 c =
    compressed c.args.body.now c.if-body-lt-HEADER_SIZE.false _ c.fetch.ensures c.if-fetch-ne0.true

pub returns-then-size-lt-HEADER_SIZE : goal.returns-then-size-lt-HEADER_SIZE
returns-then-size-lt-HEADER_SIZE c =
    short-radial c.args.body.now c.if-body-lt-HEADER_SIZE.false _ c.fetch.ensures c.if-fetch-ne0.false _
    c.fetch-size.ensures c.if-size-lt-HEADER_SIZE.true

pub returns-then-body-size : goal.returns-then-body-size
returns-then-body-size c =
    long-radial c.args.body.now c.if-body-lt-HEADER_SIZE.false _ c.fetch.ensures c.if-fetch-ne0.false _
    c.fetch-size.ensures c.if-size-lt-HEADER_SIZE.false c.if-body-size.true

pub returns-then-count-lt-FEWEST_BLOCKS : goal.returns-then-count-lt-FEWEST_BLOCKS
returns-then-count-lt-FEWEST_BLOCKS c =
    few-blocks c.args.body.now c.if-body-lt-HEADER_SIZE.false _ c.fetch.ensures c.if-fetch-ne0.false _
    c.fetch-size.ensures c.if-size-lt-HEADER_SIZE.false c.if-body-size.false _
    c.fetch-count.ensures c.if-count-lt-FEWEST_BLOCKS.true

pub returns-then-count-gt-MOST_BLOCKS : goal.returns-then-count-gt-MOST_BLOCKS
returns-then-count-gt-MOST_BLOCKS c =
    many-blocks c.args.body.now c.if-body-lt-HEADER_SIZE.false _ c.fetch.ensures c.if-fetch-ne0.false _
    c.fetch-size.ensures c.if-size-lt-HEADER_SIZE.false c.if-body-size.false _
    c.fetch-count.ensures c.if-count-lt-FEWEST_BLOCKS.false c.if-count-gt-MOST_BLOCKS.true

pub returns : goal.returns
returns c =
    good_start c.args.body.now c.if-body-lt-HEADER_SIZE.false _ c.fetch.ensures c.if-fetch-ne0.false _
    c.fetch-size.ensures c.if-size-lt-HEADER_SIZE.false c.if-body-size.false _
    c.fetch-count.ensures c.if-count-lt-FEWEST_BLOCKS.false c.if-count-gt-MOST_BLOCKS.false
