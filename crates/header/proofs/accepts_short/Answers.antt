use Rattle.header.proofs.HeaderLaws.{short_by}
use Rattle.wire.proofs.TestLaws.{tests}
use borrow.Author.Rules.{rules}
use Rattle.header.proofs.accepts_short.Goals as goal

pub returns-then-long-lt-HEADER : goal.returns-then-long-lt-HEADER
returns-then-long-lt-HEADER c = short_by _ _ _ (search (rules, tests))

pub returns-then-breaks_size : goal.returns-then-breaks_size
returns-then-breaks_size c = short_by _ _ _ (search (rules, tests))

pub returns-then-breaks_type : goal.returns-then-breaks_type
returns-then-breaks_type c = short_by _ _ _ (search (rules, tests))

pub returns-then-breaks_segment : goal.returns-then-breaks_segment
returns-then-breaks_segment c = short_by _ _ _ (search (rules, tests))

pub returns-then-breaks_time : goal.returns-then-breaks_time
returns-then-breaks_time c = short_by _ _ _ (search (rules, tests))

pub returns : goal.returns
returns c = short_by _ _ _ (search (rules, tests))
