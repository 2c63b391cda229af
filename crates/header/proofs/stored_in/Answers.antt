use Rattle.header.specs.Header.{stored_in}
use Rattle.wire.specs.Numbers.{num}
use Rattle.header.proofs.HeaderLaws.{stored_short, stored-fetched}
use borrow.Author.Rules.{rules}
use Rattle.header.proofs.stored_in.Goals as goal

pub returns-then-message-lt-HEADER : goal.returns-then-message-lt-HEADER
unfolding stored_in num
returns-then-message-lt-HEADER c = search (rules, stored_short)

pub returns : goal.returns
returns c = search (rules, stored-fetched)
