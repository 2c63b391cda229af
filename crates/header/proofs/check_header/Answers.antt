use mathlib.Core.Path.{refl}
use Rattle.header.proofs.HeaderLaws.{refusal_by}
use Rattle.wire.proofs.TestLaws.{tests}
use borrow.Author.Rules.{rules}
use Rattle.header.proofs.check_header.Goals as goal

pub returns-then-long-lt-HEADER : goal.returns-then-long-lt-HEADER
returns-then-long-lt-HEADER c = refusal_by _ _ _ refl _ (search (rules, tests))

pub returns-then-breaks_form : goal.returns-then-breaks_form
returns-then-breaks_form c = refusal_by _ _ _ refl _ (search (rules, tests))

pub returns-then-breaks_type : goal.returns-then-breaks_type
returns-then-breaks_type c = refusal_by _ _ _ c.report-h.ensures _ (search (rules, tests))

pub returns-then-breaks_segment : goal.returns-then-breaks_segment
returns-then-breaks_segment c = refusal_by _ _ _ c.report-h.ensures _ (search (rules, tests))

pub returns-then-breaks_time : goal.returns-then-breaks_time
returns-then-breaks_time c = refusal_by _ _ _ c.report-h.ensures _ (search (rules, tests))

pub returns : goal.returns
returns c = refusal_by _ _ _ c.report-h.ensures _ (search (rules, tests))
