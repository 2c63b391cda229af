use native.Mathlib.Omega.{arith}
use Rattle.writer.proofs.EntryLaws.{body_small, few_segments, has_room, type-refused, time-refused, odd_refused, long-refused, room-refused, wrote-frames}
use borrow.Author.Rules.{rules}
use Rattle.writer.proofs.write_message.Goals as goal

pub overflow_mul-whole : goal.overflow_mul-whole
overflow_mul-whole c = grind (arith, body_small, few_segments)

pub overflow_add-whole : goal.overflow_add-whole
overflow_add-whole c = grind (arith, body_small, few_segments)

pub overflow_cast-n : goal.overflow_cast-n
overflow_cast-n c = grind (arith, few_segments)

pub write_frames-requires : goal.write_frames-requires
write_frames-requires c = search (rules, body_small, has_room)

pub overflow_cast-result : goal.overflow_cast-result
overflow_cast-result c = grind (arith, body_small, few_segments)

pub returns-then-breaks_type : goal.returns-then-breaks_type
returns-then-breaks_type c = search type-refused

pub returns-then-breaks_time : goal.returns-then-breaks_time
returns-then-breaks_time c = search time-refused

pub returns-then-body-ne0 : goal.returns-then-body-ne0
returns-then-body-ne0 c = search odd_refused

pub returns-then-longest_of-body : goal.returns-then-longest_of-body
returns-then-longest_of-body c = search long-refused

pub returns-then-out-whole : goal.returns-then-out-whole
returns-then-out-whole c = search room-refused

pub returns : goal.returns
returns c = search wrote-frames
