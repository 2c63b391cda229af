use Rattle.writer.proofs.LoopLaws.{begins, long, turn_small, turn-room, again, last-small, last-room, ends}
use borrow.Author.Rules.{rules}
use Rattle.writer.proofs.write_frames.Goals as goal

pub loop-k-init : goal.loop-k-init
loop-k-init c = search (rules, begins)

pub slice_bounds-write_frame-end : goal.slice_bounds-write_frame-end
slice_bounds-write_frame-end c = search (rules, long)

pub write_frame-requires : goal.write_frame-requires
write_frame-requires c = search (rules, turn_small, turn-room)

pub loop-k-preserved : goal.loop-k-preserved
loop-k-preserved c = search (rules, again)

pub write_frame-requires-2 : goal.write_frame-requires-2
write_frame-requires-2 c = search (rules, last-small, last-room)

pub returns : goal.returns
returns c = search (rules, ends)
