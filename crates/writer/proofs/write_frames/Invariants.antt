use Rattle.writer.proofs.LoopLaws.{Writing}
use Rattle.writer.proofs.write_frames.Given as goal

-- Each turn writes one frame more, and the last part follows.
abbrev pub invariant-loop-k : goal.invariant-loop-k
invariant-loop-k l = Writing l.given l.n l.body l.initial.out l.out l.k l.start l.place
