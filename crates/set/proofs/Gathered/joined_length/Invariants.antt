use mathlib.Core.Path.{◌≡◌}
use Prim.Native.Nat.{◌*◌, ◌≤◌}
use Rattle.frame.specs.Session.{session_limit}
use Rattle.set.specs.Steps.{parts_long}
use Rattle.set.proofs.Gathered.joined_length.Given as goal

abbrev pub invariant-loop-part : goal.invariant-loop-part
invariant-loop-part l = (l.sum ≡ parts_long l.self l.part-index) × (l.sum ≤ l.part-index * session_limit.0)
