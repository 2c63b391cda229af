-- What the answer at a place means: the size of the frame that stands there, or none.
use Rattle.std.specs.Prelude.{ℕ, Option, None, Some, eqb}
use Rattle.wire.specs.Checks.{pick}

-- a size that is 0 where there is none, as an option
abbrev pub size_told : ℕ → Option ℕ
size_told n = pick (eqb n 0) None (Some n)
