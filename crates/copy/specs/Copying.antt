-- One part copied onto another.
use Rattle.std.specs.Prelude.{ℕ, List, eqb, length}
use Rattle.wire.specs.Checks.{pick}

-- copies one part onto another of the same length; does nothing if the lengths differ
unfoldable pub copied : List ℕ → List ℕ → List ℕ
copied from to = pick (eqb (length from) (length to)) from to
