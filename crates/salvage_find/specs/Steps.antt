-- What the private functions promise each other. No public promise cites this file.
use Rattle.std.specs.Prelude.{ℕ, ◌≤◌, ◌<◌, ◌≡◌, true, false, List, length, drop}
use Rattle.wire.specs.Numbers.{num}
use Rattle.frame.specs.Session.{data_kind}
use Rattle.salvage_spec.specs.Walk.{stands}

-- how many places are tested together, and how many bytes the 32-bit number at the last of them reaches past it
abbrev pub block : ℕ
block = 32

abbrev pub beyond : ℕ
beyond = 3

-- no data frame's kind stands at one of the first `count` places
abbrev pub Unmarked : ℕ → List ℕ → Type 0
Unmarked count part = (i : ℕ) → i < count → num 4 part i ≡ data_kind → ⊥

-- no frame that passes begins from one place to before another
pub record NoneFrom (b : List ℕ) (from to : ℕ) : Type 0 where
  pub forward : from ≤ to
  pub within : to ≤ length b
  pub none : (i : ℕ) → from ≤ i → i < to → stands (drop i b) ≡ false

-- the first place from `from` on where a frame that passes begins, or the end
pub record FoundFrom (b : List ℕ) (from to : ℕ) : Type 0 where
  pub before : NoneFrom b from to
  pub stood : to < length b → stands (drop to b) ≡ true
