-- What is proved of the number of a lone segment. What else is proved of headers stands in `header_form`.
use Rattle.std.specs.Prelude.{ℕ, ◌+◌, ◌≤◌, ◌<◌, ◌≡◌, false, List, length, get_or}
pub use Rattle.header.specs.Header.{count_place, number_place}
use Rattle.header.specs.Header.{number_place, stored_in, is_long, header_of}

-- ---- K1: "Where N is 1, any segment number is accepted and reported as 1; no header or set answer then depends on its two bytes."

-- a message whose N is 1: in the long form those bytes are the length, so it is not of the long form
pub record Lone (b : List ℕ) : Type 0 where
  pub short : is_long (stored_in b) ≡ false
  pub one : (stored_in b).segments ≡ 1

-- the same length, and the same bytes except the two that begin at `place`
pub record ButTwoBytes (place : ℕ) (b b' : List ℕ) : Type 0 where
  pub long : length b' ≡ length b
  pub before : (i : ℕ) → i < place → get_or b' i 0 ≡ get_or b i 0
  pub after : (i : ℕ) → place + 2 ≤ i → get_or b' i 0 ≡ get_or b i 0

-- for a message of one segment the answer does not depend on the two bytes of its number
abbrev pub LoneHeader : Type 0
LoneHeader = (b b' : List ℕ) → Lone b → ButTwoBytes number_place b b' → header_of b ≡ header_of b'
