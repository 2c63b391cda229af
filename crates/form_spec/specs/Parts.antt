-- Parts of a body in a row, repeated a counted number of times. The bytes of each part say how long it is.
use Rattle.std.specs.Prelude.{ℕ, zero, suc, ◌+◌, List, [], ◌∷◌, ◌++◌, drop}
use Rattle.wire.specs.Checks.{Check}
use Rattle.wire.specs.Tables.{Field}

-- a part at the start of some bytes: how many it takes, its checks, and its contents
pub record Part (A : Type 0) : Type 0 where
  pub size : List ℕ → ℕ
  pub checks : List ℕ → List Check
  pub read : List ℕ → A

-- the same for n such parts in a row
unfoldable pub run_size : {A : Type 0} → Part A → ℕ → List ℕ → ℕ
run_size part zero b = 0
run_size part (suc n) b = part.size b + run_size part n (drop (part.size b) b)

unfoldable pub run_checks : {A : Type 0} → Part A → ℕ → List ℕ → List Check
run_checks part zero b = []
run_checks part (suc n) b = part.checks b ++ run_checks part n (drop (part.size b) b)

unfoldable pub run_in : {A : Type 0} → Part A → ℕ → List ℕ → List A
run_in part zero b = []
run_in part (suc n) b = part.read b ∷ run_in part n (drop (part.size b) b)

-- and their fields, one table after the other
abbrev pub fields_of : {A : Type 0} → (A → List Field) → List A → List Field
fields_of fields [] = []
fields_of fields (x ∷ xs) = fields x ++ fields_of fields xs
