-- Properties of each element of a list, and of exactly one value.
use Rattle.std.specs.Prelude.{◌≡◌, List, [], ◌∷◌}

-- every element has the property
abbrev pub Each : {A : Type 0} → (A → Type 0) → List A → Type 0
Each P [] = Unit {0}
Each P (x ∷ xs) = P x × Each P xs

-- exactly one value has the property
pub record One {R : Type 0} (P : R → Type 0) : Type 0 where
  pub the : R
  pub meets : P the
  pub only : (r : R) → P r → r ≡ the
