-- What the contract of each public function says of a call, as Rattle reads it from src/ (`Learnt`): its promise, and that no two results
-- of one call meet it. Assumes nothing.
use Prim.Native.Nat.{◌/◌, ◌%◌}
use mathlib.Core.Path.{◌≡◌, sym, ◌∙◌}
use Rattle.map_spec.specs.Map.{halfword_numbers}
use Rattle.map_zone.proofs.code_of.Reads as code_of_lem
use Rattle.map_zone.proofs.end_of.Reads as end_of_lem

pub code_of-says : (κs zone r last : _) → code_of_lem.Learnt κs (zone, tt) r last → r ≡ zone / halfword_numbers
code_of-says κs zone r last l = l

pub code_of-one : (κs zone r r₂ last last₂ : _) → code_of_lem.Learnt κs (zone, tt) r last → code_of_lem.Learnt κs (zone, tt) r₂ last₂ → r ≡ r₂
code_of-one κs zone r r₂ last last₂ l l₂ = l ∙ sym l₂

pub end_of-says : (κs zone r last : _) → end_of_lem.Learnt κs (zone, tt) r last → r ≡ zone % halfword_numbers
end_of-says κs zone r last l = l

pub end_of-one : (κs zone r r₂ last last₂ : _) → end_of_lem.Learnt κs (zone, tt) r last → end_of_lem.Learnt κs (zone, tt) r₂ last₂ → r ≡ r₂
end_of-one κs zone r r₂ last last₂ l l₂ = l ∙ sym l₂
