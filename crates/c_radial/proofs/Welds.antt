-- What the contract of each public function says of a call, as Rattle reads it from src/ (`Learnt`): its promise, and that no two results
-- of one call meet it. Assumes nothing.
use mathlib.Core.Path.{◌≡◌, sym, ◌∙◌}
use Rattle.radial_spec.specs.Lookups.{block_of}
use Rattle.radial_spec.specs.Refusal.{radial_of}
use Rattle.c_radial.specs.Face.{block_face, radial_face}
use Rattle.c_radial.proofs.radial.Reads as radial
use Rattle.c_radial.proofs.block.Reads as Block_of

pub radial-says : (κs body r last : _) → radial.Learnt κs (body, tt) r last → r ≡ radial_face (radial_of body.now)
radial-says κs body r last l = l

pub radial-one : (κs body r r₂ last last₂ : _) → radial.Learnt κs (body, tt) r last → radial.Learnt κs (body, tt) r₂ last₂ → r ≡ r₂
radial-one κs body r r₂ last last₂ l l₂ = l ∙ sym l₂

pub block-says : (κs body block r last : _) → Block_of.Learnt κs (body, (block, tt)) r last → r ≡ block_face (block_of body.now block)
block-says κs body block r last l = l

pub block-one : (κs body block r r₂ last last₂ : _) → Block_of.Learnt κs (body, (block, tt)) r last
    → Block_of.Learnt κs (body, (block, tt)) r₂ last₂
    → r ≡ r₂
block-one κs body block r r₂ last last₂ l l₂ = l ∙ sym l₂
