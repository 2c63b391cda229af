-- What the contract of each public function says of a call, as Rattle reads it from src/ (`Learnt`): its promise, and that no two results
-- of one call meet it. Assumes nothing.
use mathlib.Core.Path.{◌≡◌, sym, ◌∙◌}
use Rattle.map_spec.specs.Reading.{code_of, summary_of}
use Rattle.c_map.specs.Face.{map_code_face, map_face}
use Rattle.c_map.proofs.map.Reads as map
use Rattle.c_map.proofs.map_code.Reads as map_code

pub map-says : (κs body r last : _) → map.Learnt κs (body, tt) r last → r ≡ map_face (summary_of body.now)
map-says κs body r last l = l

pub map-one : (κs body r r₂ last last₂ : _) → map.Learnt κs (body, tt) r last → map.Learnt κs (body, tt) r₂ last₂ → r ≡ r₂
map-one κs body r r₂ last last₂ l l₂ = l ∙ sym l₂

pub map_code-says : (κs body elevation azimuth kilometre r last : _)
    → map_code.Learnt κs (body, (elevation, (azimuth, (kilometre, tt)))) r last
    → r ≡ map_code_face (code_of body.now elevation azimuth kilometre)
map_code-says κs body elevation azimuth kilometre r last l = l

pub map_code-one : (κs body elevation azimuth kilometre r r₂ last last₂ : _)
    → map_code.Learnt κs (body, (elevation, (azimuth, (kilometre, tt)))) r last
    → map_code.Learnt κs (body, (elevation, (azimuth, (kilometre, tt)))) r₂ last₂ → r ≡ r₂
map_code-one κs body elevation azimuth kilometre r r₂ last last₂ l l₂ = l ∙ sym l₂
