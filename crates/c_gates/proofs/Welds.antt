-- What the contract of each public function says of a call, as Rattle reads it from src/ (`Learnt`): its promise, and that no two results
-- of one call meet it. Assumes nothing.
use mathlib.Core.Path.{◌≡◌, sym, ◌∙◌}
use Rattle.gate_value.specs.Value.{gate_of, value_of}
use Rattle.radial_spec.specs.Lookups.{moment_of}
use Rattle.c_gates.specs.Face.{gates_face, worth_face}
use Rattle.c_gates.proofs.gates.Reads as gates
use Rattle.c_gates.proofs.gate.Reads as gate_of_reads
use Rattle.c_gates.proofs.value.Reads as value

pub gates-says : (κs body name r last : _) → gates.Learnt κs (body, (name, tt)) r last → r ≡ gates_face (moment_of body.now name)
gates-says κs body name r last l = l

pub gates-one : (κs body name r r₂ last last₂ : _) → gates.Learnt κs (body, (name, tt)) r last
    → gates.Learnt κs (body, (name, tt)) r₂ last₂ → r ≡ r₂
gates-one κs body name r r₂ last last₂ l l₂ = l ∙ sym l₂

pub gate-says : (κs body name gate r last : _) → gate_of_reads.Learnt κs (body, (name, (gate, tt))) r last
    → r ≡ worth_face (gate_of body.now name gate)
gate-says κs body name gate r last l = l

pub gate-one : (κs body name gate r r₂ last last₂ : _) → gate_of_reads.Learnt κs (body, (name, (gate, tt))) r last
    → gate_of_reads.Learnt κs (body, (name, (gate, tt))) r₂ last₂ → r ≡ r₂
gate-one κs body name gate r r₂ last last₂ l l₂ = l ∙ sym l₂

pub value-says : (κs code scale offset r last : _) → value.Learnt κs (code, (scale, (offset, tt))) r last
    → r ≡ worth_face (value_of code scale offset)
value-says κs code scale offset r last l = l

pub value-one : (κs code scale offset r r₂ last last₂ : _) → value.Learnt κs (code, (scale, (offset, tt))) r last
    → value.Learnt κs (code, (scale, (offset, tt))) r₂ last₂ → r ≡ r₂
value-one κs code scale offset r r₂ last last₂ l l₂ = l ∙ sym l₂
