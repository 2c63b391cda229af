-- What the contract of each public function says of a call, as Rattle reads it from src/ (`Learnt`): its promise, and that no two results
-- of one call meet it. A part is its memory, its place there and its bytes. Assumes nothing.
use Prim.Native.Nat.{ℕ}
use mathlib.Core.Path.{◌≡◌, refl, sym, ◌∙◌}
use mathlib.Core.List.{List}
use contract.Monad.{fact}
use denote.Ref.{Bor}
use Rattle.wire.specs.Numbers.{num}
use Rattle.radial_spec.specs.Lookups.{Part, gates_of}
use Rattle.radial_gates.specs.declared.LentGates.{LentGates}
use Rattle.radial_gates.specs.Told.{part_of, LiesAt, SamePart, Lent}
use Rattle.radial_gates.proofs.gates.Reads as gates
use Rattle.radial_gates.proofs.lent.Reads as lent_reads
use Rattle.radial_gates.specs.contracts.lent as lent

pub same-part : (body r r₂ : Bor (List ℕ)) (p : Part) → LiesAt body r p → LiesAt body r₂ p → SamePart r r₂
same-part body r r₂ p a b = (a.memory ∙ sym b.memory, a.place ∙ sym b.place, a.bytes ∙ sym b.bytes)

pub same-lent : (body : Bor (List ℕ)) (name : ℕ) (r r₂ : LentGates) → Lent body name r → Lent body name r₂
    → (r.number ≡ r₂.number) × (r.gates ≡ r₂.gates) × SamePart r.part r₂.part
same-lent body name r r₂ a b = (
  a.number ∙ sym b.number,
  a.gates ∙ sym b.gates,
  same-part body r.part r₂.part
      (part_of (gates_of body.now name)) a.part b.part,
)

pub gates-says : (κs body name r last : _) → gates.Learnt κs (body, (name, tt)) r last
    → LiesAt body r (part_of (gates_of body.now (num 4 name 0)))
gates-says κs body name r last l = l

pub gates-one : (κs body name r r₂ last last₂ : _) → gates.Learnt κs (body, (name, tt)) r last → gates.Learnt κs (body, (name, tt)) r₂ last₂
    → SamePart r r₂
gates-one κs body name r r₂ last last₂ l l₂ = same-part body r r₂ (part_of (gates_of body.now (num 4 name 0))) l l₂

-- `lent` returns a struct that holds a reference: the clause itself is welded, and what a call learns from it
pub lent-says : {M : Type 1} (𝓤 𝓛 κs mem run body name body' name' r : _)
    → lent.ensures-1 {M = M} {𝓤 = 𝓤} 𝓛 κs mem run body name body' name' r ≡ fact 𝓤 (Lent body'.entry (num 4 name 0) r)
lent-says 𝓤 𝓛 κs mem run body name body' name' r = refl

pub lent_told : (κs body name r last : _) → lent_reads.Learnt κs (body, (name, tt)) r last → Lent body (num 4 name 0) r
lent_told κs body name r last l = l

pub lent-one : (body name r r₂ : _) → Lent body (num 4 name 0) r → Lent body (num 4 name 0) r₂
    → (r.number ≡ r₂.number) × (r.gates ≡ r₂.gates) × SamePart r.part r₂.part
lent-one body name r r₂ l l₂ = same-lent body (num 4 name 0) r r₂ l l₂
