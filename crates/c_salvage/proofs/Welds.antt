-- What the contract of each public function says of a call, as Rattle reads it from src/ (`Learnt`): its promise, and that no two results
-- of one call meet it. Assumes nothing.
use Prim.Native.Nat.{ℕ}
use mathlib.Core.List.{List}
use mathlib.Core.Path.{◌≡◌, sym, ◌∙◌, ap}
use Rattle.c_lent.specs.Face.{Leaves}
use Rattle.salvage_spec.specs.Salvage.{salvage_of}
use Rattle.c_salvage.specs.Face.{salvage_face}
use Rattle.c_salvage.proofs.salvage.Reads as salvage

pub salvage-says : (κs buf out runs r buf' out' runs' : _) → salvage.Learnt κs (buf, (out, (runs, tt))) r (buf', (out', (runs', tt)))
    → Leaves salvage_face (salvage_of buf.now out.now runs.now) r (out'.now, runs'.now)
salvage-says κs buf out runs r buf' out' runs' l = l

pub salvage-one : (κs buf out runs r r₂ buf' out' runs' buf'' out'' runs'' : _)
    → salvage.Learnt κs (buf, (out, (runs, tt))) r (buf', (out', (runs', tt)))
    → salvage.Learnt κs (buf, (out, (runs, tt))) r₂ (buf'', (out'', (runs'', tt))) → (r ≡ r₂) × (out'.now ≡ out''.now) × (runs'.now ≡ runs''.now)
salvage-one κs buf out runs r r₂ buf' out' runs' buf'' out'' runs'' l l₂ = (
  l.answers ∙ sym l₂.answers,
  ap (λ (p : List ℕ × List ℕ). p.0) (l.leaves ∙ sym l₂.leaves),
  ap (λ (p : List ℕ
      × List ℕ). p.1) (l.leaves ∙ sym l₂.leaves),
)
