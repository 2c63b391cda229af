-- What the contract of each public function says of a call, as Rattle reads it from src/ (`Learnt`): its promise, and that no two results
-- of one call meet it. Assumes nothing.
use Prim.Native.Nat.{ℕ}
use mathlib.Core.List.{List}
use mathlib.Core.Path.{◌≡◌, ap}
use Rattle.wire.proofs.AnswerLaws.{only}
use Rattle.wire.proofs.RefusalLaws.{tell_apart}
use Rattle.std.specs.Prelude.{Result}
use Rattle.wire.specs.declared.refusal.Refusal.{Refusal}
use Rattle.wire.specs.Answers.{Promise}
use Rattle.salvage_spec.specs.Salvage.{salvage_of, Report}
use Rattle.salvage.specs.declared.Salvaged.{Salvaged}
use Rattle.salvage.specs.Told.{reported, tell_salvage}
use Rattle.salvage.proofs.salvage.Reads as salvage

pub salvage_apart : (a b : Result Salvaged Refusal) → tell_salvage a ≡ tell_salvage b → a ≡ b
salvage_apart = tell_apart reported (λ x y e. ap (λ (r : Report). record { kept = r.kept; length = r.long; runs = r.runs }) e)

pub salvage-says : (κs buf out runs r buf' out' runs' : _) → salvage.Learnt κs (buf, (out, (runs, tt))) r (buf', (out', (runs', tt)))
    → Promise tell_salvage (salvage_of buf.now out.now runs.now) r (out'.now, runs'.now)
salvage-says κs buf out runs r buf' out' runs' l = l

pub salvage-one : (κs buf out runs r r₂ buf' out' runs' buf'' out'' runs'' : _)
    → salvage.Learnt κs (buf, (out, (runs, tt))) r (buf', (out', (runs', tt)))
    → salvage.Learnt κs (buf, (out, (runs, tt))) r₂ (buf'', (out'', (runs'', tt))) → (r ≡ r₂) × (out'.now ≡ out''.now) × (runs'.now ≡ runs''.now)
salvage-one κs buf out runs r r₂ buf' out' runs' buf'' out'' runs'' l l₂ =
    let o = only tell_salvage salvage_apart (salvage_of buf.now out.now runs.now) r r₂ (out'.now, runs'.now)
    (out''.now, runs''.now) l l₂ in
    (o.0, ap (λ (p : List ℕ × List ℕ). p.0) o.1, ap (λ (p : List ℕ × List ℕ). p.1) o.1)
