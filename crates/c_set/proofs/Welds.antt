-- What the contract of each public function says of a call, as Rattle reads it from src/ (`Learnt`): its promise, and that no two results
-- of one call meet it. Assumes nothing.
use mathlib.Core.Path.{◌≡◌, sym, ◌∙◌}
use Rattle.c_lent.specs.Face.{Leaves}
use Rattle.set_spec.specs.Walk.{set_of}
use Rattle.c_set.specs.Face.{set_face}
use Rattle.c_set.proofs.set.Reads as set

pub set-says : (κs buf out r buf' out' : _) → set.Learnt κs (buf, (out, tt)) r (buf', (out', tt))
    → Leaves set_face (set_of buf.now out.now) r out'.now
set-says κs buf out r buf' out' l = l

pub set-one : (κs buf out r r₂ buf' out' buf'' out'' : _) → set.Learnt κs (buf, (out, tt)) r (buf', (out', tt))
    → set.Learnt κs (buf, (out, tt)) r₂ (buf'', (out'', tt)) → (r ≡ r₂) × (out'.now ≡ out''.now)
set-one κs buf out r r₂ buf' out' buf'' out'' l l₂ = (l.answers ∙ sym l₂.answers, l.leaves ∙ sym l₂.leaves)
