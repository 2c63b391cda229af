-- What the contract of each public function says of a call, as Rattle reads it from src/ (`Learnt`): its promise, and that no two results
-- of one call meet it. Assumes nothing.
use mathlib.Core.Path.{◌≡◌, sym, ◌∙◌}
use Rattle.c_lent.specs.Face.{Leaves, written_face}
use Rattle.censor.specs.Censor.{censor_of, censor_written}
use Rattle.c_censor.specs.Face.{censor_face}
use Rattle.c_censor.proofs.censor.Reads as censor
use Rattle.c_censor.proofs.write_censor.Reads as write_censor

pub censor-says : (κs body r last : _) → censor.Learnt κs (body, tt) r last → r ≡ censor_face (censor_of body.now)
censor-says κs body r last l = l

pub censor-one : (κs body r r₂ last last₂ : _) → censor.Learnt κs (body, tt) r last → censor.Learnt κs (body, tt) r₂ last₂ → r ≡ r₂
censor-one κs body r r₂ last last₂ l l₂ = l ∙ sym l₂

pub write_censor-says : (κs list out r list' out' : _) → write_censor.Learnt κs (list, (out, tt)) r (list', (out', tt))
    → Leaves written_face (censor_written list.now out.now) r out'.now
write_censor-says κs list out r list' out' l = l

pub write_censor-one : (κs list out r r₂ list' out' list'' out'' : _) → write_censor.Learnt κs (list, (out, tt)) r (list', (out', tt))
    → write_censor.Learnt κs (list, (out, tt)) r₂ (list'', (out'', tt)) → (r ≡ r₂) × (out'.now ≡ out''.now)
write_censor-one κs list out r r₂ list' out' list'' out'' l l₂ = (l.answers ∙ sym l₂.answers, l.leaves ∙ sym l₂.leaves)
