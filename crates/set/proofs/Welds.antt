-- What the contract of each public function says of a call, as Rattle reads it from src/ (`Learnt`): its promise, and that no two results
-- of one call meet it. Assumes nothing.
use mathlib.Core.Path.{◌≡◌, ap}
use Rattle.wire.proofs.AnswerLaws.{only}
use Rattle.wire.proofs.RefusalLaws.{tell_apart}
use Rattle.std.specs.Prelude.{Result}
use Rattle.wire.specs.declared.refusal.Refusal.{Refusal}
use Rattle.wire.specs.Answers.{Promise}
use Rattle.set_spec.specs.Walk.{SetSays, set_of}
use Rattle.set.specs.declared.Set.{Set}
use Rattle.set.specs.Told.{set_says, tell_set}
use Rattle.set.proofs.read_set.Reads as read_set

pub set_apart : (a b : Result Set Refusal) → tell_set a ≡ tell_set b → a ≡ b
set_apart = tell_apart set_says (λ x y e. ap (λ (says : SetSays). record { header = says.header; length = says.long }) e)

pub read_set-says : (κs frames out r frames' out' : _) → read_set.Learnt κs (frames, (out, tt)) r (frames', (out', tt))
    → Promise tell_set (set_of frames.now out.now) r out'.now
read_set-says κs frames out r frames' out' l = l

pub read_set-one : (κs frames out r r₂ frames' out' frames'' out'' : _) → read_set.Learnt κs (frames, (out, tt)) r (frames', (out', tt))
    → read_set.Learnt κs (frames, (out, tt)) r₂ (frames'', (out'', tt)) → (r ≡ r₂) × (out'.now ≡ out''.now)
read_set-one κs frames out r r₂ frames' out' frames'' out'' l l₂ = only tell_set set_apart (set_of frames.now out.now) r r₂
    out'.now out''.now l l₂
