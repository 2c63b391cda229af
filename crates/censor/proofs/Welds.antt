-- What the contract of each public function says of a call, as Rattle reads it from src/ (`Learnt`): its promise, and that no two results
-- of one call meet it. Assumes nothing.
use mathlib.Core.Path.{◌≡◌}
use Rattle.std.specs.Prelude.{Result}
use Rattle.wire.specs.declared.refusal.Refusal.{Refusal}
use Rattle.wire.proofs.AnswerLaws.{only, only_answer}
use Rattle.wire.proofs.RefusalLaws.{tell_apart}
use Rattle.wire.proofs.WriteLaws.{write_apart}
use Rattle.wire.specs.Answers.{Promise}
use Rattle.wire.specs.Writing.{tell_write}
use Rattle.censor.specs.Censor.{censor_of, censor_written}
use Rattle.censor.specs.declared.Censor.{Censor}
use Rattle.censor.specs.Told.{tell_censor, censor_shown}
use Rattle.censor.proofs.read_censor.Reads as read_censor
use Rattle.censor.proofs.write_censor.Reads as write_censor

pub censor_apart : (a b : Result Censor Refusal) → tell_censor a ≡ tell_censor b → a ≡ b
censor_apart = tell_apart (λ censor. censor) (λ x y e. e)

pub read_censor-says : (κs body r last : _) → read_censor.Learnt κs (body, tt) r last → tell_censor r ≡ censor_shown (censor_of body.now)
read_censor-says κs body r last l = l

pub read_censor-one : (κs body r r₂ last last₂ : _) → read_censor.Learnt κs (body, tt) r last
    → read_censor.Learnt κs (body, tt) r₂ last₂ → r ≡ r₂
read_censor-one κs body r r₂ last last₂ l l₂ = only_answer tell_censor censor_apart (censor_shown (censor_of body.now)) r r₂ l l₂

pub write_censor-says : (κs list out r list' out' : _) → write_censor.Learnt κs (list, (out, tt)) r (list', (out', tt))
    → Promise tell_write (censor_written list.now out.now) r out'.now
write_censor-says κs list out r list' out' l = l

pub write_censor-one : (κs list out r r₂ list' out' list'' out'' : _) → write_censor.Learnt κs (list, (out, tt)) r (list', (out', tt))
    → write_censor.Learnt κs (list, (out, tt)) r₂ (list'', (out'', tt)) → (r ≡ r₂) × (out'.now ≡ out''.now)
write_censor-one κs list out r r₂ list' out' list'' out'' l l₂ =
    only tell_write write_apart (censor_written list.now out.now) r r₂ out'.now out''.now l l₂
