-- What the contract of each public function says of a call, as Rattle reads it from src/ (`Learnt`): its promise, and that no two results
-- of one call meet it. Assumes nothing.
use mathlib.Core.Path.{◌≡◌}
use Rattle.wire.proofs.AnswerLaws.{only, only_answer}
use Rattle.wire.proofs.RefusalLaws.{tell_apart}
use Rattle.wire.proofs.WriteLaws.{write_apart}
use Rattle.std.specs.Prelude.{ℕ, Result}
use Rattle.wire.specs.declared.refusal.Refusal.{Refusal}
use Rattle.wire.specs.Answers.{Promise}
use Rattle.wire.specs.Writing.{tell_write}
use Rattle.request.specs.Request.{request_of, request_written}
use Rattle.request.specs.Told.{tell_request}
use Rattle.request.proofs.read_request.Reads as read_request
use Rattle.request.proofs.write_request.Reads as write_request

pub request_apart : (a b : Result ℕ Refusal) → tell_request a ≡ tell_request b → a ≡ b
request_apart = tell_apart (λ code. code) (λ x y e. e)

pub read_request-says : (κs body r last : _) → read_request.Learnt κs (body, tt) r last → tell_request r ≡ request_of body.now
read_request-says κs body r last l = l

pub read_request-one : (κs body r r₂ last last₂ : _) → read_request.Learnt κs (body, tt) r last
    → read_request.Learnt κs (body, tt) r₂ last₂ → r ≡ r₂
read_request-one κs body r r₂ last last₂ l l₂ = only_answer tell_request request_apart (request_of body.now) r r₂ l l₂

pub write_request-says : (κs list out r list' out' : _) → write_request.Learnt κs (list, (out, tt)) r (list', (out', tt))
    → Promise tell_write (request_written list.now out.now) r out'.now
write_request-says κs list out r list' out' l = l

pub write_request-one : (κs list out r r₂ list' out' list'' out'' : _) → write_request.Learnt κs (list, (out, tt)) r (list', (out', tt))
    → write_request.Learnt κs (list, (out, tt)) r₂ (list'', (out'', tt)) → (r ≡ r₂) × (out'.now ≡ out''.now)
write_request-one κs list out r r₂ list' out' list'' out'' l l₂ =
    only tell_write write_apart (request_written list.now out.now) r r₂ out'.now out''.now l l₂
