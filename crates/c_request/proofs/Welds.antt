-- What the contract of each public function says of a call, as Rattle reads it from src/ (`Learnt`): its promise, and that no two results
-- of one call meet it. Assumes nothing.
use mathlib.Core.Path.{◌≡◌, sym, ◌∙◌}
use Rattle.c_lent.specs.Face.{Leaves, written_face}
use Rattle.request.specs.Request.{request_of, request_written}
use Rattle.c_request.specs.Face.{request_face}
use Rattle.c_request.proofs.request.Reads as request
use Rattle.c_request.proofs.write_request.Reads as write_request

pub request-says : (κs body r last : _) → request.Learnt κs (body, tt) r last → r ≡ request_face (request_of body.now)
request-says κs body r last l = l

pub request-one : (κs body r r₂ last last₂ : _) → request.Learnt κs (body, tt) r last → request.Learnt κs (body, tt) r₂ last₂ → r ≡ r₂
request-one κs body r r₂ last last₂ l l₂ = l ∙ sym l₂

pub write_request-says : (κs list out r list' out' : _) → write_request.Learnt κs (list, (out, tt)) r (list', (out', tt))
    → Leaves written_face (request_written list.now out.now) r out'.now
write_request-says κs list out r list' out' l = l

pub write_request-one : (κs list out r r₂ list' out' list'' out'' : _) → write_request.Learnt κs (list, (out, tt)) r (list', (out', tt))
    → write_request.Learnt κs (list, (out, tt)) r₂ (list'', (out'', tt)) → (r ≡ r₂) × (out'.now ≡ out''.now)
write_request-one κs list out r r₂ list' out' list'' out'' l l₂ = (l.answers ∙ sym l₂.answers, l.leaves ∙ sym l₂.leaves)
