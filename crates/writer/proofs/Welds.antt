-- What the contract of each public function says of a call, as Rattle reads it from src/ (`Learnt`): its promise, and that no two results
-- of one call meet it. Assumes nothing.
use mathlib.Core.Path.{◌≡◌}
use Rattle.wire.proofs.AnswerLaws.{only}
use Rattle.wire.proofs.WriteLaws.{write_apart}
use Rattle.wire.specs.Answers.{Promise}
use Rattle.wire.specs.Writing.{tell_write}
use Rattle.writer.specs.Writing.{write_of}
use Rattle.writer.proofs.write_message.Reads as write_message

pub write_message-says : (κs given body out r given' body' out' : _)
    → write_message.Learnt κs (given, (body, (out, tt))) r (given', (body', (out', tt)))
    → Promise tell_write (write_of given body.now out.now) r out'.now
write_message-says κs given body out r given' body' out' l = l

pub write_message-one : (κs given body out r r₂ given' body' out' given'' body'' out'' : _)
    → write_message.Learnt κs (given, (body, (out, tt))) r (given', (body', (out', tt)))
    → write_message.Learnt κs (given, (body, (out, tt))) r₂ (given'', (body'', (out'', tt))) → (r ≡ r₂) × (out'.now ≡ out''.now)
write_message-one κs given body out r r₂ given' body' out' given'' body'' out'' l l₂ =
    only tell_write write_apart (write_of given body.now out.now) r r₂ out'.now out''.now l l₂
