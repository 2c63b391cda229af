-- What the contract of each public function says of a call, as Rattle reads it from src/ (`Learnt`): its promise, and that no two results
-- of one call meet it. Assumes nothing.
use mathlib.Core.Path.{◌≡◌, sym, ◌∙◌}
use Rattle.c_lent.specs.Face.{Leaves, written_face}
use Rattle.writer.specs.Writing.{write_of}
use Rattle.c_write.proofs.write.Reads as write

pub write-says : (κs channel kind sequence date ms body out r channel' kind' sequence' date' ms' body' out' : _)
    → write.Learnt κs (channel, (kind, (sequence, (date, (ms, (body, (out, tt))))))) r
    (channel', (kind', (sequence', (date', (ms', (body', (out', tt)))))))
    → Leaves written_face (write_of (record { channel = channel; kind = kind; sequence = sequence; date = date; milliseconds = ms })
    body.now out.now) r out'.now
write-says κs channel kind sequence date ms body out r channel' kind' sequence' date' ms' body' out' l = l

pub write-one : (κs channel kind sequence date ms body out r r₂ channel' kind' sequence' date' ms' body' out' channel'' kind''
    sequence'' date'' ms'' body'' out'' : _)
    → write.Learnt κs (channel, (kind, (sequence, (date, (ms, (body, (out, tt))))))) r
    (channel', (kind', (sequence', (date', (ms', (body', (out', tt)))))))
    → write.Learnt κs (channel, (kind, (sequence, (date, (ms, (body, (out, tt))))))) r₂
    (channel'', (kind'', (sequence'', (date'', (ms'', (body'', (out'', tt)))))))
    → (r ≡ r₂) × (out'.now ≡ out''.now)
write-one κs channel kind sequence date ms body out r r₂ channel' kind' sequence' date' ms' body' out' channel'' kind'' sequence''
    date'' ms'' body'' out'' l l₂ =
    (l.answers ∙ sym l₂.answers, l.leaves ∙ sym l₂.leaves)
