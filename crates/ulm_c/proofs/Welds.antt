-- What the contract of each public function says of a call, as Rattle reads it from src/ (`Learnt`): its promise, and that no two results
-- of one call meet it. Assumes nothing.
use Prim.Native.Nat.{ℕ}
use mathlib.Core.List.{List}
use mathlib.Core.Path.{◌≡◌, sym, ◌∙◌, ap}
use Rattle.c_censor.specs.Face.{censor_face}
use Rattle.c_compare.specs.Face.{comparison_face}
use Rattle.c_frame.specs.Face.{frame_face, header_face}
use Rattle.c_gates.specs.Face.{gates_face, worth_face}
use Rattle.c_lent.specs.Face.{Leaves, written_face}
use Rattle.c_map.specs.Face.{map_code_face, map_face}
use Rattle.c_radial.specs.Face.{block_face, radial_face}
use Rattle.c_request.specs.Face.{request_face}
use Rattle.c_salvage.specs.Face.{salvage_face}
use Rattle.c_set.specs.Face.{set_face}
use Rattle.censor.specs.Censor.{censor_of, censor_written}
use Rattle.compare_spec.specs.Comparing.{comparison_of}
use Rattle.frame.specs.Session.{frame_at}
use Rattle.gate_value.specs.Value.{gate_of, value_of}
use Rattle.header.specs.Header.{header_of}
use Rattle.map_spec.specs.Reading.{code_of, summary_of}
use Rattle.radial_spec.specs.Lookups.{block_of, moment_of}
use Rattle.radial_spec.specs.Refusal.{radial_of}
use Rattle.request.specs.Request.{request_of, request_written}
use Rattle.salvage_spec.specs.Salvage.{salvage_of}
use Rattle.set_spec.specs.Walk.{set_of}
use Rattle.writer.specs.Writing.{write_of}
use Rattle.ulm_c.proofs.ulm_frame.Reads as ulm_frame
use Rattle.ulm_c.proofs.ulm_header.Reads as ulm_header
use Rattle.ulm_c.proofs.ulm_set.Reads as ulm_set
use Rattle.ulm_c.proofs.ulm_salvage.Reads as ulm_salvage
use Rattle.ulm_c.proofs.ulm_write.Reads as ulm_write
use Rattle.ulm_c.proofs.ulm_radial.Reads as ulm_radial
use Rattle.ulm_c.proofs.ulm_block.Reads as ulm_block
use Rattle.ulm_c.proofs.ulm_gates.Reads as ulm_gates
use Rattle.ulm_c.proofs.ulm_gate.Reads as ulm_gate
use Rattle.ulm_c.proofs.ulm_value.Reads as ulm_value
use Rattle.ulm_c.proofs.ulm_request.Reads as ulm_request
use Rattle.ulm_c.proofs.ulm_write_request.Reads as ulm_write_request
use Rattle.ulm_c.proofs.ulm_censor.Reads as ulm_censor
use Rattle.ulm_c.proofs.ulm_write_censor.Reads as ulm_write_censor
use Rattle.ulm_c.proofs.ulm_map.Reads as ulm_map
use Rattle.ulm_c.proofs.ulm_map_code.Reads as ulm_map_code
use Rattle.ulm_c.proofs.ulm_compare_maps.Reads as ulm_compare_maps

pub ulm_frame-says : (κs buf place r last : _) → ulm_frame.Learnt κs (buf, (place, tt)) r last
    → r ≡ frame_face place (frame_at buf.now place)
ulm_frame-says κs buf place r last l = l

pub ulm_frame-one : (κs buf place r r₂ last last₂ : _) → ulm_frame.Learnt κs (buf, (place, tt)) r last
    → ulm_frame.Learnt κs (buf, (place, tt)) r₂ last₂ → r ≡ r₂
ulm_frame-one κs buf place r r₂ last last₂ l l₂ = l ∙ sym l₂

pub ulm_header-says : (κs msg r last : _) → ulm_header.Learnt κs (msg, tt) r last → r ≡ header_face (header_of msg.now)
ulm_header-says κs msg r last l = l

pub ulm_header-one : (κs msg r r₂ last last₂ : _) → ulm_header.Learnt κs (msg, tt) r last → ulm_header.Learnt κs (msg, tt) r₂ last₂ → r ≡ r₂
ulm_header-one κs msg r r₂ last last₂ l l₂ = l ∙ sym l₂

pub ulm_set-says : (κs buf out r buf' out' : _) → ulm_set.Learnt κs (buf, (out, tt)) r (buf', (out', tt))
    → Leaves set_face (set_of buf.now out.now) r out'.now
ulm_set-says κs buf out r buf' out' l = l

pub ulm_set-one : (κs buf out r r₂ buf' out' buf'' out'' : _) → ulm_set.Learnt κs (buf, (out, tt)) r (buf', (out', tt))
    → ulm_set.Learnt κs (buf, (out, tt)) r₂ (buf'', (out'', tt)) → (r ≡ r₂) × (out'.now ≡ out''.now)
ulm_set-one κs buf out r r₂ buf' out' buf'' out'' l l₂ = (l.answers ∙ sym l₂.answers, l.leaves ∙ sym l₂.leaves)

pub ulm_salvage-says : (κs buf out runs r buf' out' runs' : _) → ulm_salvage.Learnt κs (buf, (out, (runs, tt))) r
    (buf', (out', (runs', tt)))
    → Leaves salvage_face (salvage_of buf.now out.now runs.now) r (out'.now, runs'.now)
ulm_salvage-says κs buf out runs r buf' out' runs' l = l

pub ulm_salvage-one : (κs buf out runs r r₂ buf' out' runs' buf'' out'' runs'' : _)
    → ulm_salvage.Learnt κs (buf, (out, (runs, tt))) r (buf', (out', (runs', tt)))
    → ulm_salvage.Learnt κs (buf, (out, (runs, tt))) r₂ (buf'', (out'', (runs'', tt)))
    → (r ≡ r₂) × (out'.now ≡ out''.now) × (runs'.now ≡ runs''.now)
ulm_salvage-one κs buf out runs r r₂ buf' out' runs' buf'' out'' runs'' l l₂ = (
  l.answers ∙ sym l₂.answers,
  ap (λ (p : List ℕ × List ℕ). p.0) (l.leaves ∙ sym l₂.leaves),
  ap (λ (p : List ℕ
      × List ℕ). p.1) (l.leaves ∙ sym l₂.leaves),
)

pub ulm_write-says : (κs channel kind sequence date ms body out r channel' kind' sequence' date' ms' body' out' : _)
    → ulm_write.Learnt κs (channel, (kind, (sequence, (date, (ms, (body, (out, tt))))))) r
    (channel', (kind', (sequence', (date', (ms', (body', (out', tt)))))))
    → Leaves written_face (write_of (record { channel = channel; kind = kind; sequence = sequence; date = date; milliseconds = ms })
    body.now out.now) r out'.now
ulm_write-says κs channel kind sequence date ms body out r channel' kind' sequence' date' ms' body' out' l = l

pub ulm_write-one : (κs channel kind sequence date ms body out r r₂ channel' kind' sequence' date' ms' body' out' channel'' kind''
    sequence'' date'' ms'' body'' out'' : _)
    → ulm_write.Learnt κs (channel, (kind, (sequence, (date, (ms, (body, (out, tt))))))) r
    (channel', (kind', (sequence', (date', (ms', (body', (out', tt)))))))
    → ulm_write.Learnt κs (channel, (kind, (sequence, (date, (ms, (body, (out, tt))))))) r₂
    (channel'', (kind'', (sequence'', (date'', (ms'', (body'', (out'', tt)))))))
    → (r ≡ r₂) × (out'.now ≡ out''.now)
ulm_write-one κs channel kind sequence date ms body out r r₂ channel' kind' sequence' date' ms' body' out' channel'' kind''
    sequence'' date'' ms'' body'' out'' l l₂ =
    (l.answers ∙ sym l₂.answers, l.leaves ∙ sym l₂.leaves)

pub ulm_radial-says : (κs body r last : _) → ulm_radial.Learnt κs (body, tt) r last → r ≡ radial_face (radial_of body.now)
ulm_radial-says κs body r last l = l

pub ulm_radial-one : (κs body r r₂ last last₂ : _) → ulm_radial.Learnt κs (body, tt) r last
    → ulm_radial.Learnt κs (body, tt) r₂ last₂ → r ≡ r₂
ulm_radial-one κs body r r₂ last last₂ l l₂ = l ∙ sym l₂

pub ulm_block-says : (κs body block r last : _) → ulm_block.Learnt κs (body, (block, tt)) r last → r ≡ block_face (block_of body.now block)
ulm_block-says κs body block r last l = l

pub ulm_block-one : (κs body block r r₂ last last₂ : _) → ulm_block.Learnt κs (body, (block, tt)) r last
    → ulm_block.Learnt κs (body, (block, tt)) r₂ last₂ → r ≡ r₂
ulm_block-one κs body block r r₂ last last₂ l l₂ = l ∙ sym l₂

pub ulm_gates-says : (κs body name r last : _) → ulm_gates.Learnt κs (body, (name, tt)) r last → r ≡ gates_face (moment_of body.now name)
ulm_gates-says κs body name r last l = l

pub ulm_gates-one : (κs body name r r₂ last last₂ : _) → ulm_gates.Learnt κs (body, (name, tt)) r last
    → ulm_gates.Learnt κs (body, (name, tt)) r₂ last₂ → r ≡ r₂
ulm_gates-one κs body name r r₂ last last₂ l l₂ = l ∙ sym l₂

pub ulm_gate-says : (κs body name gate r last : _) → ulm_gate.Learnt κs (body, (name, (gate, tt))) r last
    → r ≡ worth_face (gate_of body.now name gate)
ulm_gate-says κs body name gate r last l = l

pub ulm_gate-one : (κs body name gate r r₂ last last₂ : _) → ulm_gate.Learnt κs (body, (name, (gate, tt))) r last
    → ulm_gate.Learnt κs (body, (name, (gate, tt))) r₂ last₂ → r ≡ r₂
ulm_gate-one κs body name gate r r₂ last last₂ l l₂ = l ∙ sym l₂

pub ulm_value-says : (κs code scale offset r last : _) → ulm_value.Learnt κs (code, (scale, (offset, tt))) r last
    → r ≡ worth_face (value_of code scale offset)
ulm_value-says κs code scale offset r last l = l

pub ulm_value-one : (κs code scale offset r r₂ last last₂ : _) → ulm_value.Learnt κs (code, (scale, (offset, tt))) r last
    → ulm_value.Learnt κs (code, (scale, (offset, tt))) r₂ last₂ → r ≡ r₂
ulm_value-one κs code scale offset r r₂ last last₂ l l₂ = l ∙ sym l₂

pub ulm_request-says : (κs body r last : _) → ulm_request.Learnt κs (body, tt) r last → r ≡ request_face (request_of body.now)
ulm_request-says κs body r last l = l

pub ulm_request-one : (κs body r r₂ last last₂ : _) → ulm_request.Learnt κs (body, tt) r last
    → ulm_request.Learnt κs (body, tt) r₂ last₂ → r ≡ r₂
ulm_request-one κs body r r₂ last last₂ l l₂ = l ∙ sym l₂

pub ulm_write_request-says : (κs list out r list' out' : _) → ulm_write_request.Learnt κs (list, (out, tt)) r (list', (out', tt))
    → Leaves written_face (request_written list.now out.now) r out'.now
ulm_write_request-says κs list out r list' out' l = l

pub ulm_write_request-one : (κs list out r r₂ list' out' list'' out'' : _) → ulm_write_request.Learnt κs (list, (out, tt)) r
    (list', (out', tt))
    → ulm_write_request.Learnt κs (list, (out, tt)) r₂ (list'', (out'', tt)) → (r ≡ r₂) × (out'.now ≡ out''.now)
ulm_write_request-one κs list out r r₂ list' out' list'' out'' l l₂ = (l.answers ∙ sym l₂.answers, l.leaves ∙ sym l₂.leaves)

pub ulm_censor-says : (κs body r last : _) → ulm_censor.Learnt κs (body, tt) r last → r ≡ censor_face (censor_of body.now)
ulm_censor-says κs body r last l = l

pub ulm_censor-one : (κs body r r₂ last last₂ : _) → ulm_censor.Learnt κs (body, tt) r last
    → ulm_censor.Learnt κs (body, tt) r₂ last₂ → r ≡ r₂
ulm_censor-one κs body r r₂ last last₂ l l₂ = l ∙ sym l₂

pub ulm_write_censor-says : (κs list out r list' out' : _) → ulm_write_censor.Learnt κs (list, (out, tt)) r (list', (out', tt))
    → Leaves written_face (censor_written list.now out.now) r out'.now
ulm_write_censor-says κs list out r list' out' l = l

pub ulm_write_censor-one : (κs list out r r₂ list' out' list'' out'' : _) → ulm_write_censor.Learnt κs (list, (out, tt)) r (list', (out', tt))
    → ulm_write_censor.Learnt κs (list, (out, tt)) r₂ (list'', (out'', tt)) → (r ≡ r₂) × (out'.now ≡ out''.now)
ulm_write_censor-one κs list out r r₂ list' out' list'' out'' l l₂ = (l.answers ∙ sym l₂.answers, l.leaves ∙ sym l₂.leaves)

pub ulm_map-says : (κs body r last : _) → ulm_map.Learnt κs (body, tt) r last → r ≡ map_face (summary_of body.now)
ulm_map-says κs body r last l = l

pub ulm_map-one : (κs body r r₂ last last₂ : _) → ulm_map.Learnt κs (body, tt) r last → ulm_map.Learnt κs (body, tt) r₂ last₂ → r ≡ r₂
ulm_map-one κs body r r₂ last last₂ l l₂ = l ∙ sym l₂

pub ulm_map_code-says : (κs body elevation azimuth kilometre r last : _)
    → ulm_map_code.Learnt κs (body, (elevation, (azimuth, (kilometre, tt)))) r last
    → r ≡ map_code_face (code_of body.now elevation azimuth kilometre)
ulm_map_code-says κs body elevation azimuth kilometre r last l = l

pub ulm_map_code-one : (κs body elevation azimuth kilometre r r₂ last last₂ : _)
    → ulm_map_code.Learnt κs (body, (elevation, (azimuth, (kilometre, tt)))) r last
    → ulm_map_code.Learnt κs (body, (elevation, (azimuth, (kilometre, tt)))) r₂ last₂ → r ≡ r₂
ulm_map_code-one κs body elevation azimuth kilometre r r₂ last last₂ l l₂ = l ∙ sym l₂

pub ulm_compare_maps-says : (κs old new out r old' new' out' : _) → ulm_compare_maps.Learnt κs (old, (new, (out, tt))) r
    (old', (new', (out', tt)))
    → Leaves comparison_face (comparison_of old.now new.now out.now) r out'.now
ulm_compare_maps-says κs old new out r old' new' out' l = l

pub ulm_compare_maps-one : (κs old new out r r₂ old' new' out' old'' new'' out'' : _)
    → ulm_compare_maps.Learnt κs (old, (new, (out, tt))) r (old', (new', (out', tt)))
    → ulm_compare_maps.Learnt κs (old, (new, (out, tt))) r₂ (old'', (new'', (out'', tt))) → (r ≡ r₂) × (out'.now ≡ out''.now)
ulm_compare_maps-one κs old new out r r₂ old' new' out' old'' new'' out'' l l₂ = (l.answers ∙ sym l₂.answers, l.leaves ∙ sym l₂.leaves)
