-- Demand 1. "Any bytes may be given to any public entry. Each ends with an answer or with one refusal number .., given when its
-- rule says so and not otherwise. A refusal changes no lent byte and reports a count of 0." For each entry of the library, of every call of
-- the compiled function: exactly one result meets its contract, and it is the rule's; a refusal's number is of the table and is that of the
-- first broken check, all earlier ones hold; and a refusal leaves what was lent as it was. That each call ends with a result that meets the
-- contract is the function's own proof, in its crate.
use Rattle.std.specs.Prelude.{ℕ, ◌+◌, ◌≡◌, List, ◌++◌, length, drop}
use denote.Ref.{Bor, at_last}
use Rattle.wire.specs.Numbers.{num, Octets}
use Rattle.form_spec.specs.Forms.{body_checks, list_checks, body_by}
use Rattle.wire.specs.Answers.{refused, number_of}
use Rattle.wire.specs.Writing.{tell_write, then_room}
use Rattle.frame.specs.Session.{frame_at}
use Rattle.frame.specs.Told.{tell_frame}
use Rattle.frame.proofs.frame_at.Reads as frame_at_reads
use Rattle.header.specs.Header.{header_checks, header_of}
use Rattle.header.specs.Told.{tell_header}
use Rattle.header.proofs.read_header.Reads as read_header
use Rattle.set_spec.specs.Segment.{own_checks, segment_at}
use Rattle.set_spec.specs.Walk.{set_of}
use Rattle.set_segment.specs.Told.{tell_segment}
use Rattle.set_segment.proofs.segment_at.Reads as segment_at_reads
use Rattle.set.specs.Told.{tell_set}
use Rattle.set.proofs.read_set.Reads as read_set
use Rattle.salvage_spec.specs.Salvage.{salvage_of}
use Rattle.salvage.specs.Told.{tell_salvage}
use Rattle.salvage.proofs.salvage.Reads as salvage
use Rattle.writer.specs.Writing.{frames_of, write_checks, write_of}
use Rattle.writer.proofs.write_message.Reads as write_message
use Rattle.radial_spec.specs.Refusal.{radial_checks, radial_of}
use Rattle.radial_spec.specs.Lookups.{moment_of, coded_of, block_of, Part, gates_of, bytes_in}
use Rattle.radial_check.proofs.check_radial.Reads as check_radial_reads
use Rattle.radial_heading.specs.Told.{tell_heading, heading_shown}
use Rattle.radial_heading.proofs.read_heading.Reads as read_heading
use Rattle.radial.specs.Told.{tell_radial, shown, tell_moment, head_shown, tell_coded, code_shown, tell_block, block_shown}
use Rattle.radial.proofs.read_radial.Reads as read_radial
use Rattle.radial.proofs.moment.Reads as moment
use Rattle.radial.proofs.code.Reads as code
use Rattle.radial.proofs.block.Reads as block
use Rattle.radial_gates.specs.declared.LentGates.{LentGates}
use Rattle.radial_gates.specs.Told.{count_of, part_of, LiesAt, SamePart, Lent}
use Rattle.radial_gates.proofs.gates.Reads as gates_of_reads
use Rattle.gate_value.specs.Value.{value_checks, value_of, gate_of}
use Rattle.gate_value.specs.Told.{tell_gate}
use Rattle.gate_value.proofs.gate_value.Reads as gate_value
use Rattle.gate_value.proofs.value.Reads as value
use Rattle.request.specs.Request.{request_form, request_of, request_written}
use Rattle.request.specs.Told.{tell_request}
use Rattle.request.proofs.read_request.Reads as read_request
use Rattle.request.proofs.write_request.Reads as write_request_reads
use Rattle.censor.specs.Censor.{censor_form, censor_of, censor_written}
use Rattle.censor.specs.Told.{tell_censor, censor_shown}
use Rattle.censor.proofs.read_censor.Reads as read_censor
use Rattle.censor.proofs.write_censor.Reads as write_censor_reads
use Rattle.map_spec.specs.Reading.{segments_in, map_checks, asked_checks, summary_of, code_of}
use Rattle.map.specs.Told.{tell_map, tell_code}
use Rattle.map.proofs.check_map.Reads as check_map
use Rattle.map.proofs.code_at.Reads as code_at
use Rattle.compare_spec.specs.Comparing.{comparison_of}
use Rattle.compare.specs.Told.{tell_compare}
use Rattle.compare.proofs.compare.Reads as compare
use Rattle.demands.specs.Notions.{ByChecks, Kept, KeptNumber, KeptLent}
use Rattle.demands.specs.Orders.{stream_checks, set_checks, moment_checks, coded_checks, gate_checks, comparison_checks, salvage_checks}

-- ---- gates handed over: "an empty part where gates are handed over" on a refusal
-- the part p of a lent body
abbrev pub cut_at : Bor (List ℕ) → Part → Bor (List ℕ)
cut_at body p = record { ref_ptr = (body.ref_ptr.0, body.ref_ptr.1 + p.place); now = bytes_in body.now p }

-- a part of the lent body meets the contract, any two that do have the same memory and bytes, and it lies where the rule says
pub record KeptPart (P : Bor (List ℕ) → Type 0) (body : Bor (List ℕ)) (name : ℕ) : Type 0 where
  pub met : Octets body.now → P (cut_at body (part_of (gates_of body.now name)))
  pub only : (r r₂ : Bor (List ℕ)) → P r → P r₂ → SamePart r r₂
  pub lies : (r : Bor (List ℕ)) → P r → LiesAt body r (part_of (gates_of body.now name))
  pub empty : (r : Bor (List ℕ)) (n : ℕ) → P r → gates_of body.now name ≡ refused n → length r.now ≡ 0
  pub by_checks : ByChecks (moment_checks body.now name) (gates_of body.now name)

-- number, count and part together; on a refusal "its number and count 0", and an empty part. `Lent body name` is the contract of `lent`
-- itself
pub record KeptLentGates (body : Bor (List ℕ)) (name : ℕ) : Type 0 where
  pub met : Octets body.now
      → Lent body name (record {
        number = number_of (moment_of body.now name);
        gates = count_of (moment_of body.now name);
        part = cut_at body (part_of (gates_of body.now name));
      })
  pub only : (r r₂ : LentGates) → Lent body name r → Lent body name r₂
      → (r.number ≡ r₂.number) × (r.gates ≡ r₂.gates) × SamePart r.part r₂.part
  pub empty : (r : LentGates) (n : ℕ) → Lent body name r → moment_of body.now name ≡ refused n
      → (r.number ≡ n) × (r.gates ≡ 0) × (length r.part.now ≡ 0)

pub record Demand1 : Type 0 where
  -- `frame_at_reads`, `read_header`, `segment_at`
  pub frame : (κs stream place s : _) → Kept (λ r. frame_at_reads.Learnt κs (stream, (place, tt)) r s) tell_frame
      (stream_checks stream.now place) (frame_at stream.now place)
  pub header : (κs message s : _) → Kept (λ r. read_header.Learnt κs (message, tt) r s) tell_header (header_checks message.now)
      (header_of message.now)
  pub segment : (κs frames at s : _) → Kept (λ r. segment_at_reads.Learnt κs (frames, (at, tt)) r s) tell_segment
      (own_checks (drop at frames.now)) (segment_at frames.now at)
  -- `read_set`, `write_message`
  pub set : (κs frames out frames' : _)
      → KeptLent (λ r after. read_set.Learnt κs (frames, (out, tt)) r (frames', (at_last out after, tt))) tell_set
      (set_checks frames.now (length out.now)) (set_of frames.now out.now) out.now
  pub write : (κs given body out given' body' : _)
      → KeptLent (λ r after. write_message.Learnt κs (given, (body, (out, tt))) r (given', (body', (at_last out after, tt)))) tell_write
      (then_room (write_checks given body.now) (frames_of given body.now) (length out.now))
      (write_of given body.now out.now) out.now
  -- `check_radial`, `read_heading`, `read_radial`
  pub check_radial : (κs body s : _) → KeptNumber (λ r. check_radial_reads.Learnt κs (body, tt) r s) (radial_checks body.now)
      (radial_of body.now)
  pub heading : (κs body s : _) → Kept (λ r. read_heading.Learnt κs (body, tt) r s) tell_heading (radial_checks body.now)
      (heading_shown (radial_of body.now))
  pub radial : (κs body s : _) → Kept (λ r. read_radial.Learnt κs (body, tt) r s) tell_radial (radial_checks body.now)
      (shown (radial_of body.now))
  -- `moment`, `block`, `code`
  pub moment : (κs body name s : _)
      → Kept (λ r. moment.Learnt κs (body, (name, tt)) r s) tell_moment (moment_checks body.now (num 4 name 0))
      (head_shown (moment_of body.now (num 4 name 0)))
  pub block : (κs body k s : _) → Kept (λ r. block.Learnt κs (body, (k, tt)) r s) tell_block (radial_checks body.now)
      (block_shown (block_of body.now k))
  pub code : (κs body name gate s : _)
      → Kept (λ r. code.Learnt κs (body, (name, (gate, tt))) r s) tell_coded (coded_checks body.now (num 4 name 0) gate)
      (code_shown (coded_of body.now (num 4 name 0) gate))
  -- `gates`, `lent`
  pub gates : (κs body name s : _) → KeptPart (λ r. gates_of_reads.Learnt κs (body, (name, tt)) r s) body (num 4 name 0)
  pub lent : (body : Bor (List ℕ)) (name : ℕ) → KeptLentGates body name
  -- `gate_value`, `value`
  pub gate : (κs body name gate s : _)
      → Kept (λ r. gate_value.Learnt κs (body, (name, (gate, tt))) r s) tell_gate (gate_checks body.now (num 4 name 0) gate)
      (gate_of body.now (num 4 name 0) gate)
  pub value : (κs code scale offset s : _)
      → Kept (λ r. value.Learnt κs (code, (scale, (offset, tt))) r s) tell_gate (value_checks scale offset) (value_of code scale offset)
  -- `read_request`, `write_request`; `read_censor`, `write_censor`
  pub request : (κs body s : _)
      → Kept (λ r. read_request.Learnt κs (body, tt) r s) tell_request (body_checks request_form body.now) (request_of body.now)
  pub write_request : (κs list out list' : _)
      → KeptLent (λ r after. write_request_reads.Learnt κs (list, (out, tt)) r (list', (at_last out after, tt))) tell_write
      (then_room (list_checks request_form list.now) (body_by request_form list.now) (length out.now))
      (request_written list.now out.now) out.now
  pub censor : (κs body s : _)
      → Kept (λ r. read_censor.Learnt κs (body, tt) r s) tell_censor (body_checks censor_form body.now) (censor_shown (censor_of body.now))
  pub write_censor : (κs list out list' : _)
      → KeptLent (λ r after. write_censor_reads.Learnt κs (list, (out, tt)) r (list', (at_last out after, tt))) tell_write
      (then_room (list_checks censor_form list.now) (body_by censor_form list.now) (length out.now))
      (censor_written list.now out.now) out.now
  -- `check_map`, `code_at`; `compare`
  pub map : (κs body s : _) → Kept (λ r. check_map.Learnt κs (body, tt) r s) tell_map (map_checks body.now) (summary_of body.now)
  pub map_code : (κs body elevation azimuth kilometre s : _)
      → Kept (λ r. code_at.Learnt κs (body, (elevation, (azimuth, (kilometre, tt)))) r s) tell_code
      (map_checks body.now ++ asked_checks (segments_in body.now) elevation azimuth kilometre)
      (code_of body.now elevation azimuth kilometre)
  pub compare : (κs old new out old' new' : _)
      → KeptLent (λ r after. compare.Learnt κs (old, (new, (out, tt))) r (old', (new', (at_last out after, tt)))) tell_compare
      (comparison_checks old.now new.now (length out.now)) (comparison_of old.now new.now out.now) out.now
  -- `salvage`, whose two outputs are a pair
  pub salvage : (κs buf out runs buf' : _)
      → KeptLent (λ r after. salvage.Learnt κs (buf, (out, (runs, tt))) r
      (buf', (at_last out after.0, (at_last runs after.1, tt)))) tell_salvage
      (salvage_checks buf.now out.now runs.now) (salvage_of buf.now out.now runs.now) (out.now, runs.now)
