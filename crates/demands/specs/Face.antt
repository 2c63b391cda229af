-- Demand 1 for the C face, and that each member of each struct is the rule's value of that name. For every call of each `ulm_` function
-- exactly one struct meets its contract; a refusal's struct holds the rule's number, which is of the table and so not 0, and 0 in every
-- other member (a stream keeps the place that was given), and leaves what was lent as it was; where nothing is refused the number is 0, and
-- each member is said below.
use Rattle.std.specs.Prelude.{ℕ, ◌+◌, ◌≡◌, List, [], ◌∷◌, get_or}
use Rattle.std.proofs.Math.Option.{Option, none, some}
use Rattle.std.specs.Float.{binary32}
use Rattle.std.specs.Float.Ieee.{to_bits}
use denote.Ref.{at_last}
use Rattle.wire.specs.Properties.{One, Each}
use Rattle.wire.specs.Answers.{Answer, refused, given, Outcome}
use Rattle.wire.specs.declared.Bytes.{Bytes}
use Rattle.frame.specs.declared.Frame.{Frame}
use Rattle.frame.specs.Session.{Stream, end, frame, frame_at}
use Rattle.header.specs.declared.Header.{Header}
use Rattle.header.specs.Header.{header_of}
use Rattle.set_spec.specs.Walk.{SetSays, set_of}
use Rattle.salvage_spec.specs.Salvage.{Report, salvage_of}
use Rattle.writer.specs.Writing.{write_of}
use Rattle.radial_spec.specs.Description.{moment_head, Moment, Description, block_count, gates, gate_bytes}
use Rattle.radial_spec.specs.Refusal.{radial_of}
use Rattle.radial_spec.specs.Lookups.{moment_of, Asked, no_such, lies, block_of}
use Rattle.gate_value.specs.Value.{Worth, below_threshold, range_folded, worth, value_of, gate_of}
use Rattle.request.specs.Request.{request_of, request_written}
use Rattle.censor.specs.Censor.{censor_of, censor_written}
use Rattle.map_spec.specs.Reading.{Summary, summary_of, code_of}
use Rattle.compare_spec.specs.Comparing.{Comparison, comparison_of}
use Rattle.c_lent.specs.declared.UlmWritten.{UlmWritten}
use Rattle.c_frame.specs.declared.UlmFrame.{UlmFrame}
use Rattle.c_frame.specs.declared.UlmHeader.{UlmHeader}
use Rattle.c_set.specs.declared.UlmSet.{UlmSet}
use Rattle.c_salvage.specs.declared.UlmSalvage.{UlmSalvage}
use Rattle.c_radial.specs.declared.UlmRadial.{UlmRadial}
use Rattle.c_radial.specs.declared.UlmBlock.{UlmBlock}
use Rattle.c_gates.specs.declared.UlmGates.{UlmGates}
use Rattle.c_gates.specs.declared.UlmGate.{UlmGate}
use Rattle.c_request.specs.declared.UlmRequest.{UlmRequest}
use Rattle.c_censor.specs.declared.UlmCensor.{UlmCensor}
use Rattle.c_map.specs.declared.UlmMap.{UlmMap}
use Rattle.c_map.specs.declared.UlmMapCode.{UlmMapCode}
use Rattle.c_compare.specs.declared.UlmComparison.{UlmComparison}
use Rattle.ulm.proofs.ulm_frame.Reads as ulm_frame
use Rattle.ulm.proofs.ulm_header.Reads as ulm_header
use Rattle.ulm.proofs.ulm_set.Reads as ulm_set
use Rattle.ulm.proofs.ulm_salvage.Reads as ulm_salvage
use Rattle.ulm.proofs.ulm_write.Reads as ulm_write
use Rattle.ulm.proofs.ulm_radial.Reads as ulm_radial
use Rattle.ulm.proofs.ulm_block.Reads as ulm_block
use Rattle.ulm.proofs.ulm_gates.Reads as ulm_gates
use Rattle.ulm.proofs.ulm_gate.Reads as ulm_gate
use Rattle.ulm.proofs.ulm_value.Reads as ulm_value
use Rattle.ulm.proofs.ulm_request.Reads as ulm_request
use Rattle.ulm.proofs.ulm_write_request.Reads as ulm_write_request
use Rattle.ulm.proofs.ulm_censor.Reads as ulm_censor
use Rattle.ulm.proofs.ulm_write_censor.Reads as ulm_write_censor
use Rattle.ulm.proofs.ulm_map.Reads as ulm_map
use Rattle.ulm.proofs.ulm_map_code.Reads as ulm_map_code
use Rattle.ulm.proofs.ulm_compare_maps.Reads as ulm_compare_maps
use Rattle.demands.specs.Notions.{OfTheTable}

-- a struct's members: the first is n, every other is 0
abbrev pub OnlyNumber : List ℕ → ℕ → Type 0
OnlyNumber [] n = ⊥
OnlyNumber (x ∷ xs) n = (x ≡ n) × Each (λ (y : ℕ). y ≡ 0) xs

-- ---- a function by the property P of a struct that its contract is: `Blank r n` is what a refusal's struct holds, `Shows r v` names each
-- member of one that shows v
pub record Shown {R A : Type 0} (P : R → Type 0) (Blank : R → ℕ → Type 0) (Shows : R → A → Type 0) (right : Answer A) : Type 0 where
  pub one : One P
  pub refuses : (r : R) (n : ℕ) → P r → right ≡ refused n → Blank r n × OfTheTable n
  pub accepts : (r : R) (v : A) → P r → right ≡ given v → Shows r v

-- the same for a function that writes to lent memory, which held `out`
pub record ShownLent {R O A : Type 0} (P : R → O → Type 0) (Blank : R → ℕ → Type 0) (Shows : R → A → Type 0) (right : Outcome O A)
    (out : O) : Type 0 where
  pub one : One (λ (p : R × O). P p.0 p.1)
  pub refuses : (r : R) (after : O) (n : ℕ) → P r after → right.answer ≡ refused n → Blank r n × OfTheTable n × (after ≡ out)
  pub accepts : (r : R) (after : O) (v : A) → P r after → right.answer ≡ given v → Shows r v × (after ≡ right.output)

-- ---- each struct: its members in the order of include/ulm.h, and what they show
-- a frame, or the end of the stream, with the place in either case
abbrev pub BlankFrame : ℕ → UlmFrame → ℕ → Type 0
BlankFrame place r n = OnlyNumber (r.refusal ∷ r.found ∷ r.kind ∷ r.second ∷ r.start ∷ r.size ∷ []) n × (r.next ≡ place)

pub data ShowsFrame (place : ℕ) (r : UlmFrame) : Stream → Type 0 where
  at_end : BlankFrame place r 0 → ShowsFrame place r end
  read : (f : Frame) → (r.refusal ≡ 0) × (r.found ≡ 1) × (r.kind ≡ f.kind) × (r.second ≡ f.second) × (r.start ≡ f.start)
      × (r.size ≡ f.size.0) × (r.next ≡ f.next)
      → ShowsFrame place r (frame f)

abbrev pub header_members : UlmHeader → List ℕ
header_members r = r.refusal ∷ r.size ∷ r.channel ∷ r.kind ∷ r.sequence ∷ r.date ∷ r.ms ∷ r.segments ∷ r.number ∷ []

pub record ShowsHeader (r : UlmHeader) (h : Header) : Type 0 where
  pub refusal : r.refusal ≡ 0
  pub size : r.size ≡ h.size.0
  pub channel : r.channel ≡ h.channel
  pub kind : r.kind ≡ h.kind
  pub sequence : r.sequence ≡ h.sequence
  pub date : r.date ≡ h.date
  pub ms : r.ms ≡ h.milliseconds
  pub segments : r.segments ≡ h.segments
  pub number : r.number ≡ h.number

abbrev pub set_members : UlmSet → List ℕ
set_members r = r.refusal ∷ r.size ∷ r.channel ∷ r.kind ∷ r.sequence ∷ r.date ∷ r.ms ∷ r.segments ∷ r.number ∷ r.length ∷ []

pub record ShowsSet (r : UlmSet) (s : SetSays) : Type 0 where
  pub refusal : r.refusal ≡ 0
  pub size : r.size ≡ s.header.size.0
  pub channel : r.channel ≡ s.header.channel
  pub kind : r.kind ≡ s.header.kind
  pub sequence : r.sequence ≡ s.header.sequence
  pub date : r.date ≡ s.header.date
  pub ms : r.ms ≡ s.header.milliseconds
  pub segments : r.segments ≡ s.header.segments
  pub number : r.number ≡ s.header.number
  pub long : r.length ≡ s.long.0

abbrev pub salvage_members : UlmSalvage → List ℕ
salvage_members r = r.refusal ∷ r.kept ∷ r.length ∷ r.runs ∷ []

pub record ShowsSalvage (r : UlmSalvage) (v : Report) : Type 0 where
  pub refusal : r.refusal ≡ 0
  pub kept : r.kept ≡ v.kept
  pub long : r.length ≡ v.long
  pub runs : r.runs ≡ v.runs

abbrev pub written_members : UlmWritten → List ℕ
written_members r = r.refusal ∷ r.length ∷ []

pub record ShowsWritten (r : UlmWritten) (size : Bytes) : Type 0 where
  pub refusal : r.refusal ≡ 0
  pub long : r.length ≡ size.0

abbrev pub radial_members : UlmRadial → List ℕ
radial_members r =
    r.refusal ∷ r.station ∷ r.time ∷ r.date ∷ r.azimuth_number ∷ r.azimuth ∷ r.radial_length ∷ r.spacing ∷ r.status
    ∷ r.elevation_number ∷ r.sector ∷ r.elevation ∷ r.blanking ∷ r.indexing ∷ r.blocks ∷ []

pub record ShowsRadial (r : UlmRadial) (d : Description) : Type 0 where
  pub refusal : r.refusal ≡ 0
  pub station : r.station ≡ d.station
  pub time : r.time ≡ d.time
  pub date : r.date ≡ d.date
  pub azimuth_number : r.azimuth_number ≡ d.azimuth_number
  pub azimuth : r.azimuth ≡ d.azimuth
  pub long : r.radial_length ≡ d.size
  pub spacing : r.spacing ≡ d.spacing
  pub status : r.status ≡ d.status
  pub elevation_number : r.elevation_number ≡ d.elevation_number
  pub sector : r.sector ≡ d.sector
  pub elevation : r.elevation ≡ d.elevation
  pub blanking : r.blanking ≡ d.spot
  pub indexing : r.indexing ≡ d.indexing
  pub blocks : r.blocks ≡ block_count d

abbrev pub block_members : UlmBlock → List ℕ
block_members r =
    r.refusal ∷ r.found ∷ r.name ∷ r.reserved ∷ r.gates ∷ r.first ∷ r.interval ∷ r.overlay ∷ r.noise ∷ r.flags ∷ r.word
    ∷ r.scale
    ∷ r.offset ∷ r.start ∷ r.size ∷ []

-- of a moment its head besides; of a constant block 0 in those members
pub record ShowsMoment (r : UlmBlock) (m : Moment) : Type 0 where
  pub reserved : r.reserved ≡ m.reserved
  pub gates : r.gates ≡ gates m
  pub first : r.first ≡ m.first
  pub interval : r.interval ≡ m.interval
  pub overlay : r.overlay ≡ m.overlay
  pub noise : r.noise ≡ m.noise
  pub flags : r.flags ≡ m.flags
  pub word : r.word ≡ m.word
  pub scale : r.scale ≡ m.scale
  pub offset : r.offset ≡ m.offset

abbrev pub ShowsMomentIfAny : UlmBlock → Option Moment → Type 0
ShowsMomentIfAny r none =
    OnlyNumber (r.reserved ∷ r.gates ∷ r.first ∷ r.interval ∷ r.overlay ∷ r.noise ∷ r.flags ∷ r.word ∷ r.scale ∷ r.offset ∷ []) 0
ShowsMomentIfAny r (some m) = ShowsMoment r m

abbrev pub ShowsBlock : UlmBlock → Asked → Type 0
ShowsBlock r no_such = OnlyNumber (block_members r) 0
ShowsBlock r (lies k) =
    (r.refusal ≡ 0) × (r.found ≡ 1) × (r.name ≡ k.name) × (r.start ≡ k.place) × (r.size ≡ k.size) × ShowsMomentIfAny r k.moment

abbrev pub gates_members : UlmGates → List ℕ
gates_members r = r.refusal ∷ r.gates ∷ r.word ∷ r.scale ∷ r.offset ∷ r.first ∷ r.interval ∷ r.start ∷ r.size ∷ []

pub record ShowsGates (r : UlmGates) (m : Moment) : Type 0 where
  pub refusal : r.refusal ≡ 0
  pub gates : r.gates ≡ gates m
  pub word : r.word ≡ m.word
  pub scale : r.scale ≡ m.scale
  pub offset : r.offset ≡ m.offset
  pub first : r.first ≡ m.first
  pub interval : r.interval ≡ m.interval
  pub start : r.start ≡ m.place + moment_head
  pub size : r.size ≡ gate_bytes m

-- the value by its bits
abbrev pub gate_members : UlmGate → List ℕ
gate_members r = r.refusal ∷ r.kind ∷ to_bits binary32 r.value ∷ []

abbrev pub ShowsWorth : UlmGate → Worth → Type 0
ShowsWorth r (worth v) = (r.refusal ≡ 0) × (r.kind ≡ 0) × (r.value ≡ v)
ShowsWorth r below_threshold = (r.refusal ≡ 0) × (r.kind ≡ 1) × (to_bits binary32 r.value ≡ 0)
ShowsWorth r range_folded = (r.refusal ≡ 0) × (r.kind ≡ 2) × (to_bits binary32 r.value ≡ 0)

abbrev pub ShowsRequest : UlmRequest → ℕ → Type 0
ShowsRequest r code = (r.refusal ≡ 0) × (r.code ≡ code)

-- the count that the list begins with, and its halfwords after it, with 0 in the places past them
abbrev pub ShowsCensor : UlmCensor → List ℕ → Type 0
ShowsCensor r list = (r.refusal ≡ 0) × (r.count ≡ get_or list 0 0) × ((i : ℕ) → get_or r.regions i 0 ≡ get_or list (1 + i) 0)

pub record ShowsMap (r : UlmMap) (s : Summary) : Type 0 where
  pub refusal : r.refusal ≡ 0
  pub date : r.date ≡ s.date
  pub minutes : r.minutes ≡ s.minutes
  pub elevations : r.elevations ≡ s.elevations

abbrev pub ShowsCode : UlmMapCode → ℕ → Type 0
ShowsCode r code = (r.refusal ≡ 0) × (r.code ≡ code)

pub record ShowsComparison (r : UlmComparison) (c : Comparison) : Type 0 where
  pub refusal : r.refusal ≡ 0
  pub old_elevations : r.old_elevations ≡ c.old_elevations
  pub new_elevations : r.new_elevations ≡ c.new_elevations
  pub differences : r.differences ≡ c.differences

-- ---- every function of the C face, by its name in include/ulm.h
pub record FaceOfC : Type 0 where
  pub frame : (κs buf place s : _) → Shown (λ r. ulm_frame.Learnt κs (buf, (place, tt)) r s) (BlankFrame place) (ShowsFrame place)
      (frame_at buf.now place)
  pub header : (κs msg s : _)
      → Shown (λ r. ulm_header.Learnt κs (msg, tt) r s) (λ (r : UlmHeader) n. OnlyNumber (header_members r) n) ShowsHeader
      (header_of msg.now)
  pub set : (κs buf out buf' : _)
      → ShownLent (λ r after. ulm_set.Learnt κs (buf, (out, tt)) r (buf', (at_last out after, tt)))
      (λ (r : UlmSet) n. OnlyNumber (set_members r) n) ShowsSet
      (set_of buf.now out.now) out.now
  pub salvage : (κs buf out runs buf' : _)
      → ShownLent (λ r after. ulm_salvage.Learnt κs (buf, (out, (runs, tt))) r
      (buf', (at_last out after.0, (at_last runs after.1, tt))))
      (λ (r : UlmSalvage) n. OnlyNumber (salvage_members r) n) ShowsSalvage (salvage_of buf.now out.now runs.now) (out.now, runs.now)
  pub write : (κs channel kind sequence date ms body out channel' kind' sequence' date' ms' body' : _)
      → ShownLent
      (λ r after. ulm_write.Learnt κs (channel, (kind, (sequence, (date, (ms, (body, (out, tt))))))) r
      (channel', (kind', (sequence', (date', (ms', (body', (at_last out after, tt))))))))
      (λ (r : UlmWritten) n. OnlyNumber (written_members r) n) ShowsWritten
      (write_of (record { channel = channel; kind = kind; sequence = sequence; date = date; milliseconds = ms }) body.now
      out.now) out.now
  pub radial : (κs body s : _)
      → Shown (λ r. ulm_radial.Learnt κs (body, tt) r s) (λ (r : UlmRadial) n. OnlyNumber (radial_members r) n) ShowsRadial
      (radial_of body.now)
  pub block : (κs body k s : _)
      → Shown (λ r. ulm_block.Learnt κs (body, (k, tt)) r s) (λ (r : UlmBlock) n. OnlyNumber (block_members r) n) ShowsBlock
      (block_of body.now k)
  pub gates : (κs body name s : _)
      → Shown (λ r. ulm_gates.Learnt κs (body, (name, tt)) r s) (λ (r : UlmGates) n. OnlyNumber (gates_members r) n) ShowsGates
      (moment_of body.now name)
  pub gate : (κs body name gate s : _)
      → Shown (λ r. ulm_gate.Learnt κs (body, (name, (gate, tt))) r s) (λ (r : UlmGate) n. OnlyNumber (gate_members r) n)
      ShowsWorth (gate_of body.now name gate)
  pub value : (κs code scale offset s : _)
      → Shown (λ r. ulm_value.Learnt κs (code, (scale, (offset, tt))) r s) (λ (r : UlmGate) n. OnlyNumber (gate_members r) n)
      ShowsWorth (value_of code scale offset)
  pub request : (κs body s : _)
      → Shown (λ r. ulm_request.Learnt κs (body, tt) r s) (λ (r : UlmRequest) n. OnlyNumber (r.refusal ∷ r.code ∷ []) n)
      ShowsRequest (request_of body.now)
  pub write_request : (κs list out list' : _)
      → ShownLent (λ r after. ulm_write_request.Learnt κs (list, (out, tt)) r (list', (at_last out after, tt)))
      (λ (r : UlmWritten) n. OnlyNumber (written_members r) n)
      ShowsWritten (request_written list.now out.now) out.now
  pub censor : (κs body s : _)
      → Shown (λ r. ulm_censor.Learnt κs (body, tt) r s) (λ (r : UlmCensor) n. OnlyNumber (r.refusal ∷ r.count ∷ r.regions) n)
      ShowsCensor (censor_of body.now)
  pub write_censor : (κs list out list' : _)
      → ShownLent (λ r after. ulm_write_censor.Learnt κs (list, (out, tt)) r (list', (at_last out after, tt)))
      (λ (r : UlmWritten) n. OnlyNumber (written_members r) n)
      ShowsWritten (censor_written list.now out.now) out.now
  pub map : (κs body s : _)
      → Shown (λ r. ulm_map.Learnt κs (body, tt) r s) (λ (r : UlmMap) n. OnlyNumber (r.refusal ∷ r.date ∷ r.minutes
      ∷ r.elevations ∷ []) n) ShowsMap
      (summary_of body.now)
  pub map_code : (κs body elevation azimuth kilometre s : _)
      → Shown (λ r. ulm_map_code.Learnt κs (body, (elevation, (azimuth, (kilometre, tt)))) r s) (λ (r : UlmMapCode) n. OnlyNumber
      (r.refusal ∷ r.code ∷ []) n) ShowsCode
      (code_of body.now elevation azimuth kilometre)
  pub compare_maps : (κs old new out old' new' : _)
      → ShownLent (λ r after. ulm_compare_maps.Learnt κs (old, (new, (out, tt))) r (old', (new', (at_last out after, tt))))
      (λ (r : UlmComparison) n. OnlyNumber (r.refusal ∷ r.old_elevations ∷ r.new_elevations ∷ r.differences ∷ []) n) ShowsComparison
      (comparison_of old.now new.now out.now) out.now
