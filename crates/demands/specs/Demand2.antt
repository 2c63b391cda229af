-- Demand 2. "What is read .. is what the interface document .. defines": of every call of the compiled functions
-- that accepts, the table of what it reports stands in the bytes that it was given. And "a message that we write and then reassemble, given
-- room, comes back with body, channel, type, sequence number, date and milliseconds". `Fits`, `Octets`: numbers given are of their types,
-- bytes are bytes.
use Rattle.std.specs.Prelude.{ℕ, ◌+◌, ◌*◌, ◌≤◌, ◌≡◌, ◌↔◌, List, [], ◌∷◌, length, take, drop, Ok, Some}
use denote.Ref.{Bor, MutBor, at_last}
use Rattle.form_spec.specs.Forms.{body_by}
use Rattle.wire.specs.Numbers.{Octets}
use Rattle.wire.specs.Tables.{render, Holds}
use Rattle.wire.specs.Sizes.{bytes}
use Rattle.wire.specs.Writing.{filled}
use Rattle.wire.specs.declared.Bytes.{Bytes}
use Rattle.frame.specs.Session.{head_table, head_size, whole_long}
use Rattle.frame.proofs.frame_at.Reads as frame_at
use Rattle.header.specs.Header.{header_size}
use Rattle.header.specs.declared.Header.{Header}
use Rattle.header_form.specs.Theorems.{Stands}
use Rattle.header.proofs.read_header.Reads as read_header
use Rattle.request.specs.Request.{request_form}
use Rattle.request.proofs.read_request.Reads as read_request
use Rattle.censor.specs.Censor.{region_fields, censor_form}
use Rattle.censor.proofs.read_censor.Reads as read_censor
use Rattle.map_spec.specs.Map.{FilterMap, InRange, map_bytes}
use Rattle.map_spec.specs.Reading.{Summary}
use Rattle.map.proofs.check_map.Reads as check_map
use Rattle.set_segment.proofs.segment_at.Reads as segment_at
use Rattle.set_spec.specs.Whole.{Whole}
use Rattle.set.proofs.read_set.Reads as read_set
use Rattle.writer_head.specs.declared.Given.{Given}
use Rattle.writer.specs.Writing.{segments_of}
use Rattle.writer.proofs.write_message.Reads as write_message
use Rattle.round_trip.specs.Theorems.{Fits, header_back}
use Rattle.c_set.specs.declared.UlmSet.{UlmSet}
use Rattle.ulm.proofs.ulm_set.Reads as ulm_set
use Rattle.ulm.proofs.ulm_write.Reads as ulm_write

-- the body is that of one map in range, and these are its values
pub record MapStands (body : List ℕ) (s : Summary) : Type 0 where
  pub map : FilterMap
  pub range : InRange map
  pub table : body ≡ map_bytes map
  pub date : s.date ≡ map.date
  pub minutes : s.minutes ≡ map.minutes
  pub elevations : s.elevations ≡ length map.elevations

-- a whole set, segment 1's header h, and in an output that held `out` its body with what stood there after it
pub record Joins (frames out : List ℕ) (h : Header) (long : Bytes) (after : List ℕ) : Type 0 where
  pub body : List ℕ
  pub whole : Whole frames h body
  pub room : length body ≤ length out
  pub told : long ≡ bytes (length body)
  pub left : after ≡ filled body out

-- what `ulm_set` answers and leaves of what `ulm_write` was given, member by member
pub record BackInC (given : Given) (contents room : List ℕ) (r : UlmSet) (after : List ℕ) : Type 0 where
  pub refusal : r.refusal ≡ 0
  pub channel : r.channel ≡ given.channel
  pub kind : r.kind ≡ given.kind
  pub sequence : r.sequence ≡ given.sequence
  pub date : r.date ≡ given.date
  pub ms : r.ms ≡ given.milliseconds
  pub segments : r.segments ≡ length (segments_of given.kind contents)
  pub number : r.number ≡ 1
  pub long : r.length ≡ length contents
  pub body : after ≡ filled contents room

-- what was given to `ulm_write`, by its parameters' names
abbrev pub given_by : ℕ → ℕ → ℕ → ℕ → ℕ → Given
given_by channel kind sequence date ms = record { channel = channel; kind = kind; sequence = sequence; date = date; milliseconds = ms }

pub record Demand2 : Type 1 where
  -- ---- what is read
  pub frame : (κs : _) (stream : Bor (List ℕ)) (place f s : _) → Octets stream.now → frame_at.Learnt κs (stream, (place, tt)) (Ok (Some f)) s
      → Holds stream.now place (render (head_table f.kind f.second f.size))
  pub header : (κs : _) (message : Bor (List ℕ)) (h s : _) → Octets message.now → read_header.Learnt κs (message, tt) (Ok h) s → Stands message.now h
  -- a segment's data begins after both heads, and its frame ends with its body
  pub segment : (κs : _) (frames : Bor (List ℕ)) (at p s : _) → segment_at.Learnt κs (frames, (at, tt)) (Ok p) s
      → (p.start ≡ at + (head_size + header_size)) × (p.next ≡ at + whole_long (drop at frames.now))
  -- messages 9, 8 and 15: the whole body, and nothing else
  pub request : (κs : _) (body : Bor (List ℕ)) (code s : _) → Octets body.now → read_request.Learnt κs (body, tt) (Ok code) s
      → body.now ≡ body_by request_form (code ∷ [])
  pub censor : (κs : _) (body : Bor (List ℕ)) (r s : _) → Octets body.now → read_censor.Learnt κs (body, tt) (Ok r) s
      → body.now ≡ body_by censor_form (r.count ∷ take (region_fields * r.count) r.regions)
  pub map : (κs : _) (body : Bor (List ℕ)) (m s : _) → Octets body.now → check_map.Learnt κs (body, tt) (Ok m) s
      → MapStands body.now (record { date = m.date; minutes = m.minutes; elevations = m.elevations })
  -- `read_set` accepts exactly the whole sets that the output has room for
  pub whole : (κs : _) (frames : Bor (List ℕ)) (out : MutBor (List ℕ)) (set f after : _)
      → read_set.Learnt κs (frames, (out, tt)) (Ok set) (f, (at_last out after, tt)) ↔ Joins frames.now out.now set.header set.length after
  -- ---- what is written and read again
  -- what `write_message` accepted and wrote, given to `read_set` with room for the body, is answered with the header of what was given, N
  -- and number 1, and the length of the body; and the room holds the body and, after it, what it held. For every body and type.
  pub back : (κs given : _) (body : Bor (List ℕ)) (out size g b written : _) (κs' : _) (frames : Bor (List ℕ)) (room : MutBor (List ℕ)) (r f after : _) → Fits given
      → write_message.Learnt κs (given, (body, (out, tt))) (Ok size) (g, (b, (at_last out written, tt)))
      → frames.now ≡ take size.0 written
      → length body.now ≤ length room.now
      → read_set.Learnt κs' (frames, (room, tt)) r (f, (at_last room after, tt))
      → (r ≡ Ok (record { header = header_back given body.now; length = bytes (length body.now) })) × (after ≡ filled body.now room.now)
  -- the same of `ulm_write` and `ulm_set`
  pub back_in_c : (κs channel kind sequence date ms : _) (body : Bor (List ℕ)) (out r c k q d m b written : _) (κs' : _) (frames : Bor (List ℕ)) (room : MutBor (List ℕ)) (a f after : _)
      → Fits (given_by channel kind sequence date ms)
      → ulm_write.Learnt κs (channel, (kind, (sequence, (date, (ms, (body, (out, tt))))))) r
      (c, (k, (q, (d, (m, (b, (at_last out written, tt)))))))
      → r.refusal ≡ 0
      → frames.now ≡ take r.length written
      → length body.now ≤ length room.now
      → ulm_set.Learnt κs' (frames, (room, tt)) a (f, (at_last room after, tt))
      → BackInC (given_by channel kind sequence date ms) body.now room.now a after
