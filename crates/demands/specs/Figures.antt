-- The figures of include/ulm.h by which a caller sizes what it lends, of every call of the compiled functions, as Notions says it: how much
-- is told at most, and how much room is enough.
use Rattle.std.specs.Prelude.{ℕ, suc, ◌+◌, ◌-◌, ◌*◌, ◌/◌, ◌≤◌, ◌<◌, ◌≡◌, List, length}
use denote.Ref.{Bor, MutBor, at_last}
use Rattle.wire.specs.Numbers.{Octets}
use Rattle.frame.specs.Session.{head_size, session_limit}
use Rattle.header_rule.specs.Rules.{radial_type}
use Rattle.header.specs.Header.{header_size}
use Rattle.salvage_spec.specs.Theorems.{least_frame}
use Rattle.writer.specs.Writing.{segment_data, segments_of, longest, longest_radial}
use Rattle.radial_spec.specs.Description.{most_blocks, most_gates}
use Rattle.censor.specs.Censor.{most_regions, region_fields, count}
use Rattle.censor.specs.Told.{places}
use Rattle.map_spec.specs.Map.{most_elevations, azimuths}
use Rattle.compare_spec.specs.Differences.{most_runs}
use Rattle.compare_spec.specs.Comparing.{most_halfwords}
use Rattle.ulm.proofs.ulm_frame.Reads as ulm_frame
use Rattle.ulm.proofs.ulm_set.Reads as ulm_set
use Rattle.ulm.proofs.ulm_salvage.Reads as ulm_salvage
use Rattle.ulm.proofs.ulm_write.Reads as ulm_write
use Rattle.ulm.proofs.ulm_radial.Reads as ulm_radial
use Rattle.ulm.proofs.ulm_gates.Reads as ulm_gates
use Rattle.ulm.proofs.ulm_write_request.Reads as ulm_write_request
use Rattle.ulm.proofs.ulm_censor.Reads as ulm_censor
use Rattle.ulm.proofs.ulm_write_censor.Reads as ulm_write_censor
use Rattle.ulm.proofs.ulm_map.Reads as ulm_map
use Rattle.ulm.proofs.ulm_compare_maps.Reads as ulm_compare_maps

-- the bytes that a message is written as: "The length written is the body's plus 28 bytes for each segment"
abbrev pub bytes_of : ℕ → List ℕ → ℕ
bytes_of kind body = length body + (head_size + header_size) * length (segments_of kind body)

pub record Figures : Type 1 where
  -- "its body of at most 1,048,576 bytes"
  pub frame : (κs buf place r s : _) → ulm_frame.Learnt κs (buf, (place, tt)) r s → r.size ≤ session_limit.0
  -- "At most 307,200 bytes are written (1,048,560 for type 31)", so 13 is for an output of fewer than the longest radial
  pub set : (κs buf out r b after : _) → ulm_set.Learnt κs (buf, (out, tt)) r (b, (at_last out after, tt))
      → r.length ≤ (longest r.kind).0
  pub set_room : (κs buf : _) (out : MutBor (List ℕ)) (r b after : _) → ulm_set.Learnt κs (buf, (out, tt)) r (b, (at_last out after, tt)) → r.refusal ≡ 13
      → length out.now < longest_radial.0
  -- "out_len = len and n = 2 * ((len + 28) / 29) always suffice"
  pub salvage_room : (κs : _) (buf : Bor (List ℕ)) (out runs : MutBor (List ℕ)) (r b after listed : _)
      → ulm_salvage.Learnt κs (buf, (out, (runs, tt))) r (b, (at_last out after, (at_last runs listed, tt)))
      → length buf.now ≤ length out.now
      → 2 * ((length buf.now + least_frame) / suc least_frame) ≤ length runs.now
      → r.refusal ≡ 0
  -- "type 31 always makes one frame"; another type makes one for each 2,400 bytes, the last shorter or full, and an empty body one
  pub radial_segments : (kind : ℕ) (body : List ℕ) → kind ≡ radial_type → length (segments_of kind body) ≡ 1
  pub segments : (kind : ℕ) (body : List ℕ) → (kind ≡ radial_type → ⊥)
      → length (segments_of kind body) ≡ (length body - 1) / segment_data.0 + 1
  pub write : (κs channel kind sequence date ms : _) (body : Bor (List ℕ)) (out r c k q d m b after : _)
      → ulm_write.Learnt κs (channel, (kind, (sequence, (date, (ms, (body, (out, tt))))))) r
      (c, (k, (q, (d, (m, (b, (at_last out after, tt)))))))
      → r.refusal ≡ 0
      → r.length ≡ bytes_of kind body.now
  pub write_room : (κs channel kind sequence date ms : _) (body : Bor (List ℕ)) (out : MutBor (List ℕ)) (r c k q d m b after : _)
      → ulm_write.Learnt κs (channel, (kind, (sequence, (date, (ms, (body, (out, tt))))))) r
      (c, (k, (q, (d, (m, (b, (at_last out after, tt)))))))
      → r.refusal ≡ 13
      → length out.now < bytes_of kind body.now
  -- "4 to 9 blocks", "at most 1,840 gates of 8 or 16 bits"
  pub blocks : (κs : _) (body : Bor (List ℕ)) (r s : _) → Octets body.now → ulm_radial.Learnt κs (body, tt) r s → r.blocks ≤ most_blocks
  pub gates : (κs : _) (body : Bor (List ℕ)) (name r s : _) → Octets body.now → ulm_gates.Learnt κs (body, (name, tt)) r s
      → (r.gates ≤ most_gates) × (r.size ≤ 2 * most_gates)
  -- "Writes the body of a request, 2 bytes"
  pub request : (κs list out r l after : _) → ulm_write_request.Learnt κs (list, (out, tt)) r (l, (at_last out after, tt))
      → r.refusal ≡ 0 → r.length ≡ 2
  pub request_room : (κs list : _) (out : MutBor (List ℕ)) (r l after : _) → ulm_write_request.Learnt κs (list, (out, tt)) r (l, (at_last out after, tt))
      → r.refusal ≡ 13
      → length out.now < 2
  -- "uint16_t regions[150]", "of regions, 0 to 25"; "The length is 2 + 12n", n the first number of the list
  pub regions : (κs body r s : _) → ulm_censor.Learnt κs (body, tt) r s → (length r.regions ≡ places) × (r.count ≤ most_regions)
  pub censor : (κs : _) (list : Bor (List ℕ)) (out r l after : _) → ulm_write_censor.Learnt κs (list, (out, tt)) r (l, (at_last out after, tt)) → r.refusal ≡ 0
      → (r.length ≡ 2 + 2 * region_fields * count list.now) × (count list.now ≤ most_regions)
  pub censor_room : (κs : _) (list : Bor (List ℕ)) (out : MutBor (List ℕ)) (r l after : _) → ulm_write_censor.Learnt κs (list, (out, tt)) r (l, (at_last out after, tt))
      → r.refusal ≡ 13
      → length out.now < 2 + 2 * region_fields * count list.now
  -- "at most 70,200"; and two maps that `ulm_map` accepts are compared in 421,200 halfwords
  pub compare : (κs : _) (old new : Bor (List ℕ)) (out r o n after : _) → Octets old.now → Octets new.now
      → ulm_compare_maps.Learnt κs (old, (new, (out, tt))) r (o, (n, (at_last out after, tt)))
      → r.differences ≤ most_elevations * (azimuths * most_runs)
  pub compare_room : (κs κs₁ κs₂ : _) (old new : Bor (List ℕ)) (out : MutBor (List ℕ)) (a b r s t o n after : _) → Octets old.now → Octets new.now
      → ulm_map.Learnt κs₁ (old, tt) a s
      → a.refusal ≡ 0
      → ulm_map.Learnt κs₂ (new, tt) b t
      → b.refusal ≡ 0
      → most_halfwords ≤ length out.now
      → ulm_compare_maps.Learnt κs (old, (new, (out, tt))) r (o, (n, (at_last out after, tt)))
      → r.refusal ≡ 0
