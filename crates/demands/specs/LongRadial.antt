-- K11. "A research radar sends message 31 beyond 65,534 halfwords. Size 65,535 now means that the two segment fields together, high half
-- first, hold the length in bytes with the 16-byte header". Of every call of the compiled functions, as Notions says it; what Demand1,
-- Demand2 and Wall say, they say of both forms.
use Rattle.std.specs.Prelude.{ℕ, ◌+◌, ◌*◌, ◌≤◌, ◌<◌, ◌≡◌, ◌↔◌, List, length, get_or, Ok, Err}
use Rattle.wire.specs.declared.refusal.Refusal.TheVariants.{Size, DateOrTime, «Type», Segment}
use denote.Ref.{Bor, at_last}
use Rattle.wire.specs.Numbers.{num, Octets}
use Rattle.wire.specs.Checks.{pick}
use Rattle.wire.specs.Answers.{given}
use Rattle.frame.specs.Session.{head_size}
use Rattle.header_rule.specs.Rules.{too_large, long_mark, not_permitted, radial_type}
use Rattle.header.specs.Header.{header_size, count_place, number_place, stored_in, is_long, header_in}
use Rattle.header.specs.Theorems.{ButTwoBytes}
use Rattle.header_form.specs.Theorems.{Long, LengthHolds, TimeHolds, CountsAsOne}
use Rattle.header.proofs.read_header.Reads as read_header
use Rattle.writer.specs.Theorems.{RadialForm}
use Rattle.writer.proofs.write_message.Reads as write_message
use Rattle.radial_spec.specs.Description.{Description, Named}
use Rattle.radial_spec.specs.Refusal.{radial_of}
use Rattle.c_frame.specs.declared.UlmHeader.{UlmHeader}
use Rattle.ulm.proofs.ulm_header.Reads as ulm_header
use Rattle.ulm.proofs.ulm_write.Reads as ulm_write
use Rattle.demands.specs.Demand3.{SameFromEach}
use Rattle.demands.specs.Wall.{Walked, on_the_wall}

-- what `ulm_header` answers of a message of the long form, member by member: "It counts as N = 1, number 1, .., and its size is reported as
-- the true length in halfwords."
pub record CountsInC (b : List ℕ) (r : UlmHeader) : Type 0 where
  pub size : r.size * 2 ≡ length b
  pub segments : r.segments ≡ 1
  pub number : r.number ≡ 1

-- the most that the two bytes of the radial length can say
abbrev pub most_said : ℕ
most_said = 65535

pub record LongRadial : Type 1 where
  -- ---- the header: "even, 131,070 to 1,048,576, equal to the frame's body, otherwise 5"
  pub accepted : (κs : _) (message : Bor (List ℕ)) (r s : _) → Long message.now → read_header.Learnt κs (message, tt) r s
      → (r ≡ Ok (header_in message.now)) ↔ (LengthHolds message.now × TimeHolds message.now)
  pub counts : (κs : _) (message : Bor (List ℕ)) (h s : _) → Long message.now → read_header.Learnt κs (message, tt) (Ok h) s → CountsAsOne message.now h
  pub wrong_length : (κs : _) (message : Bor (List ℕ)) (r s : _) → Long message.now → (LengthHolds message.now → ⊥)
      → read_header.Learnt κs (message, tt) r s → r ≡ Err Size
  pub wrong_time : (κs : _) (message : Bor (List ℕ)) (r s : _) → Long message.now → LengthHolds message.now → (TimeHolds message.now → ⊥)
      → read_header.Learnt κs (message, tt) r s → r ≡ Err DateOrTime
  -- "Only type 31 may use it: a type not permitted still gets 6, any other type with size 65,535 gets 7, and 5 isn't tested for them."
  pub other : (κs : _) (message : Bor (List ℕ)) (r s : _) → header_size ≤ length message.now → num 2 message.now 0 ≡ long_mark.0
      → (num 1 message.now 3 ≡ radial_type → ⊥) → read_header.Learnt κs (message, tt) r s
      → r ≡ Err (pick (not_permitted (num 1 message.now 3)) «Type» Segment)
  -- "without K1's freedom": with another number in any two of the four bytes of the length the message is refused as 5
  pub fixed : (κs κs' : _) (message message' : Bor (List ℕ)) (h r' s s' place : _) → Octets message.now → Octets message'.now → Long message.now
      → count_place ≤ place → place ≤ number_place → ButTwoBytes place message.now message'.now → (message.now ≡ message'.now → ⊥)
      → read_header.Learnt κs (message, tt) (Ok h) s → read_header.Learnt κs' (message', tt) r' s' → r' ≡ Err Size
  -- in both forms the size is the true one, and the form goes by it
  pub size : (κs : _) (message : Bor (List ℕ)) (h s : _) → read_header.Learnt κs (message, tt) (Ok h) s
      → (h.size.0 * 2 ≡ length message.now) × (too_large h.size ≡ is_long (stored_in message.now))
  -- the same of `ulm_header`
  pub accepted_for_c : (κs : _) (message : Bor (List ℕ)) (r s : _) → Long message.now → ulm_header.Learnt κs (message, tt) r s
      → (r.refusal ≡ 0) ↔ (LengthHolds message.now × TimeHolds message.now)
  pub counts_for_c : (κs : _) (message : Bor (List ℕ)) (r s : _) → Long message.now → ulm_header.Learnt κs (message, tt) r s → r.refusal ≡ 0
      → CountsInC message.now r
  pub wrong_for_c : (κs : _) (message : Bor (List ℕ)) (r s : _) → Long message.now → (LengthHolds message.now → ⊥) → ulm_header.Learnt κs (message, tt) r s
      → r.refusal ≡ 5
  pub late_for_c : (κs : _) (message : Bor (List ℕ)) (r s : _) → Long message.now → LengthHolds message.now → (TimeHolds message.now → ⊥)
      → ulm_header.Learnt κs (message, tt) r s → r.refusal ≡ 8
  pub other_for_c : (κs : _) (message : Bor (List ℕ)) (r s : _) → header_size ≤ length message.now → num 2 message.now 0 ≡ long_mark.0
      → (num 1 message.now 3 ≡ radial_type → ⊥) → ulm_header.Learnt κs (message, tt) r s
      → r.refusal ≡ pick (not_permitted (num 1 message.now 3)) 6 7
  pub fixed_for_c : (κs κs' : _) (message message' : Bor (List ℕ)) (r r' s s' place : _) → Octets message.now → Octets message'.now → Long message.now
      → count_place ≤ place → place ≤ number_place → ButTwoBytes place message.now message'.now → (message.now ≡ message'.now → ⊥)
      → ulm_header.Learnt κs (message, tt) r s → r.refusal ≡ 0 → ulm_header.Learnt κs' (message', tt) r' s' → r'.refusal ≡ 5
  -- ---- the writer: "uses the long form exactly when the short one can't hold the length"
  pub written : (κs given : _) (body : Bor (List ℕ)) (out size g b after : _)
      → write_message.Learnt κs (given, (body, (out, tt))) (Ok size) (g, (b, (at_last out after, tt))) → given.kind ≡ radial_type
      → RadialForm body.now after
  pub written_for_c : (κs channel kind sequence date ms : _) (body : Bor (List ℕ)) (out r c k q d m b after : _)
      → ulm_write.Learnt κs (channel, (kind, (sequence, (date, (ms, (body, (out, tt))))))) r
      (c, (k, (q, (d, (m, (b, (at_last out after, tt)))))))
      → r.refusal ≡ 0
      → kind ≡ radial_type
      → RadialForm body.now after
  -- ---- the radial: "The radial length field is unchanged, so the extra bytes are ones that the description doesn't name."
  pub never_named : (b : List ℕ) (d : Description) (i : ℕ) → Octets b → radial_of b ≡ given d → most_said ≤ i → Named d i → ⊥
  -- so, with the length kept, they alter no answer, and no gate on the wall lies there
  pub beyond : (body body' : Bor (List ℕ)) (d : Description) → Octets body.now → length body'.now ≡ length body.now
      → radial_of body.now ≡ given d
      → ((i : ℕ) → i < most_said → get_or body'.now i 0 ≡ get_or body.now i 0)
      → SameFromEach body body'
  pub wall : (κs₁ κs₂ κs₃ s₁ s₂ s₃ buffer message body gates place name f h m : _)
      → Walked κs₁ κs₂ κs₃ s₁ s₂ s₃ buffer message body gates place name f h m
      → (on_the_wall place m).place + (on_the_wall place m).size ≤ place + head_size + header_size + most_said
