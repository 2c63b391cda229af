-- K1. "Where N is 1, any segment number is accepted and reported as 1; no header or set answer then depends on its two bytes."
-- Of every call of the compiled functions, as Notions says it. It is about headers that are not of the long form (K11): in the long form
-- the bytes of N and of the number hold the length, and the page LongRadial says that they have none of this freedom.
use Rattle.std.specs.Prelude.{ℕ, ◌+◌, ◌<◌, ◌≡◌, ◌⊎◌, ◌↔◌, false, length, Ok, Err}
use Rattle.wire.specs.declared.refusal.Refusal.TheVariants.{Segment}
use mathlib.Core.List.{List, ◌++◌, flatten}
use denote.Ref.{Bor, MutBor, at_last}
use Rattle.wire.specs.Numbers.{num}
use Rattle.wire.specs.Checks.{AllHold}
use Rattle.frame.specs.Session.{head_size}
use Rattle.header_rule.specs.Rules.{least_length}
use Rattle.header.specs.Header.{header_size, stored_in, is_long, header_in}
use Rattle.header.specs.Theorems.{Lone, number_place, ButTwoBytes}
use Rattle.header_form.specs.Theorems.{before_segment, lone_checks}
use Rattle.header.proofs.read_header.Reads as read_header
use Rattle.set_spec.specs.Theorems.{WholeFrames, LoneFrame}
use Rattle.set.proofs.read_set.Reads as read_set
use Rattle.writer.specs.Writing.{segments_of}
use Rattle.writer.proofs.write_message.Reads as write_message
use Rattle.ulm.proofs.ulm_header.Reads as ulm_header
use Rattle.ulm.proofs.ulm_set.Reads as ulm_set
use Rattle.ulm.proofs.ulm_write.Reads as ulm_write

-- two buffers that differ only in the two bytes of one frame's number: whole frames come first, then a frame of one segment, which has
-- that number, and the rest
pub record ButLoneNumber (frames frames' : List ℕ) : Type 0 where
  pub each : List (List ℕ)
  pub rest : List ℕ
  pub buffer : frames ≡ flatten each ++ rest
  pub whole : WholeFrames each
  pub lone : LoneFrame rest
  pub but : ButTwoBytes (length (flatten each) + head_size + number_place) frames frames'

pub record LoneSegment : Type 1 where
  -- "reported as 1", and where N is not 1 the number is the stored one
  pub one : (κs message h s : _) → read_header.Learnt κs (message, tt) (Ok h) s → h.segments ≡ 1 → h.number ≡ 1
  pub others : (κs : _) (message : Bor (List ℕ)) (h s : _) → read_header.Learnt κs (message, tt) (Ok h) s → (h.segments ≡ 1 → ⊥)
      → h.number ≡ num 2 message.now number_place
  -- "any segment number is accepted": a message of one segment is accepted exactly if all other checks hold
  pub accepted : (κs : _) (message : Bor (List ℕ)) (r s : _) → Lone message.now → read_header.Learnt κs (message, tt) r s
      → (r ≡ Ok (header_in message.now)) ↔ AllHold (lone_checks (stored_in message.now) (length message.now))
  -- "number 7 loses that cause for N = 1 only"
  pub outside : (κs : _) (message : Bor (List ℕ)) (r s : _) → is_long (stored_in message.now) ≡ false → ((stored_in message.now).segments ≡ 1 → ⊥)
      → AllHold (before_segment (stored_in message.now) (length message.now))
      → ((stored_in message.now).number ≡ 0) ⊎ ((stored_in message.now).segments < (stored_in message.now).number)
      → read_header.Learnt κs (message, tt) r s
      → r ≡ Err Segment
  -- two calls of `read_header`, or of `ulm_header`, give the same answer
  pub header : (κs κs' : _) (message message' : Bor (List ℕ)) (r r' s s' : _) → Lone message.now → ButTwoBytes number_place message.now message'.now
      → read_header.Learnt κs (message, tt) r s → read_header.Learnt κs' (message', tt) r' s' → r ≡ r'
  pub header_for_c : (κs κs' : _) (message message' : Bor (List ℕ)) (r r' s s' : _) → Lone message.now → ButTwoBytes number_place message.now message'.now
      → ulm_header.Learnt κs (message, tt) r s → ulm_header.Learnt κs' (message', tt) r' s' → r ≡ r'
  -- and so do two calls of `read_set` or of `ulm_set`; outputs that held the same then hold the same
  pub set : (κs κs' : _) (frames frames' : Bor (List ℕ)) (out out' : MutBor (List ℕ)) (r r' f f' after after' : _) → ButLoneNumber frames.now frames'.now → out.now ≡ out'.now
      → read_set.Learnt κs (frames, (out, tt)) r (f, (at_last out after, tt)) → read_set.Learnt κs' (frames', (out', tt)) r'
      (f', (at_last out' after', tt))
      → (r ≡ r') × (after ≡ after')
  pub set_for_c : (κs κs' : _) (frames frames' : Bor (List ℕ)) (out out' : MutBor (List ℕ)) (r r' f f' after after' : _) → ButLoneNumber frames.now frames'.now → out.now ≡ out'.now
      → ulm_set.Learnt κs (frames, (out, tt)) r (f, (at_last out after, tt)) → ulm_set.Learnt κs' (frames', (out', tt)) r'
      (f', (at_last out' after', tt))
      → (r ≡ r') × (after ≡ after')
  -- a message of one segment that `write_message` or `ulm_write` wrote has 1 in these bytes, where the short form holds it
  pub written : (κs given : _) (body : Bor (List ℕ)) (out size g b after : _)
      → write_message.Learnt κs (given, (body, (out, tt))) (Ok size) (g, (b, (at_last out after, tt)))
      → length (segments_of given.kind body.now) ≡ 1
      → header_size + length body.now < least_length.0
      → num 2 after (head_size + number_place) ≡ 1
  pub written_for_c : (κs channel kind sequence date ms : _) (body : Bor (List ℕ)) (out r c k q d m b after : _)
      → ulm_write.Learnt κs (channel, (kind, (sequence, (date, (ms, (body, (out, tt))))))) r
      (c, (k, (q, (d, (m, (b, (at_last out after, tt)))))))
      → r.refusal ≡ 0
      → length (segments_of kind body.now) ≡ 1
      → header_size + length body.now < least_length.0
      → num 2 after (head_size + number_place) ≡ 1
