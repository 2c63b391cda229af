-- Demand 2, from the theorems of the crates below. Assumes nothing.
use Prim.Native.Nat.{ℕ, ◌+◌, ◌*◌, ◌≤◌}
use mathlib.Core.Path.{◌≡◌, sym, ap, ◌∙◌}
use mathlib.Core.List.{List, ◌∷◌}
use lib.Dec.{eqb}
use lib.ListN.{length, take, drop}
use Rattle.wire.specs.Numbers.{Octets}
use Rattle.wire.specs.Checks.{pick}
use Rattle.std.specs.Prelude.{Ok}
use Rattle.wire.specs.Answers.{Answer, given, onward, Outcome, Promise}
use Rattle.set_segment.specs.Told.{placed}
use Rattle.wire.specs.Sizes.{bytes}
use Rattle.wire.specs.declared.Bytes.{Bytes}
use Rattle.wire.proofs.CheckLaws.{all_hold}
use Rattle.wire.proofs.AnswerLaws.{rule_given}
use Rattle.frame.specs.Session.{head_size, whole_long}
use Rattle.frame.proofs.Theorems.{head-stands}
use Rattle.header.specs.Header.{header_size}
use Rattle.header.specs.declared.Header.{Header}
use Rattle.header_form.proofs.Theorems.{header-stands}
use Rattle.request.proofs.Theorems.{body_is_table}
use Rattle.censor.specs.declared.Censor.{Censor}
use Rattle.form_spec.specs.Forms.{body_by}
use Rattle.censor.specs.Censor.{region_fields, censor_form, censor_of}
use Rattle.censor.specs.Told.{censor_shown, list_of}
use Rattle.censor.proofs.Theorems.{struct_tells, body_is_table as zones-are-table}
use Rattle.map_spec.specs.Reading.{Summary, map_checks, map_in, summary, summary_of}
use Rattle.map_spec.proofs.Theorems.{accepted_exactly}
use Rattle.compare_spec.proofs.InTurn.{map-given}
use Rattle.set_spec.specs.Segment.{own_checks, Placed, placed_in, segment_at}
use Rattle.set_spec.specs.Walk.{SetSays, set_of}
use Rattle.set_spec.specs.Theorems.{accepted}
use Rattle.set_spec.proofs.Accepted.{answering, accepted_exactly_if_whole}
use Rattle.set.specs.Told.{tell_set}
use Rattle.set.proofs.Welds.{set_apart}
use Rattle.writer_head.specs.declared.Given.{Given}
use Rattle.writer.specs.Writing.{write_of}
use Rattle.round_trip.specs.Theorems.{Fits, header_back}
use Rattle.round_trip.proofs.Theorems.{round_trip}
use Rattle.c_lent.specs.Face.{Leaves}
use Rattle.c_set.specs.declared.UlmSet.{UlmSet}
use Rattle.c_set.specs.Face.{set_face}
use Rattle.demands.specs.Demand2.{MapStands, Joins, BackInC, given_by, Demand2}
use Rattle.demands.proofs.Written.{wrote_for_c}

-- ---- a segment where it lies
segment_lies : (b : List ℕ) (at : ℕ) (p : Placed) → given p ≡ segment_at b at
    → (p.start ≡ at + (head_size + header_size)) × (p.next ≡ at + whole_long (drop at b))
unfolding segment_at
segment_lies b at p e =
    let q = (rule_given (own_checks (drop at b)) (placed_in (drop at b) at) p (sym e)).1 in
    (sym (ap (λ (x : Placed). x.start) q), sym (ap (λ (x : Placed). x.next) q))

-- ---- message 8: the struct tells the list
censor-stands : (body : List ℕ) (r : Censor) → Octets body → given r ≡ censor_shown (censor_of body) → body ≡ body_by censor_form (list_of r)
censor-stands body r o e =
    zones-are-table body (list_of r) o
    (sym (struct_tells body) ∙ ap (λ (a : Answer Censor). onward a (λ censor. given (list_of censor))) (sym e))

-- ---- message 15: the map that stands in the body
map-stands : (body : List ℕ) (s : Summary) → Octets body → given s ≡ summary_of body → MapStands body s
map-stands body s o e =
    let p = rule_given (map_checks body) (summary (map_in body)) s (sym e) in
    let m = (accepted_exactly body o (map_in body)).0 (map-given body (all_hold (map_checks body) p.0)) in
    record {
      map = map_in body;
      range = m.0;
      table = m.1;
      date = sym (ap (λ (x : Summary). x.date) p.1);
      minutes = sym (ap (λ (x : Summary). x.minutes) p.1);
      elevations = sym (ap (λ (x : Summary). x.elevations) p.1);
    }

-- ---- a set accepted by the rule, and by a whole buffer
module _ (frames out : List ℕ) (h : Header) (long : Bytes) (after : List ℕ) where
  joins : Promise tell_set (set_of frames out) (Ok (record { header = h; length = long })) after → Joins frames out h long after
  joins p =
      let a = answering frames out (record { header = h; long = long }) (sym p.answers) in
      let w = (accepted_exactly_if_whole frames out h a.body).0 a.is in
      record {
        body = a.body;
        whole = w.0;
        room = w.1;
        told = a.long;
        left = p.leaves ∙ ap (λ (o : Outcome (List ℕ) SetSays). o.output) a.is;
      }

  joined : Joins frames out h long after → Promise tell_set (set_of frames out) (Ok (record { header = h; length = long })) after
  joined j =
      let e = (accepted_exactly_if_whole frames out h j.body).1 (j.whole, j.room) in
      record {
        answers = ap (λ (l : Bytes). given (record { header = h; long = l })) j.told
            ∙ sym (ap (λ (o : Outcome (List ℕ) SetSays). o.answer) e);
        leaves = j.left ∙ sym (ap (λ (o : Outcome (List ℕ) SetSays). o.output) e);
      }

-- ---- written and read again
module _ (g : Given) (body out room : List ℕ) (size : Bytes) (written frames : List ℕ) (fits : Fits g)
    (e : (write_of g body out).answer ≡ given size)
    (l : written ≡ (write_of g body out).output) (f : frames ≡ take size.0 written) (h : length body ≤ length room) where
  set_back : set_of frames room ≡ accepted (header_back g body) body room
  set_back = ap (λ (x : List ℕ). set_of x room) (f ∙ ap (λ (x : List ℕ). take size.0 x) l) ∙ round_trip g body out room size fits e h

  back_in_c : (r : UlmSet) (after : List ℕ) → Leaves set_face (set_of frames room) r after
      → BackInC g body room r after
  back_in_c r after p =
      let s : r ≡ set_face (given (record { header = header_back g body; long = bytes (length body) })) =
      p.answers ∙ ap (λ (o : Outcome (List ℕ) SetSays). set_face o.answer) set_back
      in
      record {
        refusal = ap (λ (x : UlmSet). x.refusal) s;
        channel = ap (λ (x : UlmSet). x.channel) s;
        kind = ap (λ (x : UlmSet). x.kind) s;
        sequence = ap (λ (x : UlmSet). x.sequence) s;
        date = ap (λ (x : UlmSet). x.date) s;
        ms = ap (λ (x : UlmSet). x.ms) s;
        segments = ap (λ (x : UlmSet). x.segments) s;
        number = ap (λ (x : UlmSet). x.number) s;
        long = ap (λ (x : UlmSet). x.length) s;
        body = p.leaves ∙ ap (λ (o : Outcome (List ℕ) SetSays). o.output) set_back;
      }

pub demand2 : Demand2
demand2 = record {
  frame = λ κs stream place f s o l. head-stands stream.now place f o (sym l);
  header = λ κs message h s o l. header-stands message.now h o (sym l);
  segment = λ κs frames at p s l. segment_lies frames.now at (placed p) l;
  request = λ κs body code s o l. body_is_table body.now code o (sym l);
  censor = λ κs body r s o l. censor-stands body.now r o l;
  map = λ κs body m s o l. map-stands body.now (record { date = m.date; minutes = m.minutes; elevations = m.elevations }) o l;
  whole = λ κs frames out set f after. (joins frames.now out.now set.header set.length after, joined frames.now out.now set.header set.length after);
  back = λ κs given body out size g b written κs' frames room r f after fits w same h l.
      let e = set_back given body.now out.now room.now size written frames.now fits (sym w.answers) w.leaves same h in (
        set_apart r (Ok (record { header = header_back given body.now; length = bytes (length body.now) })) (l.answers
            ∙ ap (λ (o : Outcome (List ℕ) SetSays). o.answer) e),
        l.leaves ∙ ap (λ (o : Outcome (List ℕ) SetSays). o.output) e,
      );
  back_in_c = λ κs channel kind sequence date ms body out r c k q d m b written κs' frames room a f after fits w z same h l.
      let g = given_by channel kind sequence date ms in
      let v = wrote_for_c g body.now out.now r w.answers z in
      back_in_c g body.now out.now room.now v.size written frames.now fits v.is w.leaves
      (same ∙ ap (λ (n : ℕ). take n written) v.long) h a after l;
}
