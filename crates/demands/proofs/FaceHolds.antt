-- Demand 1 for the C face. Assumes nothing.
use Prim.Native.Nat.{ℕ, zero, suc, ◌-◌}
use mathlib.Core.Path.{◌≡◌, refl, sym, ap, subst, ◌∙◌}
use mathlib.Core.Option.{none, some}
use mathlib.Core.List.{List, [], ◌∷◌, ◌++◌}
use borrow.Author.Rules.{rules}
use lib.Ieee as Ieee
use lib.Ieee.{of_bits, to_bits}
use lib.ListN.{length, get_or, replicate}
use lib.Seq.{get_or-drop}
use Rattle.wire.specs.Properties.{Each}
use Rattle.wire.specs.Checks.{Check}
use Rattle.wire.specs.Answers.{Answer, refused, given, Outcome, Promise}
use Rattle.wire.specs.declared.Bytes.{Bytes}
use Rattle.wire.specs.Writing.{tell_write}
use Rattle.frame.specs.Session.{Stream, end, frame, frame_at}
use Rattle.header.specs.Header.{header_of}
use Rattle.set_spec.specs.Walk.{set_of}
use Rattle.set.specs.Told.{tell_set}
use Rattle.salvage_spec.specs.Salvage.{salvage_of}
use Rattle.salvage.specs.Told.{tell_salvage}
use Rattle.radial_spec.specs.Refusal.{radial_of}
use Rattle.radial_spec.specs.Lookups.{Asked, no_such, lies, moment_of, block_of}
use Rattle.radial.specs.Told.{head_shown, block_shown}
use Rattle.gate_value.specs.Value.{Worth, below_threshold, range_folded, worth, value_of, gate_of}
use Rattle.request.specs.Request.{request_of}
use Rattle.censor.specs.Censor.{fields, censor_of}
use Rattle.censor.specs.Told.{places}
use Rattle.map_spec.specs.Reading.{summary_of, code_of}
use Rattle.compare_spec.specs.Comparing.{comparison_of}
use Rattle.compare.specs.Told.{tell_compare}
use Rattle.c_lent.specs.declared.UlmWritten.{UlmWritten}
use Rattle.c_lent.specs.Face.{Leaves, written_face}
use Rattle.c_frame.specs.declared.UlmHeader.{UlmHeader}
use Rattle.c_frame.specs.Face.{frame_face, header_face}
use Rattle.c_set.specs.declared.UlmSet.{UlmSet}
use Rattle.c_set.specs.Face.{set_face}
use Rattle.c_salvage.specs.declared.UlmSalvage.{UlmSalvage}
use Rattle.c_salvage.specs.Face.{salvage_face}
use Rattle.c_radial.specs.declared.UlmRadial.{UlmRadial}
use Rattle.c_radial.specs.declared.UlmBlock.{UlmBlock}
use Rattle.c_radial.specs.Face.{radial_face, block_face}
use Rattle.c_gates.specs.declared.UlmGates.{UlmGates}
use Rattle.c_gates.specs.declared.UlmGate.{UlmGate}
use Rattle.c_gates.specs.Face.{gates_face, worth_face}
use Rattle.c_request.specs.declared.UlmRequest.{UlmRequest}
use Rattle.c_request.specs.Face.{request_face}
use Rattle.c_censor.specs.declared.UlmCensor.{UlmCensor}
use Rattle.c_censor.specs.Face.{censor_face}
use Rattle.c_map.specs.declared.UlmMap.{UlmMap}
use Rattle.c_map.specs.declared.UlmMapCode.{UlmMapCode}
use Rattle.c_map.specs.Face.{map_face, map_code_face}
use Rattle.c_compare.specs.declared.UlmComparison.{UlmComparison}
use Rattle.c_compare.specs.Face.{comparison_face}
use Rattle.demands.specs.Notions.{OfTheTable, KeptLent}
use Rattle.demands.specs.Face.{OnlyNumber, Shown, ShownLent, BlankFrame, ShowsFrame, at_end, read, header_members, ShowsHeader, set_members, ShowsSet, salvage_members}
use Rattle.demands.specs.Face.{ShowsSalvage, written_members, ShowsWritten, radial_members, ShowsRadial, block_members, ShowsBlock, gates_members, ShowsGates}
use Rattle.demands.specs.Face.{gate_members, ShowsWorth, ShowsRequest, ShowsCensor, ShowsMap, ShowsCode, ShowsComparison, FaceOfC}
use Rattle.demands.proofs.First.{by_header, by_request, by_censor, by_map, by_query}
use Rattle.demands.proofs.Lent.{set_kept, write_kept, request_kept, censor_kept, compare_kept, salvage_kept}
use Rattle.demands.proofs.Readers.{by_stream, by_radial, by_moment, by_block, by_value, by_gate}

-- one law for every function: the face of a refusal is blank but for its number, the face of a value shows it
module _ {R A : Type 0} (face : Answer A → R) (Blank : R → ℕ → Type 0) (Shows : R → A → Type 0) (blank : (n : ℕ)
    → Blank (face (refused n)) n)
    (shows : (v : A) → Shows (face (given v)) v) where
  shown : (right : Answer A) → ((n : ℕ) → right ≡ refused n → OfTheTable n) → Shown (λ (r : R). r ≡ face right) Blank Shows right
  shown right table = record {
    one = record { the = face right; meets = refl; only = λ r e. e };
    refuses = λ r n e q. (subst (λ (x : R). Blank x n) (sym (e ∙ ap face q)) (blank n), table n q);
    accepts = λ r v e q. subst (λ (x : R). Shows x v) (sym (e ∙ ap face q)) (shows v);
  }

  shown-lent : {S O : Type 0} (tell : S → Answer A) (ks : List Check) (right : Outcome O A) (out : O)
      → KeptLent (Promise tell right) tell ks right out
      → ShownLent (Leaves face right) Blank Shows right out
  shown-lent tell ks right out k = record {
    one = record {
      the = (face right.answer, right.output);
      meets = record { answers = refl; leaves = refl };
      only = λ p e. λ i. (e.answers i, e.leaves i);
    };
    refuses = λ r after n e q.
        let s = (shown right.answer k.by_checks.numbered).refuses r n e.answers q in
        let m = k.one.meets in
        (s.0, s.1, e.leaves ∙ sym (k.told _ _ m).leaves ∙ k.untouched _ _ n m q);
    accepts = λ r after v e q. ((shown right.answer k.by_checks.numbered).accepts r v e.answers q, e.leaves);
  }

zeros : (n : ℕ) → Each (λ (y : ℕ). y ≡ 0) (replicate n 0)
zeros zero = tt
zeros (suc n) = (refl, zeros n)

frame_shows : (place : ℕ) (s : Stream) → ShowsFrame place (frame_face place (given s)) s
frame_shows place end = at_end ((refl, zeros 5), refl)
frame_shows place (frame f) = read f (refl, refl, refl, refl, refl, refl, refl)

block_shows : (a : Asked) → ShowsBlock (block_face (given a)) a
block_shows no_such = (refl, zeros 14)
block_shows (lies k) = go k.moment
  where
    go : (o : _) → ShowsBlock (block_face (given (lies (record { name = k.name; place = k.place; size = k.size; moment = o }))))
        (lies (record { name = k.name; place = k.place; size = k.size; moment = o }))
    go none = (refl, refl, refl, refl, refl, (refl, zeros 9))
    go (some m) = (
      refl,
      refl,
      refl,
      refl,
      refl,
      record {
        reserved = refl;
        gates = refl;
        first = refl;
        interval = refl;
        overlay = refl;
        noise = refl;
        flags = refl;
        word = refl;
        scale = refl;
        offset = refl;
      },
    )

worth_shows : (w : Worth) → ShowsWorth (worth_face (given w)) w
unfolding to_bits of_bits Ieee.of_fields
worth_shows below_threshold = (refl, refl, refl)
worth_shows range_folded = (refl, refl, refl)
worth_shows (worth v) = (refl, refl, refl)

worth_blank : (n : ℕ) → OnlyNumber (gate_members (worth_face (refused n))) n
unfolding to_bits of_bits Ieee.of_fields
worth_blank n = (refl, (refl, (refl, tt)))

-- places past the end of a list hold 0
past_end : (l : List ℕ) (n i : ℕ) → get_or (l ++ replicate n 0) i 0 ≡ get_or l i 0
past_end [] zero i = refl
past_end [] (suc n) zero = refl
past_end [] (suc n) (suc i) = past_end [] n i
past_end (x ∷ l) n zero = refl
past_end (x ∷ l) n (suc i) = past_end l n i

censor_shows : (list : List ℕ) → ShowsCensor (censor_face (given list)) list
censor_shows list = (refl, refl, λ i. past_end (fields list) (places - length (fields list)) i ∙ get_or-drop 1 list i 0)

-- a refused radial is refused by the lookups with the same number
block_number : (b : List ℕ) (k n : ℕ) → block_of b k ≡ refused n → OfTheTable n
block_number b k n e = (by_block b k).numbered n (ap block_shown e)

moment_number : (b : List ℕ) (name n : ℕ) → moment_of b name ≡ refused n → OfTheTable n
moment_number b name n e = (by_moment b name).numbered n (ap head_shown e)

worth-shown : (right : Answer Worth) → ((n : ℕ) → right ≡ refused n → OfTheTable n)
    → Shown (λ (r : UlmGate). r ≡ worth_face right) (λ (r : UlmGate) n. OnlyNumber (gate_members r) n) ShowsWorth right
worth-shown = shown worth_face (λ (r : UlmGate) n. OnlyNumber (gate_members r) n) ShowsWorth worth_blank worth_shows

written-lent : (ks : List Check) (right : Outcome (List ℕ) Bytes) (out : List ℕ) → KeptLent (Promise tell_write right) tell_write ks right out
    → ShownLent (Leaves written_face right) (λ (r : UlmWritten) n. OnlyNumber (written_members r) n) ShowsWritten right out
written-lent =
    shown-lent written_face (λ (r : UlmWritten) n. OnlyNumber (written_members r) n) ShowsWritten (λ n. (refl, zeros 1))
    (λ v. search rules)
    tell_write

pub face_of_c : FaceOfC
face_of_c = record {
  frame = λ κs buf place s.
      shown (frame_face place) (BlankFrame place) (ShowsFrame place) (λ n. ((refl, zeros 5), refl)) (frame_shows place)
      (frame_at buf.now place)
      (by_stream buf.now place).numbered;
  header = λ κs msg s.
      shown header_face (λ (r : UlmHeader) n. OnlyNumber (header_members r) n) ShowsHeader (λ n. (refl, zeros 8))
      (λ v. search rules) (header_of msg.now) (by_header msg.now).numbered;
  set = λ κs buf out buf'.
      shown-lent set_face (λ (r : UlmSet) n. OnlyNumber (set_members r) n) ShowsSet (λ n. (refl, zeros 9))
      (λ v. search rules) tell_set _ (set_of buf.now out.now) out.now (set_kept buf.now out.now);
  salvage = λ κs buf out runs buf'.
      shown-lent salvage_face (λ (r : UlmSalvage) n. OnlyNumber (salvage_members r) n) ShowsSalvage (λ n. (refl, zeros 3))
      (λ v. search rules) tell_salvage _ (salvage_of buf.now out.now
      runs.now) (out.now, runs.now)
      (salvage_kept buf.now out.now runs.now);
  write = λ κs channel kind sequence date ms body out channel' kind' sequence' date' ms' body'.
      written-lent _ _ out.now
      (write_kept (record { channel = channel; kind = kind; sequence = sequence; date = date; milliseconds = ms }) body.now out.now);
  radial = λ κs body s.
      shown radial_face (λ (r : UlmRadial) n. OnlyNumber (radial_members r) n) ShowsRadial (λ n. (refl, zeros 14))
      (λ v. search rules) (radial_of body.now) (by_radial body.now).numbered;
  block = λ κs body k s.
      shown block_face (λ (r : UlmBlock) n. OnlyNumber (block_members r) n) ShowsBlock (λ n. (refl, zeros 14)) block_shows
      (block_of body.now k)
      (block_number body.now k);
  gates = λ κs body name s.
      shown gates_face (λ (r : UlmGates) n. OnlyNumber (gates_members r) n) ShowsGates (λ n. (refl, zeros 8))
      (λ v. search rules) (moment_of body.now name) (moment_number body.now name);
  gate = λ κs body name gate s. worth-shown (gate_of body.now name gate) (by_gate body.now name gate).numbered;
  value = λ κs code scale offset s. worth-shown (value_of code scale offset) (by_value code scale offset).numbered;
  request = λ κs body s.
      shown request_face (λ (r : UlmRequest) n. OnlyNumber (r.refusal ∷ r.code ∷ []) n) ShowsRequest (λ n. (refl, zeros 1))
      (λ v. (refl, refl))
      (request_of body.now) (by_request body.now).numbered;
  write_request = λ κs list out list'. written-lent _ _ out.now (request_kept list.now out.now);
  censor = λ κs body s.
      shown censor_face (λ (r : UlmCensor) n. OnlyNumber (r.refusal ∷ r.count ∷ r.regions) n) ShowsCensor
      (λ n. (refl, (refl, zeros places))) censor_shows
      (censor_of body.now) (by_censor body.now).numbered;
  write_censor = λ κs list out list'. written-lent _ _ out.now (censor_kept list.now out.now);
  map = λ κs body s.
      shown map_face (λ (r : UlmMap) n. OnlyNumber (r.refusal ∷ r.date ∷ r.minutes ∷ r.elevations ∷ []) n) ShowsMap
      (λ n. (refl, zeros 3))
      (λ v. search rules) (summary_of body.now) (by_map body.now).numbered;
  map_code = λ κs body elevation azimuth kilometre s.
      shown map_code_face (λ (r : UlmMapCode) n. OnlyNumber (r.refusal ∷ r.code ∷ []) n) ShowsCode (λ n. (refl, zeros 1))
      (λ v. (refl, refl))
      (code_of body.now elevation azimuth kilometre) (by_query body.now elevation azimuth kilometre).numbered;
  compare_maps = λ κs old new out old' new'.
      shown-lent comparison_face (λ (r : UlmComparison) n. OnlyNumber (r.refusal ∷ r.old_elevations ∷ r.new_elevations
      ∷ r.differences ∷ []) n) ShowsComparison
      (λ n. (refl, zeros 3)) (λ v. search rules) tell_compare _
      (comparison_of old.now new.now out.now) out.now (compare_kept old.now new.now out.now);
}
