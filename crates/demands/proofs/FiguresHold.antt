-- The figures, from the theorems of the crates below. Assumes nothing.
use Prim.Native.Nat.{ℕ, suc, ◌+◌, ◌-◌, ◌*◌, ◌/◌, ◌≤◌, ◌<◌}
use native.Mathlib.Omega.{arith}
use mathlib.Core.Path.{◌≡◌, refl, sym, ap, subst, ◌∙◌}
use mathlib.Core.Logic.{inl, inr, ⊎_elim}
use mathlib.Core.Bool.{Bool, true, false}
use mathlib.Core.List.Memᴰ
use mathlib.Core.List.{List, [], ◌∷◌, ◌++◌, Memᴰ}
use lib.Dec.{eqb}
use lib.ListN.{length, drop, replicate, length-append, length-replicate}
use borrow.Author.Tests.{eqb-true, eqb-false}
use Rattle.wire.specs.Numbers.{num, Octets}
use Rattle.wire.specs.Checks.{pick, among, Check, AllHold}
use Rattle.wire.specs.Answers.{Answer, refused, given, rule, number_of, Outcome, onward}
use Rattle.wire.specs.Writing.{filled, room_check, then_room}
use Rattle.wire.proofs.CheckLaws.{never, all_hold, all_hold_append}
use Rattle.wire.proofs.AnswerLaws.{rule_given, outcome_given}
use Rattle.wire.proofs.WriteLaws.{accepted}
use Rattle.frame.specs.declared.Frame.{Frame}
use Rattle.frame.specs.Session.{session_limit, frame_checks, Stream, end, frame, frame_in, frame_at}
use Rattle.header_rule.specs.Rules.{radial_type}
use Rattle.set_spec.specs.Walk.{SetSays, set_of}
use Rattle.set_spec.specs.Theorems.{AtMost}
use Rattle.set_spec.proofs.FrameFacts.{framed}
use Rattle.set_spec.proofs.BodyMost.{body_most, room_for_any}
use Rattle.salvage_spec.specs.Walk.{kept_of, skipped_of}
use Rattle.salvage_spec.specs.Salvage.{Report, salvage_of}
use Rattle.salvage_spec.specs.Theorems.{least_frame}
use Rattle.salvage_spec.proofs.Theorems.{refused-in_order, most_runs_lem, most_kept}
use Rattle.writer_head.specs.declared.Given.{Given}
use Rattle.writer.specs.Writing.{longest, longest_body, longest_radial, frames_of, write_checks, write_of}
use Rattle.writer.proofs.CutLaws.{count-radial, count_cut}
use Rattle.writer.proofs.EntryLaws.{message_length}
use Rattle.radial_spec.specs.Description.{most_blocks, most_gates, word_sizes, Moment, Description, gates, Member, block_end, moment_end, MomentsLie}
use Rattle.radial_spec.specs.Refusal.{radial_of}
use Rattle.radial_spec.specs.Lookups.{moment_named, moment_of}
use Rattle.radial_spec.proofs.Accepted.{exactly}
use Rattle.radial_spec.proofs.Finding.{found_by_name}
use Rattle.form_spec.specs.Forms.{Row, times, field_checks, rows_of, numbers_in, body_checks, read_by, list_checks, body_by}
use Rattle.form_spec.proofs.FormLaws.{body_long, numbers-count}
use Rattle.request.specs.Request.{request_form, request_written}
use Rattle.censor.specs.Censor.{most_regions, region_fields, region, censor_form, count, fields, censor_of, censor_written}
use Rattle.censor.specs.Told.{places}
use Rattle.censor.proofs.StepLaws.{few_regions, regions_long, regions_count}
use Rattle.map_spec.specs.Map.{most_elevations, azimuths}
use Rattle.map_spec.specs.Reading.{Summary, map_checks, map_in, summary, summary_of}
use Rattle.map_spec.proofs.Theorems.{accepted_exactly}
use Rattle.compare_spec.specs.Differences.{most_runs, differences}
use Rattle.compare_spec.specs.Comparing.{Comparison, comparison, halfwords, most_halfwords, comparison_of}
use Rattle.compare_spec.proofs.Most.{halfwords-length}
use Rattle.compare_spec.proofs.InTurn.{map-given}
use Rattle.compare_spec.proofs.Theorems.{room_for_all, refused-in_order as compared-in-order}
use Rattle.c_lent.specs.declared.UlmWritten.{UlmWritten}
use Rattle.c_lent.specs.Face.{written_face}
use Rattle.c_frame.specs.declared.UlmFrame.{UlmFrame}
use Rattle.c_frame.specs.Face.{frame_face}
use Rattle.c_set.specs.declared.UlmSet.{UlmSet}
use Rattle.c_set.specs.Face.{set_face}
use Rattle.c_salvage.specs.declared.UlmSalvage.{UlmSalvage}
use Rattle.c_salvage.specs.Face.{salvage_face}
use Rattle.c_radial.specs.declared.UlmRadial.{UlmRadial}
use Rattle.c_radial.specs.Face.{radial_face}
use Rattle.c_gates.specs.declared.UlmGates.{UlmGates}
use Rattle.c_gates.specs.Face.{gates_face}
use Rattle.c_censor.specs.declared.UlmCensor.{UlmCensor}
use Rattle.c_censor.specs.Face.{censor_face}
use Rattle.c_map.specs.declared.UlmMap.{UlmMap}
use Rattle.c_map.specs.Face.{map_face}
use Rattle.c_compare.specs.declared.UlmComparison.{UlmComparison}
use Rattle.c_compare.specs.Face.{comparison_face}
use Rattle.demands.specs.Figures.{bytes_of, Figures}
use Rattle.demands.specs.Demand2.{given_by}
use Rattle.demands.proofs.ByChecksLaws.{by_rule}
use Rattle.demands.proofs.Inside.{map_inside}
use Rattle.demands.proofs.Lent.{request_kept, censor_kept}
use Rattle.demands.proofs.ComesLaws.{was_given}
use Rattle.demands.proofs.Written.{thirteen, written_tells, wrote_for_c, numbers, wanted, told_length, written_13}

-- ---- the number that a struct holds is the answer's
set_number : (a : Answer SetSays) → (set_face a).refusal ≡ number_of a
set_number (refused n) = refl
set_number (given s) = refl

map_number : (a : Answer Summary) → (map_face a).refusal ≡ number_of a
map_number (refused n) = refl
map_number (given s) = refl

-- ---- frames
frame_small : (stream : List ℕ) (place : ℕ) (r : UlmFrame) → r ≡ frame_face place (frame_at stream place) → r.size ≤ session_limit.0
unfolding frame_at
frame_small stream place r e = subst (λ (x : UlmFrame). x.size ≤ session_limit.0) (sym e) (go (eqb place (length stream)))
  where
    rest : List ℕ
    rest = drop place stream

    told : (a : Answer Stream) → rule (frame_checks rest) (frame (frame_in rest place)) ≡ a → (frame_face place a).size ≤ session_limit.0
    told (refused n) q = omega arith
    told (given end) q = omega arith
    told (given (frame f)) q =
        let p = rule_given (frame_checks rest) (frame (frame_in rest place)) (frame f) q in
        let same : frame_in rest place ≡ f = cc p.1 in
        subst (λ (x : Frame). x.size.0 ≤ session_limit.0) same (framed rest (all_hold (frame_checks rest) p.0)).small

    go : (t : Bool) → (frame_face place (pick t (given end) (rule (frame_checks rest) (frame (frame_in rest place))))).size ≤ session_limit.0
    go true = omega arith
    go false = told (rule (frame_checks rest) (frame (frame_in rest place))) refl

-- ---- sets
within : (s : SetSays) → AtMost s → s.long.0 ≤ (longest s.header.kind).0
within s m = go (eqb s.header.kind radial_type) refl
  where
    go : (t : Bool) → eqb s.header.kind radial_type ≡ t → s.long.0 ≤ (pick t longest_radial longest_body).0
    go true p = m.radial (eqb-true s.header.kind radial_type p)
    go false p = m.other (eqb-false s.header.kind radial_type p)

set_small : (frames out : List ℕ) (r : UlmSet) → r ≡ set_face (set_of frames out).answer → r.length ≤ (longest r.kind).0
set_small frames out r e = subst (λ (x : UlmSet). x.length ≤ (longest x.kind).0) (sym e) (go (set_of frames out).answer refl)
  where
    go : (a : Answer SetSays) → (set_of frames out).answer ≡ a → (set_face a).length ≤ (longest (set_face a).kind).0
    go (refused n) q = omega arith
    go (given s) q = within s (body_most frames out s q)

set_room : (frames out : List ℕ) (r : UlmSet) → r ≡ set_face (set_of frames out).answer → r.refusal ≡ 13 → length out < longest_radial.0
set_room frames out r e z =
    let right = (set_of frames out).answer in
    room_for_any frames out (thirteen right (sym (set_number right) ∙ sym (ap (λ (x : UlmSet). x.refusal) e) ∙ z))

-- ---- salvages
salvage-room : (b out runs : List ℕ) (r : UlmSalvage) → r ≡ salvage_face (salvage_of b out runs).answer → length b ≤ length out
    → 2 * ((length b + least_frame) / suc least_frame) ≤ length runs
    → r.refusal ≡ 0
unfolding salvage_of
salvage-room b out runs r e h k =
    let o = (refused-in_order (kept_of b) (skipped_of b) out runs).enough (omega (arith, most_kept b, h)) (omega (arith, most_runs_lem b, k)) in
    ap (λ (x : UlmSalvage). x.refusal) (e ∙ ap (λ (x : Outcome (List ℕ × List ℕ) Report). salvage_face x.answer) o)

-- ---- radials
radial_few : (b : List ℕ) (r : UlmRadial) → Octets b → r ≡ radial_face (radial_of b) → r.blocks ≤ most_blocks
radial_few b r o e = subst (λ (x : UlmRadial). x.blocks ≤ most_blocks) (sym e) (go (radial_of b) refl)
  where
    go : (a : Answer Description) → radial_of b ≡ a → (radial_face a).blocks ≤ most_blocks
    go (refused n) q = omega arith
    go (given d) q = ((exactly b d o).0 q).0.few

-- a moment that lies in a radial, and what its gates take
moment_few : (from size : ℕ) (seen : List ℕ) (ms : List Moment) (m : Moment) → MomentsLie from size seen ms → Memᴰ m ms
    → (gates m ≤ most_gates) × Member m.word word_sizes
moment_few from size seen [] m lie k = absurd (Memᴰ.not-nil k)
moment_few from size seen (x ∷ ms) m lie k =
    ⊎_elim (λ e. subst (λ (y : Moment). (gates y ≤ most_gates) × Member y.word word_sizes) (sym e) (lie.0.few, lie.0.words))
    (λ l. moment_few (moment_end x) size (seen ++ (x.name ∷ [])) ms m lie.1 l)
    (Memᴰ.cases_cons k)

found_few : (b : List ℕ) (name : ℕ) (m : Moment) → Octets b → moment_of b name ≡ given m → (gates m ≤ most_gates) × Member m.word word_sizes
unfolding moment_of
found_few b name m o e = go (radial_of b) refl
  where
    go : (a : Answer Description) → radial_of b ≡ a → (gates m ≤ most_gates) × Member m.word word_sizes
    go (refused n) q = never (cc (sym (ap (λ (a : Answer Description). onward a (λ d. moment_named name d.moments)) q) ∙ e))
    go (given d) q =
        moment_few (block_end d.radial_block) d.size [] d.moments m ((exactly b d o).0 q).0.moments_lie
        ((found_by_name b d name m q).0 e).0

bytes_few : (n w : ℕ) → n ≤ most_gates → Member w word_sizes → n * (w / 8) ≤ 2 * most_gates
bytes_few n w h (inl e) = rw e (omega arith)
bytes_few n w h (inr (inl e)) = rw e (omega arith)
bytes_few n w h (inr (inr x)) = absurd x

gates_few : (b : List ℕ) (name : ℕ) (r : UlmGates) → Octets b → r ≡ gates_face (moment_of b name)
    → (r.gates ≤ most_gates) × (r.size ≤ 2 * most_gates)
gates_few b name r o e = subst (λ (x : UlmGates). (x.gates ≤ most_gates) × (x.size ≤ 2 * most_gates)) (sym e) (go (moment_of b name) refl)
  where
    go : (a : Answer Moment) → moment_of b name ≡ a → ((gates_face a).gates ≤ most_gates) × ((gates_face a).size ≤ 2 * most_gates)
    go (refused n) q = (omega arith, omega arith)
    go (given m) q = let f = found_few b name m o q in (f.0, bytes_few (gates m) m.word f.0 f.1)

-- ---- writers: what is written, and what is wanted
module _ (g : Given) (body out : List ℕ) (r : UlmWritten) (e : r ≡ written_face (write_of g body out).answer) where
  write-long : r.refusal ≡ 0 → r.length ≡ bytes_of g.kind body
  unfolding write_of
  write-long z = told_length (write_checks g body) (frames_of g body) out r (wrote_for_c g body out r e z) ∙ message_length g body

  write-room : r.refusal ≡ 13 → length out < bytes_of g.kind body
  unfolding write_of
  write-room z =
      subst (λ (n : ℕ). length out < n) (message_length g body)
      (wanted (write_checks g body) (frames_of g body) out refl (written_13 (write_of g body out).answer r e z)).1

module _ (list out : List ℕ) (r : UlmWritten) (e : r ≡ written_face (request_written list out).answer) where
  request-long : r.refusal ≡ 0 → r.length ≡ 2
  unfolding request_written
  request-long z =
      told_length (list_checks request_form list) (body_by request_form list) out r
      (written_tells (request_written list out).answer r (request_kept list out).by_checks.numbered e z)

  request-room : r.refusal ≡ 13 → length out < 2
  unfolding request_written
  request-room z = (wanted (list_checks request_form list) (body_by request_form list) out refl
      (written_13 (request_written list out).answer r e z)).1

fields_free : (rs : List Row) (l : List ℕ) → among 13 (numbers (field_checks rs l)) ≡ false
fields_free [] l = refl
fields_free (r ∷ rs) l = fields_free rs (drop 1 l)

-- the body of a list whose checks hold
list-long : (list : List ℕ) → AllHold (list_checks censor_form list)
    → (length (body_by censor_form list) ≡ 2 + 2 * region_fields * count list) × (count list ≤ most_regions)
list-long list h = (
  body_long (rows_of censor_form (count list)) list ∙ ap (λ (n : ℕ). 2 + n) (regions_long (count list)),
  few_regions (count list)
      h.1.0,
)

module _ (list out : List ℕ) (r : UlmWritten) (e : r ≡ written_face (censor_written list out).answer) where
  abbrev checks : List Check
  checks = list_checks censor_form list

  censor-long : r.refusal ≡ 0 → (r.length ≡ 2 + 2 * region_fields * count list) × (count list ≤ most_regions)
  unfolding censor_written
  censor-long z =
      let t = written_tells (censor_written list out).answer r (censor_kept list out).by_checks.numbered e z in
      let l = list-long list (accepted checks (body_by censor_form list) out t.size t.is).0 in
      (told_length checks (body_by censor_form list) out r t ∙ l.0, l.1)

  censor-room : r.refusal ≡ 13 → length out < 2 + 2 * region_fields * count list
  unfolding censor_written
  censor-room z =
      let w = wanted checks (body_by censor_form list) out (fields_free (times (count list) region) (drop 1 list))
      (written_13 (censor_written list out).answer r e z) in
      subst (λ (n : ℕ). length out < n) (list-long list w.0).0 w.1

-- ---- regions by value
places-filled : (a : Answer (List ℕ)) → ((list : List ℕ) → a ≡ given list → (length (fields list) ≤ places) × (count list ≤ most_regions))
    → (length (censor_face a).regions ≡ places) × ((censor_face a).count ≤ most_regions)
places-filled (refused n) h = (length-replicate {A = ℕ} places 0, omega arith)
places-filled (given list) h =
    let l = h list refl in (
      length-append (fields list) (replicate (places - length (fields list)) 0)
          ∙ omega (arith, length-replicate {A = ℕ} (places - length (fields list)) 0, l.0),
      l.1,
    )

regions_fill : (body : List ℕ) (r : UlmCensor) → r ≡ censor_face (censor_of body) → (length r.regions ≡ places) × (r.count ≤ most_regions)
unfolding censor_of
regions_fill body r e =
    subst (λ (x : UlmCensor). (length x.regions ≡ places) × (x.count ≤ most_regions)) (sym e)
    (places-filled (read_by censor_form body)
    (λ list q.
    let p = rule_given (body_checks censor_form body) (numbers_in censor_form body) list q in
    let n = num 2 body 0 in
    let few : n ≤ most_regions = few_regions n (all_hold (body_checks censor_form body) p.0).1.0 in
    subst (λ (l : List ℕ). (length (fields l) ≤ places) × (count l ≤ most_regions)) p.1
    (omega (arith, few, numbers-count (times n region) body 2, regions_count n), few)))

-- ---- comparisons
map_passed : (b : List ℕ) (r : UlmMap) → r ≡ map_face (summary_of b) → r.refusal ≡ 0 → AllHold (map_checks b)
map_passed b r e z =
    let h = by_rule (map_checks b) (summary (map_in b)) (map_inside b) in
    let v = was_given (summary_of b) h.numbered (sym (map_number (summary_of b)) ∙ sym (ap (λ (x : UlmMap). x.refusal) e) ∙ z) in
    h.passed v.0 v.1

module _ (old new out : List ℕ) (o : Octets old) (p : Octets new) where
  in_room : AllHold (map_checks old) → AllHold (map_checks new) → length (halfwords (differences (map_in old) (map_in new))) ≤ most_halfwords
  in_room h k =
      room_for_all (map_in old) (map_in new) ((accepted_exactly old o (map_in old)).0 (map-given old h)).0
      ((accepted_exactly new p (map_in new)).0 (map-given new k)).0

  compared_most : (r : UlmComparison) → r ≡ comparison_face (comparison_of old new out).answer
      → r.differences ≤ most_elevations * (azimuths * most_runs)
  compared_most r e = subst (λ (x : UlmComparison). x.differences ≤ most_elevations * (azimuths * most_runs)) (sym e)
      (go (comparison_of old new out).answer refl)
    where
      go : (a : Answer Comparison) → (comparison_of old new out).answer ≡ a
          → (comparison_face a).differences ≤ most_elevations * (azimuths * most_runs)
      go (refused n) q = omega arith
      go (given c) q =
          let m = map_in old in
          let n = map_in new in
          let list = halfwords (differences m n) in
          let ks = map_checks old ++ map_checks new in
          let w = outcome_given (then_room ks list (length out)) out (comparison m n) (filled list out) c q in
          let all = all_hold_append ks (room_check (length out) list ∷ []) (all_hold (then_room ks list (length out)) w.0) in
          let maps = all_hold_append (map_checks old) (map_checks new) all.0 in
          let told : length (differences m n) ≡ c.differences = ap (λ (x : Comparison). x.differences) w.1 in
          omega (arith, told, halfwords-length (differences m n), in_room maps.0 maps.1)

  -- two bodies that are accepted, and room for any two maps
  compared_room : (a b : UlmMap) (r : UlmComparison) → a ≡ map_face (summary_of old) → a.refusal ≡ 0 → b ≡ map_face (summary_of new)
      → b.refusal ≡ 0
      → most_halfwords ≤ length out
      → r ≡ comparison_face (comparison_of old new out).answer
      → r.refusal ≡ 0
  compared_room a b r e z f y room h =
      let k = map_passed old a e z in
      let l = map_passed new b f y in
      let c = (compared-in-order old new out).enough (map_in old) (map_in new) (map-given old k) (map-given new l)
      (omega (arith, in_room k l, room)) in
      ap (λ (x : UlmComparison). x.refusal) (h ∙ ap (λ (x : Outcome (List ℕ) Comparison). comparison_face x.answer) c)

pub figures : Figures
figures = record {
  frame = λ κs buf place r s l. frame_small buf.now place r l;
  set = λ κs buf out r b after l. set_small buf.now out.now r l.answers;
  set_room = λ κs buf out r b after l z. set_room buf.now out.now r l.answers z;
  salvage_room = λ κs buf out runs r b after listed l h k. salvage-room buf.now out.now runs.now r l.answers h k;
  radial_segments = λ kind body e. sym (count-radial kind body e);
  segments = λ kind body e. sym (count_cut kind body e);
  write = λ κs channel kind sequence date ms body out r c k q d m b after l z.
      write-long (given_by channel kind sequence date ms) body.now out.now r l.answers z;
  write_room = λ κs channel kind sequence date ms body out r c k q d m b after l z.
      write-room (given_by channel kind sequence date ms) body.now out.now r l.answers z;
  blocks = λ κs body r s o l. radial_few body.now r o l;
  gates = λ κs body name r s o l. gates_few body.now name r o l;
  request = λ κs list out r f after l z. request-long list.now out.now r l.answers z;
  request_room = λ κs list out r f after l z. request-room list.now out.now r l.answers z;
  regions = λ κs body r s l. regions_fill body.now r l;
  censor = λ κs list out r f after l z. censor-long list.now out.now r l.answers z;
  censor_room = λ κs list out r f after l z. censor-room list.now out.now r l.answers z;
  compare = λ κs old new out r f g after o p l. compared_most old.now new.now out.now o p r l.answers;
  compare_room = λ κs κs₁ κs₂ old new out a b r s t f g after o p d z e y room l.
      compared_room old.now new.now out.now o p a b r d z e y room l.answers;
}
