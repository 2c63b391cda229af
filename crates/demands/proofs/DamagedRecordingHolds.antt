-- K10's salvage, from the theorems of `salvage_spec`. Assumes nothing.
use Prim.Native.Nat.{ℕ, suc, ◌+◌, ◌*◌, ◌≤◌}
use native.Mathlib.Omega.{arith}
use mathlib.Core.Path.{◌≡◌, refl, sym, ap, subst, ◌∙◌}
use mathlib.Core.List.{List, [], flatten}
use lib.ListN.{length, take, drop}
use lib.Seq.{take-append_seam}
use Rattle.wire.specs.Answers.{given, Outcome}
use Rattle.wire.specs.Writing.{filled}
use Rattle.wire.proofs.AnswerLaws.{outcome_given}
use Rattle.salvage_spec.specs.Walk.{Run, kept_of, skipped_of}
use Rattle.salvage_spec.specs.Salvage.{Report, numbers, room_checks, report, salvaged, salvage_of}
use Rattle.salvage_spec.specs.Account.{Piece, Account, kept_in, runs_in}
use Rattle.salvage_spec.specs.Theorems.{long_all, least_frame, Apart}
use Rattle.salvage_spec.proofs.AccountLaws.{kept_told, skipped_told}
use Rattle.salvage_spec.proofs.Theorems.{accounted_once, by_account, undamaged, again, refused-in_order, in_all, runs_apart, most_runs_lem, most_kept}
use Rattle.std.specs.Prelude.{Result, Ok, Err}
use Rattle.wire.specs.declared.refusal.Refusal.{Refusal}
use Rattle.wire.specs.declared.refusal.Refusal.TheVariants.{OutputSmall}
use Rattle.salvage.specs.declared.Salvaged.{Salvaged}
use Rattle.salvage.specs.Told.{reported, tell_salvage}
use Rattle.salvage.proofs.Welds.{salvage_apart}
use Rattle.c_salvage.specs.declared.UlmSalvage.{UlmSalvage}
use Rattle.c_salvage.specs.Face.{salvage_face}
use Rattle.demands.specs.DamagedRecording.{Call, SalvagesForC, Ends, Reports, Tells, DamagedRecording}
use Rattle.demands.proofs.ComesLaws.{comes, given_for_c}
use Rattle.demands.proofs.Lent.{salvage_kept}

-- what the rule says of a call, and what comes of it
abbrev right : Call → Outcome (List ℕ × List ℕ) Report
right c = salvage_of c.buf.now c.out.now c.runs.now

ends : (c : Call) (answer : Result Salvaged Refusal) (left : List ℕ × List ℕ) → right c ≡ record { answer = tell_salvage answer; output = left }
    → Ends c answer (salvage_face (tell_salvage answer)) left
ends c = comes tell_salvage salvage_apart salvage_face (right c)

by_pieces : (c : Call) (pieces : List Piece) → Account c.buf.now pieces
    → right c ≡ salvaged (kept_in pieces) (runs_in 0 pieces) c.out.now c.runs.now
by_pieces c = by_account c.buf.now c.out.now c.runs.now

with_room : (c : Call) (pieces : List Piece) → Account c.buf.now pieces → length (flatten (kept_in pieces)) ≤ length c.out.now
    → 2 * length (runs_in 0 pieces) ≤ length c.runs.now → Tells c (kept_in pieces) (runs_in 0 pieces)
with_room c pieces a h k =
    let frames = kept_in pieces in
    let skipped = runs_in 0 pieces in
    ends c (Ok (record { kept = length frames; length = length (flatten frames); runs = length skipped }))
    (filled (flatten frames) c.out.now, filled (numbers skipped) c.runs.now)
    (by_pieces c pieces a ∙ (refused-in_order frames skipped c.out.now c.runs.now).enough h k)

-- frames alone, and room for them
no_runs : (c : Call) (frames : List (List ℕ)) → right c ≡ salvaged frames [] c.out.now c.runs.now
    → length (flatten frames) ≤ length c.out.now
    → Reports c (length frames) (length (flatten frames)) 0 (filled (flatten frames) c.out.now) c.runs.now
unfolding numbers flatten
no_runs c frames e h =
    ends c (Ok (record { kept = length frames; length = length (flatten frames); runs = 0 })) (filled (flatten frames) c.out.now, c.runs.now)
    (e ∙ (refused-in_order frames [] c.out.now c.runs.now).enough h (omega arith))

-- ---- what a salvage wrote
wrote_again : (c d : Call) (v : Report) (out' : List ℕ) → (right c).answer ≡ given v → out' ≡ (right c).output.0
    → d.buf.now ≡ take v.long out'
    → v.long ≤ length d.out.now
    → Reports d v.kept v.long 0 (filled (take v.long out') d.out.now) d.runs.now
wrote_again c d v out' e l b h =
    let out = c.out.now in
    let runs = c.runs.now in
    let pieces = (accounted_once c.buf.now).the in
    let a = (accounted_once c.buf.now).meets in
    let frames = kept_in pieces in
    let skipped = runs_in 0 pieces in
    let clean = flatten frames in
    let told = by_pieces c pieces a in
    let g =
    outcome_given (room_checks clean (numbers skipped) out runs) (out, runs) (report frames skipped)
    (filled clean out, filled (numbers skipped) runs) v
    (sym (ap (λ (o : Outcome (List ℕ × List ℕ) Report). o.answer) told) ∙ e)
    in
    let kept : length frames ≡ v.kept = ap (λ (r : Report). r.kept) g.1 in
    let long : length clean ≡ v.long = ap (λ (r : Report). r.long) g.1 in
    let left : out' ≡ filled clean out =
    l ∙ ap (λ (o : Outcome (List ℕ × List ℕ) Report). o.output.0) told ∙ ap (λ (o : List ℕ × List ℕ). o.0) g.2
    in
    let same : take v.long out' ≡ clean =
    ap (λ (n : ℕ). take n out') (sym long) ∙ ap (λ (o : List ℕ). take (length clean) o) left
    ∙ take-append_seam clean (drop (length clean) out)
    in
    let from : right d ≡ salvaged frames [] d.out.now d.runs.now =
    ap (λ (x : List ℕ). salvage_of x d.out.now d.runs.now) (b ∙ same)
    ∙ again c.buf.now d.out.now d.runs.now pieces a
    in
    subst (λ (p : List ℕ × ℕ × ℕ). Reports d p.1 p.2 0 (filled p.0 d.out.now) d.runs.now)
    (λ i. (sym same i, kept i, long i))
    (no_runs d frames from (omega (arith, long, h)))

wrote_for_c : (c d : Call) (r : UlmSalvage) (out' runs' : List ℕ) → SalvagesForC c r (out', runs') → r.refusal ≡ 0
    → d.buf.now ≡ take r.length out'
    → r.length ≤ length d.out.now
    → Reports d r.kept r.length 0 (filled (take r.length out') d.out.now) d.runs.now
wrote_for_c c d r out' runs' p z b h =
    given_for_c salvage_face (λ (u : UlmSalvage). u.refusal) (λ n. refl) (right c).answer
    (salvage_kept c.buf.now c.out.now c.runs.now).by_checks.numbered r p.answers z wrote
  where
    wrote : (v : Report) → (right c).answer ≡ given v
        → Reports d r.kept r.length 0 (filled (take r.length out') d.out.now) d.runs.now
    wrote v e =
        let q : r ≡ salvage_face (given v) = p.answers ∙ ap salvage_face e in
        let from = subst (λ (u : UlmSalvage). d.buf.now ≡ take u.length out') q b in
        let room = subst (λ (u : UlmSalvage). u.length ≤ length d.out.now) q h in
        subst (λ (u : UlmSalvage). Reports d u.kept u.length 0 (filled (take u.length out') d.out.now)
        d.runs.now) (sym q)
        (wrote_again c d v out' e (ap (λ (o : List ℕ × List ℕ). o.0) p.leaves) from room)

-- ---- frames and runs, by the account
module _ (b : List ℕ) (pieces : List Piece) (a : Account b pieces) where
  in_account : (P : List (List ℕ) → List Run → Type 0) → P (kept_of b) (skipped_of b) → P (kept_in pieces) (runs_in 0 pieces)
  in_account P p = subst (λ (l : List (List ℕ) × List Run). P l.0 l.1) (λ i. (kept_told b pieces a i, skipped_told b pieces a i)) p

pub damaged_recording : DamagedRecording
damaged_recording = record {
  one = accounted_once;
  little_output = λ c pieces a h.
      ends c (Err OutputSmall) (c.out.now, c.runs.now)
      (by_pieces c pieces a ∙ (refused-in_order (kept_in pieces) (runs_in 0 pieces) c.out.now c.runs.now).little_output h);
  few_runs = λ c pieces a h.
      ends c (Err OutputSmall) (c.out.now, c.runs.now)
      (by_pieces c pieces a ∙ (refused-in_order (kept_in pieces) (runs_in 0 pieces) c.out.now c.runs.now).few_runs h);
  enough = with_room;
  suffices = λ c pieces a h k.
      let b = c.buf.now in
      let bytes = in_account b pieces a (λ frames skipped. length (flatten frames) ≤ length b) (most_kept b) in
      let few = in_account b pieces a (λ frames skipped. suc least_frame * length skipped ≤ length b + least_frame) (most_runs_lem b) in
      with_room c pieces a (omega (arith, bytes, h)) (omega (arith, few, k));
  undamaged = λ c frames e p h.
      no_runs c frames (ap (λ (b : List ℕ). salvage_of b c.out.now c.runs.now) e
      ∙ undamaged frames c.out.now c.runs.now p) h;
  again = λ c d told out' runs' p b h.
      wrote_again c d (reported told) out' (sym p.answers)
      (ap (λ (o : List ℕ × List ℕ). o.0) p.leaves) b h;
  again_for_c = wrote_for_c;
  all = λ b pieces a. in_account b pieces a (λ frames skipped. length (flatten frames) + long_all skipped ≡ length b) (in_all b);
  apart = λ b pieces a. in_account b pieces a (λ frames skipped. Apart 0 (length b) skipped) (runs_apart b);
}
