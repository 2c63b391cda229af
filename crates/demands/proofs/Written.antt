-- A writer's struct: number 0 tells what was written, number 13 that there was too little room. Assumes nothing.
use Prim.Native.Nat.{ℕ, ◌<◌}
use native.Mathlib.Omega.{arith}
use mathlib.Core.Path.{◌≡◌, refl, sym, ap, ◌∙◌}
use mathlib.Core.Logic.{⊎_elim}
use mathlib.Core.Bool.{Bool, true, false}
use mathlib.Core.Option.{some}
use mathlib.Core.List.{List, [], ◌∷◌, ◌++◌, map}
use lib.Dec.{eqb, ltb}
use lib.ListN.{length}
use borrow.Author.Tests.{ltb-true, eq-eqb}
use Rattle.wire.specs.Checks.{pick, among, Check, first, AllHold}
use Rattle.wire.specs.Answers.{Answer, refused, given, number_of, rule}
use Rattle.wire.specs.Sizes.{bytes}
use Rattle.wire.specs.Writing.{filled, room_check, then_room, written}
use Rattle.wire.specs.declared.Bytes.{Bytes}
use Rattle.wire.proofs.CheckLaws.{never, either_true, decide-append, all_hold}
use Rattle.wire.proofs.AnswerLaws.{outcome_answer, outcome_given}
use Rattle.writer_head.specs.declared.Given.{Given}
use Rattle.writer.specs.Writing.{write_of}
use Rattle.c_lent.specs.declared.UlmWritten.{UlmWritten}
use Rattle.c_lent.specs.Face.{written_face}
use Rattle.demands.specs.Notions.{OfTheTable}
use Rattle.demands.proofs.ByChecksLaws.{stop_or_go}
use Rattle.demands.proofs.ComesLaws.{was_given}
use Rattle.demands.proofs.Lent.{write_kept}

-- 13 is a refusal
pub thirteen : {A : Type 0} (right : Answer A) → number_of right ≡ 13 → right ≡ refused 13
thirteen (refused n) e = ap (λ (k : ℕ). refused k) e
thirteen (given v) e = absurd (omega (arith, e))

-- what a writer's struct tells of its answer
pub record Tells (right : Answer Bytes) (r : UlmWritten) : Type 0 where
  pub size : Bytes
  pub is : right ≡ given size
  pub long : r.length ≡ size.0

pub written_number : (a : Answer Bytes) → (written_face a).refusal ≡ number_of a
written_number (refused n) = refl
written_number (given long) = refl

pub written_tells : (right : Answer Bytes) (r : UlmWritten) → ((n : ℕ) → right ≡ refused n → OfTheTable n) → r ≡ written_face right
    → r.refusal ≡ 0 → Tells right r
written_tells right r h e z =
    let n : number_of right ≡ 0 = omega (arith, written_number right, ap (λ (x : UlmWritten). x.refusal) e, z) in
    let v = was_given right h n in
    record { size = v.0; is = v.1; long = ap (λ (x : UlmWritten). x.length) (e ∙ ap written_face v.1) }

pub wrote_for_c : (g : Given) (body out : List ℕ) (r : UlmWritten) → r ≡ written_face (write_of g body out).answer → r.refusal ≡ 0
    → Tells (write_of g body out).answer r
wrote_for_c g body out r = written_tells (write_of g body out).answer r (write_kept g body out).by_checks.numbered

-- ---- writers: 13 is for want of room alone, where no check before it has that number
abbrev pub numbers : List Check → List ℕ
numbers ks = map (λ (k : Check). k.number) ks

first_number : (ks : List Check) (n : ℕ) → first ks ≡ some n → among n (numbers ks) ≡ true
first_number [] n e = never (cc e)
first_number (k ∷ ks) n e = go k.broken e (λ q. first_number ks n q)
  where
    go : (t : Bool) → pick t (some k.number) (first ks) ≡ some n → (first ks ≡ some n → among n (numbers ks) ≡ true)
        → pick (eqb n k.number) true (among n (numbers ks)) ≡ true
    go true q later = let m : n ≡ k.number = sym (cc q) in simp (eq-eqb n k.number m)
    go false q later = simp (later q, either_true)

module _ (ks : List Check) (whole out : List ℕ) where
  room_asked : {A : Type 0} (v : A) → rule (room_check (length out) whole ∷ []) v ≡ refused 13 → length out < length whole
  room_asked {A} v e = go (ltb (length out) (length whole)) refl e
    where
      go : (t : Bool) → ltb (length out) (length whole) ≡ t → pick {X = Answer A} t (refused 13) (given v) ≡ refused 13
          → length out < length whole
      go true p q = ltb-true (length out) (length whole) p
      go false p q = never (cc q)

  pub wanted : among 13 (numbers ks) ≡ false → (written ks whole out).answer ≡ refused 13 → AllHold ks × (length out < length whole)
  wanted free e =
      let long = bytes (length whole) in
      let room = room_check (length out) whole ∷ [] in
      let d = sym (decide-append ks room refused (given long)) ∙ sym (outcome_answer (ks ++ room) out long (filled whole out)) ∙ e in
      ⊎_elim (λ p. never (cc (sym (first_number ks 13 p) ∙ free))) (λ p. (all_hold ks p.0, room_asked long p.1))
      (stop_or_go ks (rule room long) 13 d)

  pub told_length : (r : UlmWritten) (t : Tells (written ks whole out).answer r) → r.length ≡ length whole
  told_length r t =
      let o = outcome_given (then_room ks whole (length out)) out (bytes (length whole)) (filled whole out) t.size t.is in
      t.long ∙ sym (ap (λ (x : Bytes). x.0) o.1)

pub written_13 : (right : Answer Bytes) (r : UlmWritten) → r ≡ written_face right → r.refusal ≡ 13 → right ≡ refused 13
written_13 right r e z = thirteen right (sym (written_number right) ∙ sym (ap (λ (x : UlmWritten). x.refusal) e) ∙ z)
