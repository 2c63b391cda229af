-- Room for what is kept and skipped of a buffer, and what comes of a salvage with it and without. Assumes nothing.
use Prim.Native.Nat.{ℕ, suc, ◌*◌}
use mathlib.Core.Path.{◌≡◌, refl, sym, ap, subst, ◌∙◌}
use mathlib.Core.Bool.{Bool, true, false, ◌&&◌}
use mathlib.Core.List.{List, flatten}
use native.Mathlib.Omega.{arith}
use lib.Dec.{leb}
use lib.ListN.{length}
use borrow.Author.Tests.{leb-true, leb-false, le-leb}
use Rattle.std.specs.Prelude.{Ok, Err}
use Rattle.wire.specs.declared.refusal.Refusal.TheVariants.{OutputSmall}
use Rattle.wire.specs.Answers.{given, refusal, Promise}
use Rattle.std.specs.Int.{div_ceil}
use Rattle.wire.specs.Writing.{filled}
use Rattle.wire.proofs.CheckLaws.{never}
use Rattle.wire.proofs.AnswerLaws.{kept}
use Rattle.salvage_spec.specs.Walk.{kept_of, skipped_of}
use Rattle.salvage_spec.specs.Salvage.{numbers, salvaged, salvage_of}
use Rattle.salvage_spec.specs.Theorems.{least_frame, InTurn}
use Rattle.salvage_spec.proofs.Theorems.{refused-in_order, most_runs_lem, most_kept}
use Rattle.salvage.specs.declared.Salvaged.{Salvaged}
use Rattle.salvage.specs.Told.{tell_salvage}
use Rattle.salvage.specs.Steps.{WalkedOver, room_for}

both_of : (s t : Bool) → s && t ≡ true → (s ≡ true) × (t ≡ true)
both_of true t e = (refl, e)
both_of false t e = never (cc e)

module _ (b out runs : List ℕ) where
  -- room for all bytes and for as many runs as there can be
  pub any_room : (most : ℕ) → most ≡ div_ceil (length b) (suc least_frame) → leb (length b) (length out) && leb (2 * most) (length runs) ≡ true
      → true ≡ room_for b out runs
  any_room most is e =
      let p = both_of (leb (length b) (length out)) (leb (2 * most) (length runs)) e in
      let o = leb-true (length b) (length out) p.0 in
      let r = leb-true (2 * most) (length runs) p.1 in
      let k = most_kept b in
      let m = most_runs_lem b in
      sym
      (simp
      (le-leb (length (flatten (kept_of b))) (length out) (omega arith), le-leb (2 * length (skipped_of b)) (length runs) (omega arith)))

  -- what was counted tells whether there is room
  pub counted_room : (o r o' r' : List ℕ) (t : Salvaged) → WalkedOver b o r t o' r'
      → leb t.length (length out) && leb (2 * t.runs) (length runs) ≡ room_for b out runs
  counted_room o r o' r' t w =
      ap (λ (n : ℕ). leb n (length out) && leb (2 * t.runs) (length runs)) w.long
      ∙ ap (λ (n : ℕ). leb (length (flatten (kept_of b))) (length out) && leb (2 * n) (length runs)) w.count

  -- without room the outputs stay as they were
  pub no_room : (out' runs' : List ℕ) → out' ≡ out → runs' ≡ runs → room_for b out runs ≡ false
      → Promise tell_salvage (salvage_of b out runs) (Err OutputSmall) (out', runs')
  unfolding salvage_of
  no_room out' runs' o r e =
      kept tell_salvage (salvage_of b out runs) (Err OutputSmall) (out', runs') (out, runs)
      (by (leb (length (flatten (kept_of b))) (length out)) refl) (λ i. (o i, r i))
    where
      turn : InTurn (kept_of b) (skipped_of b) out runs
      turn = refused-in_order (kept_of b) (skipped_of b) out runs

      by : (t : Bool) → leb (length (flatten (kept_of b))) (length out) ≡ t
          → salvaged (kept_of b) (skipped_of b) out runs ≡ refusal (out, runs) 13
      by false q = turn.little_output (leb-false (length (flatten (kept_of b))) (length out) q)
      by true q =
          turn.few_runs
          (leb-false (2 * length (skipped_of b)) (length runs)
          (sym (ap (λ (t : Bool). t && leb (2 * length (skipped_of b)) (length runs)) q) ∙ e))

  pub with_room : (t : Salvaged) (out₁ runs₁ out' runs' : List ℕ) → out₁ ≡ out → runs₁ ≡ runs → room_for b out runs ≡ true
      → WalkedOver b out₁ runs₁ t out' runs'
      → Promise tell_salvage (salvage_of b out runs) (Ok t) (out', runs')
  unfolding salvage_of
  with_room t out₁ runs₁ out' runs' o r e w₁ =
      let w : WalkedOver b out runs t out' runs' =
      subst (λ (l : List ℕ). WalkedOver b out l t out' runs') r (subst (λ (l : List ℕ). WalkedOver b l runs₁ t out' runs') o w₁) in
      let p = both_of (leb (length (flatten (kept_of b))) (length out)) (leb (2 * length (skipped_of b)) (length runs)) e in
      let bytes = leb-true (length (flatten (kept_of b))) (length out) p.0 in
      let list = leb-true (2 * length (skipped_of b)) (length runs) p.1 in
      let left : List ℕ × List ℕ = (filled (flatten (kept_of b)) out, filled (numbers (skipped_of b)) runs) in
      kept tell_salvage (salvage_of b out runs) (Ok t) (out', runs') left
      ((refused-in_order (kept_of b) (skipped_of b) out runs).enough bytes list
      ∙ sym (λ i. record { answer = given (record { kept = w.kept i; long = w.long i; runs = w.count i }); output = left }))
      (λ i. (w.output bytes i, w.listed list i))
