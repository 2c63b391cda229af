-- Frames, runs and two lent outputs: with room for both no refusal. Assumes nothing.
use Prim.Native.Nat.{ℕ, ◌*◌}
use native.Mathlib.Omega.{arith}
use mathlib.Core.Path.{◌≡◌, refl, ◌∙◌}
use mathlib.Core.Bool.{Bool, true, false}
use mathlib.Core.List.{List, [], ◌∷◌, flatten}
use lib.Dec.{ltb}
use lib.ListN.{length}
use borrow.Author.Tests.{lt-ltb, le-ltb}
use Rattle.wire.specs.Checks.{pick}
use Rattle.wire.specs.Answers.{given, Outcome, refusal}
use Rattle.wire.specs.Writing.{filled}
use Rattle.salvage_spec.specs.Walk.{Run}
use Rattle.salvage_spec.specs.Salvage.{Report, numbers, report, salvaged}
use Rattle.salvage_spec.specs.Theorems.{RefusedInOrder}

pub numbers-length : (rs : List Run) → length (numbers rs) ≡ 2 * length rs
unfolding numbers flatten
numbers-length [] = omega arith
numbers-length (r ∷ rs) = omega (arith, numbers-length rs)

module _ (frames : List (List ℕ)) (skipped : List Run) (out runs : List ℕ) where
  abbrev written : Outcome (List ℕ × List ℕ) Report
  written = record { answer = given (report frames skipped); output = (filled (flatten frames) out, filled (numbers skipped) runs) }

  -- the outcome follows from the two checks
  by_room : (t u : Bool) → ltb (length out) (length (flatten frames)) ≡ t → ltb (length runs) (length (numbers skipped)) ≡ u
      → salvaged frames skipped out runs ≡ pick t (refusal (out, runs) 13) (pick u (refusal (out, runs) 13) written)
  by_room t u p q = λ i. pick (p i) (refusal (out, runs) 13) (pick (q i) (refusal (out, runs) 13) written)

  few : (t : Bool) → pick t (refusal (out, runs) 13) (pick true (refusal (out, runs) 13) written) ≡ refusal (out, runs) 13
  few true = refl
  few false = refl

pub in_order : RefusedInOrder
in_order frames skipped out runs =
    let bytes = ltb (length out) (length (flatten frames)) in
    let list = ltb (length runs) (length (numbers skipped)) in
    let two = numbers-length skipped in
    record {
      little_output = λ h. by_room frames skipped out runs true list (lt-ltb (length out) (length (flatten frames)) h) refl;
      few_runs = λ h.
          by_room frames skipped out runs bytes true refl (lt-ltb (length runs) (length (numbers skipped)) (omega arith))
          ∙ few frames skipped out runs bytes;
      enough = λ h k.
          by_room frames skipped out runs false false (le-ltb (length out) (length (flatten frames)) h)
          (le-ltb (length runs) (length (numbers skipped)) (omega arith));
    }
