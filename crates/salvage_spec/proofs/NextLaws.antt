-- The bytes skipped before the first frame kept end at the first place where one stands. Assumes nothing.
use Prim.Native.Nat.{ℕ, zero, suc, ◌+◌, ◌-◌, ◌≤◌, ◌<◌}
use native.Mathlib.Omega.{arith}
use mathlib.Core.Path.{◌≡◌, sym, ap, ◌∙◌}
use mathlib.Core.Bool.{true, false}
use mathlib.Core.List.{List, ◌∷◌}
use lib.ListN.{length, drop, length-drop}
use lib.Seq.{drop-drop}
use Rattle.wire.proofs.CheckLaws.{never}
use Rattle.salvage_spec.specs.Walk.{stands, steps_of, skipped_first}
use Rattle.salvage_spec.specs.Theorems.{NextExactly}
use Rattle.salvage_spec.proofs.WalkLaws.{passes-stands, walk_by}

-- the first place where a frame stands is n, or the end
pub record FirstAt (rest : List ℕ) (n : ℕ) : Type 0 where
  pub up_to : n ≤ length rest
  pub none : (i : ℕ) → i < n → stands (drop i rest) ≡ false
  pub here : n < length rest → stands (drop n rest) ≡ true

first_skips : (byte : ℕ) (rest : List ℕ) (n : ℕ) → stands (byte ∷ rest) ≡ false → FirstAt rest n → FirstAt (byte ∷ rest) (suc n)
first_skips byte rest n e f = record { up_to = omega (arith, f.up_to); none = none; here = λ h. f.here (omega arith) }
  where
    none : (i : ℕ) → i < suc n → stands (drop i (byte ∷ rest)) ≡ false
    none zero h = e
    none (suc i) h = f.none i (omega arith)

pub first-at : (rest : List ℕ) → FirstAt rest (skipped_first (steps_of rest))
unfolding skipped_first
first-at =
    walk_by (λ rest steps. FirstAt rest (skipped_first steps)) (record {
      up_to = omega arith;
      none = λ i h. absurd (omega arith);
      here = λ h. absurd (omega arith);
    })
    (λ frame rest steps p f. record { up_to = omega arith; none = λ i h. absurd (omega arith); here = λ h. passes-stands frame rest p })
    (λ byte rest steps e f. first_skips byte rest (skipped_first steps) e f)

pub next-at : NextExactly
next-at b place =
    let f = first-at (drop place b) in
    let n = skipped_first (steps_of (drop place b)) in
    let l = length-drop place b in
    record {
      from = omega arith;
      up_to = λ h. omega (arith, f.up_to);
      none = λ i low high e.
          let k : place + (i - place) ≡ i = omega arith in
          never
          (cc (sym (f.none (i - place) (omega arith)) ∙ ap stands (drop-drop (i - place) place b)
          ∙ ap (λ (j : ℕ). stands (drop j b)) k ∙ e));
      stands = λ h. ap stands (sym (drop-drop n place b)) ∙ f.here (omega arith);
    }
