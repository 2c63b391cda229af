-- Frames kept and runs are all of a recording, and runs lie apart. Assumes nothing.
use Prim.Native.Nat.{ℕ, suc, ◌+◌, ◌-◌, ◌*◌, ◌≤◌, ◌<◌}
use native.Mathlib.Omega.{arith}
use mathlib.Core.Path.{◌≡◌, refl, sym, ap, subst, ◌∙◌}
use mathlib.Core.Bool.{Bool, true, false}
use mathlib.Core.List.{List, [], ◌∷◌, ◌++◌, flatten}
use lib.Dec.{eqb}
use lib.ListN.{length, length-append}
use borrow.Author.Tests.{eqb-true, eqb-false, eq-eqb, ne_eqb}
use Rattle.set_spec.specs.Whole.{Passes}
use Rattle.salvage_spec.specs.Walk.{Step, kept, steps_of, frames_of, Run, run, runs_of, skipped_of}
use Rattle.salvage_spec.specs.Theorems.{least_frame, long_all, Apart, InAll, RunsApart, MostRuns, MostKept}
use Rattle.salvage_spec.proofs.WalkLaws.{passes-least, walk_by}

-- a run, or none
pub run_none : (place : ℕ) → run place place ≡ []
run_none place = simp (eq-eqb place place refl)

pub run-some : (first next : ℕ) → (first ≡ next → ⊥) → run first next ≡ record { place = first; long = next - first } ∷ []
run-some first next ne = simp (ne_eqb first next ne)

pub run-one : (place long : ℕ) → 0 < long → run place (place + long) ≡ record { place = place; long = long } ∷ []
run-one place long h =
    let e : place + long - place ≡ long = omega arith in
    run-some place (place + long) (λ q. omega arith) ∙ ap (λ (n : ℕ). record { place = place; long = n } ∷ []) e

run_by : (P : List Run → Type 0) (first next : ℕ) → first ≤ next → (first ≡ next → P [])
    → (0 < next - first → P (record { place = first; long = next - first } ∷ []))
    → P (run first next)
run_by P first next h none some = go (eqb first next) refl
  where
    go : (t : Bool) → eqb first next ≡ t → P (run first next)
    go true e = let q = eqb-true first next e in subst (λ (n : ℕ). P (run first n)) q (subst P (sym (run_none first)) (none q))
    go false e = let ne = eqb-false first next e in subst P (sym (run-some first next ne)) (some (omega (arith, ne)))

-- ---- bytes kept and bytes skipped
run_long : (first next : ℕ) (rs : List Run) → first ≤ next → long_all (run first next ++ rs) ≡ next - first + long_all rs
run_long first next rs h = run_by (λ l. long_all (l ++ rs) ≡ next - first + long_all rs) first next h (λ e. omega arith) (λ some. omega arith)

abbrev AllBytes : List ℕ → List Step → Type 0
AllBytes rest steps = (first next : ℕ) → first ≤ next
    → length (flatten (frames_of steps)) + long_all (runs_of first next steps) ≡ length rest + (next - first)

all_keeps : (frame rest : List ℕ) (steps : List Step) → Passes frame → AllBytes rest steps → AllBytes (frame ++ rest) (kept frame ∷ steps)
unfolding frames_of runs_of flatten
all_keeps frame rest steps p later first next h =
    let after = next + length frame in
    omega (
      arith,
      length-append frame rest,
      length-append frame (flatten (frames_of steps)),
      run_long first next (runs_of after after steps) h,
      later after after (omega arith),
    )

all_steps : (b : List ℕ) → AllBytes b (steps_of b)
unfolding frames_of runs_of flatten
all_steps =
    walk_by AllBytes (λ first next h. run_by (λ rs. 0 + long_all rs ≡ 0 + (next - first)) first next h (λ e. omega arith)
    (λ some. omega arith)) all_keeps
    (λ byte rest steps none later first next h. omega (arith, later first (suc next) (omega arith)))

pub long_all_lem : InAll
long_all_lem b = all_steps b 0 0 (omega arith) ∙ omega arith

pub kept_most : MostKept
kept_most b = omega (arith, long_all_lem b)

-- ---- apart
abbrev LieApart : List ℕ → List Step → Type 0
LieApart rest steps = (from first next long : ℕ) → from ≤ first → first ≤ next → next + length rest ≡ long
    → Apart from long (runs_of first next steps)

apart_keeps : (frame rest : List ℕ) (steps : List Step) → Passes frame → LieApart rest steps → LieApart (frame ++ rest) (kept frame ∷ steps)
unfolding runs_of
apart_keeps frame rest steps p later from first next long low up e =
    let after = next + length frame in
    let l = length-append frame rest in
    let least = passes-least frame p in
    run_by (λ rs. Apart from long (rs ++ runs_of after after steps)) first next up
    (λ q. later from after after long (omega arith) (omega arith) (omega arith))
    (λ some. (
      low,
      some,
      omega arith,
      later (first + (next - first) + least_frame) after after long (omega arith) (omega arith) (omega arith),
    ))

apart_steps : (b : List ℕ) → LieApart b (steps_of b)
unfolding runs_of
apart_steps =
    walk_by LieApart
    (λ from first next long low up e. run_by (Apart from long) first next up (λ q. tt) (λ some. (low, some, omega arith, tt)))
    apart_keeps
    (λ byte rest steps none later from first next long low up e. later from first (suc next) long low (omega arith) (omega arith))

pub apart_all : RunsApart
apart_all b = apart_steps b 0 0 0 (length b) (omega arith) (omega arith) (omega arith)

-- ---- so few
few_apart : (rs : List Run) (from long : ℕ) → Apart from long rs → from ≤ long + least_frame
    → suc least_frame * length rs + from ≤ long + least_frame
few_apart [] from long a h = omega arith
few_apart (r ∷ rs) from long a h =
    omega (arith, a.0, a.1, a.2, few_apart rs (r.place + r.long + least_frame) long a.3 (omega (arith, a.2)))

pub runs_few : MostRuns
runs_few b = omega (arith, few_apart (skipped_of b) 0 (length b) (apart_all b) (omega arith))
