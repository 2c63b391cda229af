-- An account tells the steps of the walk, and so what comes of a salvage. Assumes nothing.
use Prim.Native.Nat.{ℕ, ◌+◌}
use native.Mathlib.Omega.{arith}
use mathlib.Core.Path.{◌≡◌, refl, sym, ap, ◌∙◌}
use mathlib.Core.List.{List, [], ◌∷◌, ◌++◌, flatten, append-nil}
use lib.ListN.{length, drop, replicate, length-append}
use lib.Seq.{drop-append_seam}
use Rattle.salvage_spec.specs.Walk.{Step, kept, skipped, steps_of, frames_of, Run, run, runs_of, kept_of, skipped_of}
use Rattle.salvage_spec.specs.Salvage.{salvaged, salvage_of}
use Rattle.salvage_spec.specs.Account.{Piece, kept as keptPiece, skipped as skippedPiece, joined, EachPasses, NoneSkipped, NotSkipped, LongestRuns, Account, kept_in, runs_in}
use Rattle.salvage_spec.specs.Theorems.{ByAccount}
use Rattle.salvage_spec.proofs.WalkLaws.{none-stands, steps_end, steps_passes, steps_run, frames_skipped, runs_skipped}
use Rattle.salvage_spec.proofs.RunLaws.{run_none, run-one}

-- ---- the steps that pieces tell
abbrev pub steps_in : List Piece → List Step
steps_in [] = []
steps_in (keptPiece frame ∷ pieces) = kept frame ∷ steps_in pieces
steps_in (skippedPiece bytes ∷ pieces) = replicate (length bytes) skipped ++ steps_in pieces

steps_joined : (pieces : List Piece) → EachPasses pieces → NoneSkipped pieces → steps_of (joined pieces) ≡ steps_in pieces
unfolding flatten
steps_joined [] e n = steps_end
steps_joined (keptPiece frame ∷ pieces) e n =
    steps_passes frame (joined pieces) e.0 ∙ ap (λ (l : List Step). kept frame ∷ l) (steps_joined pieces e.1 n)
steps_joined (skippedPiece bytes ∷ pieces) e n =
    let all = bytes ++ joined pieces in
    let run = replicate (length bytes) skipped in
    steps_run (length bytes) all (omega (arith, length-append bytes (joined pieces))) (λ i h. none-stands (drop i all) (n.0 i h))
    ∙ ap (λ (b : List ℕ). run ++ steps_of b) (drop-append_seam bytes (joined pieces))
    ∙ ap (λ (l : List Step). run ++ l) (steps_joined pieces e n.1)

pub steps_told : (b : List ℕ) (pieces : List Piece) → Account b pieces → steps_of b ≡ steps_in pieces
steps_told b pieces a = ap steps_of (sym a.cover) ∙ steps_joined pieces a.pass a.none

-- ---- their frames and runs
frames_told : (pieces : List Piece) → frames_of (steps_in pieces) ≡ kept_in pieces
unfolding frames_of
frames_told [] = refl
frames_told (keptPiece frame ∷ pieces) = ap (λ (l : List (List ℕ)). frame ∷ l) (frames_told pieces)
frames_told (skippedPiece bytes ∷ pieces) = frames_skipped (length bytes) (steps_in pieces) ∙ frames_told pieces

-- a run ends where no other follows
run_ends : (pieces : List Piece) (first next : ℕ) → NotSkipped pieces
    → runs_of first next (steps_in pieces) ≡ run first next ++ runs_of next next (steps_in pieces)
unfolding runs_of
run_ends [] first next h = sym (append-nil (run first next)) ∙ ap (λ (rs : List Run). run first next ++ rs) (sym (run_none next))
run_ends (keptPiece frame ∷ pieces) first next h =
    let later = runs_of (next + length frame) (next + length frame) (steps_in pieces) in
    ap (λ (rs : List Run). run first next ++ (rs ++ later)) (sym (run_none next))
run_ends (skippedPiece bytes ∷ pieces) first next h = absurd h

runs_told : (pieces : List Piece) (place : ℕ) → LongestRuns pieces → runs_of place place (steps_in pieces) ≡ runs_in place pieces
unfolding runs_of
runs_told [] place l = run_none place
runs_told (keptPiece frame ∷ pieces) place l =
    let next = place + length frame in
    ap (λ (rs : List Run). rs ++ runs_of next next (steps_in pieces)) (run_none place) ∙ runs_told pieces next l
runs_told (skippedPiece bytes ∷ pieces) place l =
    let long = length bytes in
    let next = place + long in
    runs_skipped long place place (steps_in pieces)
    ∙ run_ends pieces place next l.1
    ∙ ap (λ (rs : List Run). rs ++ runs_of next next (steps_in pieces)) (run-one place long l.0)
    ∙ ap (λ (rs : List Run). record { place = place; long = long } ∷ rs) (runs_told pieces next l.2)

module _ (b : List ℕ) (pieces : List Piece) (a : Account b pieces) where
  pub kept_told : kept_of b ≡ kept_in pieces
  kept_told = ap frames_of (steps_told b pieces a) ∙ frames_told pieces

  pub skipped_told : skipped_of b ≡ runs_in 0 pieces
  skipped_told = ap (λ (steps : List Step). runs_of 0 0 steps) (steps_told b pieces a) ∙ runs_told pieces 0 a.longest

pub salvage_told : ByAccount
unfolding salvage_of
salvage_told b out runs pieces a = λ i. salvaged (kept_told b pieces a i) (skipped_told b pieces a i) out runs
