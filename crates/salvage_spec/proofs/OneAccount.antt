-- Every recording has exactly one account. Assumes nothing.
use Prim.Native.Nat.{ℕ, zero, suc, ◌<◌}
use native.Mathlib.Omega.{arith}
use mathlib.Core.Path.{◌≡◌, refl, sym, ap, subst, ◌∙◌}
use mathlib.Core.Bool.{false}
use mathlib.Core.List.{List, [], ◌∷◌, ◌++◌, flatten}
use lib.ListN.{length, drop, replicate}
use lib.Seq.{drop-append_seam}
use Rattle.set_spec.specs.Whole.{Passes}
use Rattle.salvage_spec.specs.Walk.{stands, Step, kept, skipped, steps_of}
use Rattle.salvage_spec.specs.Account.{Piece, kept as keptPiece, skipped as skippedPiece, joined, NoneBegins, NotSkipped, LongestRuns, Account}
use Rattle.salvage_spec.specs.Theorems.{AccountedOnce}
use Rattle.salvage_spec.proofs.WalkLaws.{stands-none, walk_by}
use Rattle.salvage_spec.proofs.AccountLaws.{steps_in, steps_told}

-- ---- the pieces of a recording by its steps
-- one skipped byte put before the pieces: it joins the run that they begin with, or is a run of its own
abbrev skip_one : ℕ → List Piece → List Piece
skip_one byte [] = skippedPiece (byte ∷ []) ∷ []
skip_one byte (keptPiece frame ∷ pieces) = skippedPiece (byte ∷ []) ∷ keptPiece frame ∷ pieces
skip_one byte (skippedPiece bytes ∷ pieces) = skippedPiece (byte ∷ bytes) ∷ pieces

abbrev pieces_of : List Step → List ℕ → List Piece
pieces_of [] b = []
pieces_of (kept frame ∷ steps) b = keptPiece frame ∷ pieces_of steps (drop (length frame) b)
pieces_of (skipped ∷ steps) [] = []
pieces_of (skipped ∷ steps) (byte ∷ b) = skip_one byte (pieces_of steps b)

-- ---- they are an account
pub account_keeps : (frame rest : List ℕ) (pieces : List Piece) → Passes frame → Account rest pieces
    → Account (frame ++ rest) (keptPiece frame ∷ pieces)
unfolding flatten
account_keeps frame rest pieces p a = record {
  cover = ap (λ (b : List ℕ). frame ++ b) a.cover;
  pass = (p, a.pass);
  none = a.none;
  longest = a.longest;
}

-- a byte at which no frame begins
module _ (byte : ℕ) (rest : List ℕ) (e : stands (byte ∷ rest) ≡ false) where
  none_here : (pieces : List Piece) → Account rest pieces → NoneBegins (byte ∷ joined pieces)
  none_here pieces a = subst (λ (b : List ℕ). NoneBegins (byte ∷ b)) (sym a.cover) (stands-none (byte ∷ rest) e)

  new_run : (pieces : List Piece) → NotSkipped pieces → Account rest pieces → Account (byte ∷ rest) (skippedPiece (byte ∷ []) ∷ pieces)
  unfolding flatten
  new_run pieces n a = record {
    cover = ap (λ (b : List ℕ). byte ∷ b) a.cover;
    pass = a.pass;
    none = (none, a.none);
    longest = (omega arith, n, a.longest);
  }
    where
      none : (i : ℕ) → i < 1 → NoneBegins (drop i (byte ∷ joined pieces))
      none zero h = none_here pieces a
      none (suc i) h = absurd (omega arith)

  more_run : (bytes : List ℕ) (pieces : List Piece) → Account rest (skippedPiece bytes ∷ pieces)
      → Account (byte ∷ rest) (skippedPiece (byte ∷ bytes) ∷ pieces)
  unfolding flatten
  more_run bytes pieces a = record {
    cover = ap (λ (b : List ℕ). byte ∷ b) a.cover;
    pass = a.pass;
    none = (none, a.none.1);
    longest = (omega arith, a.longest.1, a.longest.2);
  }
    where
      none : (i : ℕ) → i < suc (length bytes) → NoneBegins (drop i (byte ∷ (bytes ++ joined pieces)))
      none zero h = none_here (skippedPiece bytes ∷ pieces) a
      none (suc i) h = a.none.0 i (omega arith)

  account_skips : (pieces : List Piece) → Account rest pieces → Account (byte ∷ rest) (skip_one byte pieces)
  account_skips [] a = new_run [] tt a
  account_skips (keptPiece frame ∷ pieces) a = new_run (keptPiece frame ∷ pieces) tt a
  account_skips (skippedPiece bytes ∷ pieces) a = more_run bytes pieces a

account_of : (b : List ℕ) → Account b (pieces_of (steps_of b) b)
unfolding flatten
account_of =
    walk_by (λ rest steps. Account rest (pieces_of steps rest)) (record { cover = refl; pass = tt; none = tt; longest = tt })
    (λ frame rest steps p a.
    account_keeps frame rest (pieces_of steps (drop (length frame) (frame ++ rest))) p
    (subst (λ (b : List ℕ). Account rest (pieces_of steps b)) (sym (drop-append_seam frame rest)) a))
    (λ byte rest steps e a. account_skips byte rest e (pieces_of steps rest) a)

-- ---- and the only one: its steps and bytes give it back
skip_new : (byte : ℕ) (pieces : List Piece) → NotSkipped pieces → skip_one byte pieces ≡ skippedPiece (byte ∷ []) ∷ pieces
skip_new byte [] n = refl
skip_new byte (keptPiece frame ∷ pieces) n = refl
skip_new byte (skippedPiece bytes ∷ pieces) n = absurd n

run_back : (bytes : List ℕ) (pieces : List Piece) → 0 < length bytes → NotSkipped pieces
    → pieces_of (steps_in pieces) (joined pieces) ≡ pieces
    → pieces_of (replicate (length bytes) skipped ++ steps_in pieces) (bytes ++ joined pieces) ≡ skippedPiece bytes ∷ pieces
run_back [] pieces h n e = absurd (omega arith)
run_back (x ∷ []) pieces h n e = ap (skip_one x) e ∙ skip_new x pieces n
run_back (x ∷ y ∷ bytes) pieces h n e = ap (skip_one x) (run_back (y ∷ bytes) pieces (omega arith) n e)

pieces_back : (pieces : List Piece) → LongestRuns pieces → pieces_of (steps_in pieces) (joined pieces) ≡ pieces
unfolding flatten
pieces_back [] l = refl
pieces_back (keptPiece frame ∷ pieces) l =
    ap (λ (b : List ℕ). keptPiece frame ∷ pieces_of (steps_in pieces) b) (drop-append_seam frame (joined pieces))
    ∙ ap (λ (ps : List Piece). keptPiece frame ∷ ps) (pieces_back pieces l)
pieces_back (skippedPiece bytes ∷ pieces) l = run_back bytes pieces l.0 l.1 (pieces_back pieces l.2)

account_only : (b : List ℕ) (pieces : List Piece) → Account b pieces → pieces ≡ pieces_of (steps_of b) b
account_only b pieces a =
    sym (pieces_back pieces a.longest) ∙ (λ i. pieces_of (sym (steps_told b pieces a) i) (a.cover i))

pub one_account : AccountedOnce
one_account b = record { the = pieces_of (steps_of b) b; meets = account_of b; only = account_only b }
