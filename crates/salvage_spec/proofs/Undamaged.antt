-- Frames that pass and nothing else: all are kept and nothing is skipped. Assumes nothing.
use Prim.Native.Nat.{ℕ, ◌+◌}
use mathlib.Core.Path.{◌≡◌, refl, ap, ◌∙◌}
use mathlib.Core.List.Memᴰ
use mathlib.Core.List.{List, [], ◌∷◌, map, flatten}
use lib.ListN.{length}
use Rattle.set_spec.specs.Whole.{Passes}
use Rattle.set_spec.proofs.FrameLists.{each_cons}
use Rattle.salvage_spec.specs.Salvage.{salvaged}
use Rattle.salvage_spec.specs.Account.{Piece, kept, skipped, EachPasses, Account, kept_in, runs_in}
use Rattle.salvage_spec.specs.Theorems.{AllPass, Undamaged, Again}
use Rattle.salvage_spec.proofs.AccountLaws.{salvage_told}
use Rattle.salvage_spec.proofs.OneAccount.{account_keeps}

-- ---- their account
all_kept : (frames : List (List ℕ)) → AllPass frames → Account (flatten frames) (map kept frames)
unfolding flatten
all_kept [] p = record { cover = refl; pass = tt; none = tt; longest = tt }
all_kept (f ∷ fs) p =
    account_keeps f (flatten fs) (map kept fs) (p f (Memᴰ.head refl)) (all_kept fs (λ g m. p g (Memᴰ.tail m)))

kept_all : (frames : List (List ℕ)) → kept_in (map kept frames) ≡ frames
kept_all [] = refl
kept_all (f ∷ fs) = ap (λ (l : List (List ℕ)). f ∷ l) (kept_all fs)

no_runs : (frames : List (List ℕ)) (place : ℕ) → runs_in place (map kept frames) ≡ []
no_runs [] place = refl
no_runs (f ∷ fs) place = no_runs fs (place + length f)

pub unchanged : Undamaged
unchanged frames out runs p =
    salvage_told (flatten frames) out runs (map kept frames) (all_kept frames p)
    ∙ (λ i. salvaged (kept_all frames i) (no_runs frames 0 i) out runs)

-- ---- what an account keeps
kept_pass : (pieces : List Piece) → EachPasses pieces → AllPass (kept_in pieces)
kept_pass [] p = λ f m. absurd (Memᴰ.not-nil m)
kept_pass (kept frame ∷ pieces) p = each_cons Passes frame (kept_in pieces) p.0 (kept_pass pieces p.1)
kept_pass (skipped bytes ∷ pieces) p = kept_pass pieces p

pub unchanged_again : Again
unchanged_again b out runs pieces a = unchanged (kept_in pieces) out runs (kept_pass pieces a.pass)
