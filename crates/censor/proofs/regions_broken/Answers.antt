use Prim.Native.Nat.{ℕ, ◌/◌}
use native.Mathlib.Omega.{arith}
use mathlib.Core.Path.{◌≡◌, sym, ap, ◌∙◌, subst}
use mathlib.Core.Bool.{Bool, true, false}
use mathlib.Core.List.{List, [], ◌∷◌}
use borrow.Author.Rules.{rules}
use denote.Ref.{Bor}
use denote.Param.Members.{Mut}
use lib.ListN.{length}
use Rattle.std.specs.declared.slice.ChunksExact.{ChunksExact}
use Rattle.std.specs.Prelude.{Option, None, Some}
use Rattle.std.specs.Iterator.{Yields}
use Rattle.std.specs.List.{FoldsTo}
use Rattle.std.specs.Fn.{Called}
use Rattle.std.specs.Option.{MatchOption}
use Rattle.std.specs.Slice.Iter.{chunks_exact_rest, chunks_exact_size, chunks_exact_steps}
use Rattle.censor.specs.Censor.{region_fields}
use Rattle.censor.specs.Steps.{region_broken, regions_broken}
use Rattle.censor.proofs.StepLaws.{first_broken, first_fine, none_left}
use Rattle.censor.proofs.regions_broken.Goals as goal

-- regions one after the other, the first that is broken ends the walk
module _ {F : Type 0} (g : Mut F (Bor (List ℕ) × Unit {0}) Bool)
    (told : (p q : F) (x : Bor (List ℕ)) (b : Bool) → Called g p (x, tt) b q → b ≡ region_broken x.now) where
  abbrev Told : Bool → ChunksExact ℕ → Type 0
  Told r s = r ≡ regions_broken (length (chunks_exact_rest s) / region_fields) (chunks_exact_rest s)

  abbrev Ended : Option (Bor (List ℕ)) → Bool → F → Type 0
  Ended o r j = MatchOption o (r ≡ false) (λ x. (r ≡ true) × ((h : F) × Called g j (x, tt) true h))

  -- what ended the walk
  ended : (o : Option (Bor (List ℕ))) (r : Bool) (s u : ChunksExact ℕ) (j : F) → chunks_exact_size s ≡ region_fields
      → chunks_exact_steps s o u → Ended o r j → Told r s
  ended None r s u j z c m = m ∙ sym (none_left (chunks_exact_rest s) (omega (arith, c.1.0, z)))
  ended (Some x) r s u j z c m =
      let l = c.1.1 ∙ z in
      m.0 ∙ sym (first_broken x.now (chunks_exact_rest u) (chunks_exact_rest s) c.1.0 l (sym (told j m.1.0 x true m.1.1)))

  walked : (xs : List (Bor (List ℕ))) (o : Option (Bor (List ℕ))) (r : Bool) (s t u : ChunksExact ℕ) (p j : F)
      → chunks_exact_size s ≡ region_fields → Yields chunks_exact_steps s xs t
      → FoldsTo (λ p x q. Called g p (x, tt) false q) p xs j → chunks_exact_steps t o u → Ended o r j → Told r s
  walked [] o r s t u p j z y f c m = ended o r s u j z (subst (λ v. chunks_exact_steps v o u) (sym y) c) m
  walked (x ∷ xs) o r s t u p j z y f c m =
      let l = y.1.1.1 ∙ z in
      walked xs o r y.0 t u f.0 j (y.1.0 ∙ z) y.2 f.2 c m
      ∙ sym (first_fine x.now (chunks_exact_rest y.0) (chunks_exact_rest s) y.1.1.0 l (sym (told p f.0 x false f.1)))

pub returns : goal.returns
returns c =
    let ran = c.any.ensures.ran in
    walked _ (λ p q x b k. search rules) ran.0 ran.1 c.any.result _ ran.3.0 _ _ ran.2 c.chunks_exact.ensures.size ran.3.1 ran.4 ran.3.2 ran.5
    ∙ ap (λ (l : List ℕ). regions_broken (length l / region_fields) l) c.chunks_exact.ensures.rest
