use Prim.Native.Nat.{ℕ, ◌≤◌}
use native.Mathlib.Omega.{arith}
use mathlib.Core.Bool.{Bool, not, ◌&&◌}
use mathlib.Core.Path.{◌≡◌, refl, sym, ap, ◌∙◌}
use mathlib.Core.List.{List, [], ◌∷◌, map}
use borrow.Author.Rules.{rules}
use borrow.Author.Tests.{tests}
use lib.Dec.{ltb, leb}
use lib.ListN.{length}
use Rattle.std.specs.List.{zip, list_any}
use Rattle.std.proofs.lemmas.Bool.Decides.{nat_tests}
use Rattle.std.proofs.lemmas.Iterator.{YieldsList-from_slice, YieldsList-from_zip}
use Rattle.std.proofs.lemmas.Iterator.Search.{any_from_yields_List}
use Rattle.wire.specs.Checks.{either, some_broken}
use Rattle.wire.proofs.CheckLaws.{either_or}
use Rattle.form_spec.specs.Forms.{within, outside, row, field_checks}
use Rattle.censor.proofs.region_broken.Goals as goal

abbrev limits : List (ℕ × ℕ)
limits = (0, 511) ∷ (0, 511) ∷ (0, 360) ∷ (0, 360) ∷ (1, 5) ∷ (0, 2) ∷ []

abbrev beyond : ℕ × (ℕ × ℕ) → Bool
beyond p = outside (within p.1.0 p.1.1) p.0

not_inside : (x least most : ℕ) → not (leb least x && leb x most) ≡ outside (within least most) x
unfolding outside
not_inside x least most = sym (either_or (ltb x least) (ltb most x) ∙ grind (arith, nat_tests))

-- numbers by the table of their limits, as by the rows of the rule
by_table : (ps : List (ℕ × ℕ)) (l : List ℕ) → length ps ≤ length l
    → list_any beyond (zip l ps) ≡ some_broken (field_checks (map (λ p. row 2 (within p.0 p.1)) ps) l)
by_table [] [] h = refl
by_table [] (x ∷ l) h = refl
by_table (p ∷ ps) [] h = absurd (omega arith)
by_table (p ∷ ps) (x ∷ l) h =
    sym (either_or (beyond (x, p)) (list_any beyond (zip l ps))) ∙ ap (either (beyond (x, p))) (by_table ps l (omega arith))

pub returns : goal.returns
returns c =
    any_from_yields_List beyond c.any.new.self _ c.any.result c.any.ensures.ran
    (YieldsList-from_zip (YieldsList-from_slice c.args.region.now cc) (YieldsList-from_slice limits cc))
    (λ x b q k. (search rules, search (rules, tests) ∙ not_inside x.0.now x.1.now.0 x.1.now.1))
    ∙ by_table limits c.args.region.now c.requires
