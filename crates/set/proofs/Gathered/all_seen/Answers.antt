use Prim.Native.Nat.{◌≤◌}
use mathlib.Core.Bool.{Bool}
use mathlib.Core.Path.{◌≡◌, ◌∙◌}
use native.Mathlib.Omega.{arith}
use lib.ListN.{length, take}
use borrow.Author.Rules.{rules}
use Rattle.std.specs.List.{list_all}
use Rattle.std.proofs.Common.{tests}
use Rattle.std.proofs.lemmas.Iterator.{YieldsList-from_slice}
use Rattle.std.proofs.lemmas.Iterator.Search.{all_from_yields_List}
use Rattle.set.proofs.ArrayLaws.{set_all}
use Rattle.set.proofs.Gathered.all_seen.Goals as goal

pub returns : goal.returns
returns c =
    let flags = c.args.self.now.flags in
    let n = c.args.n in
    let seen : c.all.result ≡ list_all (λ (b : Bool). b) (take n flags) =
    all_from_yields_List (λ (b : Bool). b) _ _ c.all.result c.all.ensures.ran (YieldsList-from_slice (take n flags) c.iter.ensures.rest)
    (λ x b q k. search (rules, tests)) in
    let long : n ≤ length flags = omega arith in
    seen ∙ set_all flags n long
