use Prim.Native.Nat.{ℕ}
use native.Mathlib.Omega.{arith}
use mathlib.Core.Path.{◌≡◌, ◌∙◌}
use mathlib.Core.List.{List}
use Rattle.wire.specs.Numbers.{fetched}
use Rattle.wire.proofs.NumberLaws.{fetched-whole}
use Rattle.radial_spec.specs.Description.{count_place}
use Rattle.radial_spec.specs.Refusal.{count_in}
use Rattle.radial_spec.proofs.Held.{Held, held}
use Rattle.radial.proofs.Accepted.count.Goals as goal

-- the count that was fetched is the body's
counted : (b : List ℕ) (n : ℕ) → Held b → n ≡ fetched 2 b count_place → n ≡ count_in b
counted b n h e = e ∙ fetched-whole 2 b count_place (omega (arith, h.start.long))

pub returns-clause-is : goal.returns-clause-is
returns-clause-is c = counted _ _ (held _ _ c.args.self.accepted) c.fetch.ensures

pub returns-clause-few : goal.returns-clause-few
returns-clause-few c =
    let h = held _ _ c.args.self.accepted in
    let is = counted _ _ h c.fetch.ensures in
    (omega (arith, h.start.some, is), omega (arith, h.start.few, is))
