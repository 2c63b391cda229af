use Prim.Native.Nat.{ℕ}
use native.Mathlib.Omega.{arith}
use mathlib.Core.Path.{◌≡◌, refl, ap, ◌∙◌}
use mathlib.Core.List.{List}
use lib.ListN.{length}
use Rattle.std.specs.Prelude.{Option as Maybe, None, Some}
use Rattle.std.specs.Option.{ok_or}
use borrow.Author.Rules.{rules}
use Rattle.wire.specs.declared.refusal.Refusal.TheVariants.{AskedFor}
use Rattle.wire.specs.Numbers.{num, fetched}
use Rattle.wire.proofs.ExitLaws.{exits}
use Rattle.wire.proofs.NumberLaws.{fetched-whole}
use Rattle.radial.specs.Steps.{tell_place, place_in, place_asked}
use Rattle.radial.proofs.FindLaws.{placed, place_refused}
use Rattle.radial.proofs.place.Goals as goal

-- the name that was fetched is the one asked for
asked : (name : List ℕ) (r : ℕ) → length name ≡ 4 → r ≡ fetched 4 name 0 → r ≡ num 4 name 0
asked name r four e = e ∙ fetched-whole 4 name 0 (omega (arith, four))

-- 21 where no place was found
found : (o : Maybe ℕ) → tell_place (ok_or o AskedFor) ≡ place_asked o
found None = refl
found (Some p) = refl

pub returns-in_err-accepted : goal.returns-in_err-accepted
returns-in_err-accepted c = rw (exits _ _ c.from_residual.ensures) (place_refused _ _ _ c.in_err-accepted.ensures.number)

pub returns : goal.returns
returns c =
    ap tell_place c.ok_or.ensures.value
    ∙ found c.moment_place.result
    ∙ ap place_asked (c.moment_place.ensures ∙ (λ i. place_in (c.in_ok-accepted.ensures.same i) (asked _ _ (search rules) c.fetch.ensures i)))
    ∙ placed _ _ c.in_ok-accepted.ensures.number
