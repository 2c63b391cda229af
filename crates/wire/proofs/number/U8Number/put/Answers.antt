use Prim.Native.Nat.{◌%◌}
use native.Mathlib.Omega.{arith}
use mathlib.Core.Path.{◌≡◌}
use mathlib.Core.List.{[], ◌∷◌}
use Rattle.wire.proofs.SheetLaws.{laid_sets}
use Rattle.wire.proofs.number.U8Number.put.Goals as goal

pub returns : goal.returns
returns c =
    let small : c.args.self % 256 ≡ c.args.self = omega (arith, c.ranges.self.fits) in
    rw small (laid_sets (c.args.self ∷ []) c.args.out.now c.args.at c.requires)
