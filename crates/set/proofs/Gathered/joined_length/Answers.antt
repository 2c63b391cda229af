use native.Mathlib.Omega.{arith}
use mathlib.Core.Path.{refl}
use Prim.Native.Nat.{◌<◌}
use Rattle.std.proofs.lemmas.List.{get_or-take}
use Rattle.set.specs.Steps.{nowhere, parts_long}
use Rattle.set.proofs.ArrayLaws.{long_more}
use Rattle.set.proofs.Gathered.joined_length.Goals as goal

pub loop-part-init : goal.loop-part-init
unfolding parts_long
loop-part-init c = (refl, omega arith)

pub loop-part-preserved : goal.loop-part-preserved
loop-part-preserved c =
    let loop = c.loop-part in
    let m = c.args.self.now in
    let low : loop.part-index < c.args.n = omega arith in
    let more = long_more m loop.part-index in
    rw (get_or-take c.args.n m.parts loop.part-index nowhere low)
    (omega (arith, more), omega (arith, (c.requires.1 loop.part-index (omega arith))))
