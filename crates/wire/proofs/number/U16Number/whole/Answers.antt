use Prim.Native.Nat.{◌+◌}
use native.Mathlib.Omega.{arith}
use Rattle.wire.proofs.NumberLaws.{num-one, num_beside}
use Rattle.wire.proofs.number.U16Number.whole.Goals as goal

pub returns : goal.returns
returns c =
    let args = c.args in
    let b = args.b.now in
    omega (arith, num_beside 1 1 b args.at, num-one b args.at, num-one b (args.at + 1))
