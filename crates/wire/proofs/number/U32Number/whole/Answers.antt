use native.Mathlib.Omega.{arith}
use Rattle.wire.proofs.NumberLaws.{num_beside}
use Rattle.wire.proofs.number.U32Number.whole.Goals as goal

pub returns : goal.returns
returns c =
    let args = c.args in
    omega (arith, num_beside 2 2 args.b.now args.at)
