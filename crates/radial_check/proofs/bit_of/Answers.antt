use native.Mathlib.Omega.{arith}
use mathlib.Core.Path.{refl}
use Rattle.wire.specs.Numbers.{num, fetched}
use Rattle.radial_check.specs.Steps.{bit_of}
use Rattle.radial_check.proofs.BitLaws.{seek_found, seek-on}
use Rattle.radial_check.proofs.bit_of.Goals as goal

pub loop-known-init : goal.loop-known-init
unfolding bit_of fetched num
loop-known-init c = record { rows = refl; below = omega arith; power = refl; same = refl }

pub returns-then-fetch-name : goal.returns-then-fetch-name
returns-then-fetch-name c =
    seek_found _ _ _ _ c.loop-known.invariant _ c.loop-known-test.true c.fetch.ensures c.if-fetch-name.true

pub loop-known-preserved : goal.loop-known-preserved
loop-known-preserved c =
    seek-on _ _ _ _ c.loop-known.invariant _ c.loop-known-test.true c.fetch.ensures c.if-fetch-name.false
