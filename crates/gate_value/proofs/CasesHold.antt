-- The end values of Table XVII-I, by computation. Assumes nothing.
use mathlib.Core.Path.{refl}
use lib.Count.{count_trailing_zeros}
use lib.Ieee as Ieee
use lib.Ieee.{of_bits}
use Rattle.gate_value.specs.Value.{value_of}
use Rattle.gate_value.specs.Cases.{Table}

pub table : Table
unfolding value_of of_bits Ieee.lt Ieee.div Ieee.sub Ieee.add Ieee.neg Ieee.sum Ieee.round Ieee.units Ieee.odd Ieee.size Ieee.span
    Ieee.climb Ieee.of_int Ieee.of_fields count_trailing_zeros
table = (refl, (refl, (refl, (refl, (refl, (refl, (refl, (refl, tt))))))))
