-- What holds for the answer of every gate.
use Rattle.std.specs.Prelude.{ℕ, ◌<◌, ◌≡◌, false, List, length, get_or, Float}
use Rattle.std.specs.Float.Ieee.{is_nan}
use Rattle.wire.specs.Numbers.{Octets}
use Rattle.wire.specs.Answers.{given}
use Rattle.radial_spec.specs.Description.{Moment, Description, gates, Named}
use Rattle.radial_spec.specs.Refusal.{radial_of}
use Rattle.radial_spec.specs.Lookups.{moment_of}
use Rattle.gate_value.specs.Value.{worth, value_of, gate_of}

-- the answer for gate i is the one for code i of the description
abbrev pub OfItsCode : Type 0
OfItsCode = (b : List ℕ) (name i : ℕ) (m : Moment) → moment_of b name ≡ given m → i < gates m
    → gate_of b name i ≡ value_of (get_or m.codes i 0) m.scale m.offset

-- two bodies of one length that are equal at every byte the description names have the same gate answers
abbrev pub Unnamed : Type 0
Unnamed = (b b' : List ℕ) (d : Description) → Octets b → length b' ≡ length b → radial_of b ≡ given d
    → ((i : ℕ) → Named d i → get_or b' i 0 ≡ get_or b i 0) → (name gate : ℕ) → gate_of b' name gate ≡ gate_of b name gate

-- no value handed over is a NaN
abbrev pub NeverNan : Type 0
NeverNan = (code scale offset : ℕ) (v : Float) → value_of code scale offset ≡ given (worth v) → is_nan v ≡ false
