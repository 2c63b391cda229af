-- "Gate value: a moment's scale and offset travel with it." In the logic's own account of IEEE 754, where a float is a number, an infinity
-- or the one NaN.
use Rattle.std.specs.Prelude.{ℕ, Bool, not, List, [], ◌∷◌, leb, eqb, pos, get_or, Float}
use Rattle.std.specs.Float.{binary32}
use Rattle.std.specs.Float.Ieee.{sub, div, lt, of_int, of_bits}
use Rattle.std.specs.Float.Ieee.Scale.{finite}
use Rattle.wire.specs.Checks.{pick, Check, check}
use Rattle.wire.specs.Answers.{Answer, refused, rule, onward}
use Rattle.radial_spec.specs.Description.{Moment, gates}
use Rattle.radial_spec.specs.Lookups.{moment_of}

-- the float with these 32 bits
abbrev pub float : ℕ → Float
float bits = of_bits binary32 bits

-- 22: "scale not finite or not above 0, or offset not finite"
abbrev pub not_finite : ℕ → Bool
not_finite bits = not (finite (float bits))

abbrev pub not_above0 : ℕ → Bool
not_above0 bits = not (lt (float 0) (float bits))

abbrev pub value_checks : ℕ → ℕ → List Check
value_checks scale offset = check 22 (not_finite scale) ∷ check 22 (not_above0 scale) ∷ check 22 (not_finite offset) ∷ []

-- the meaning of a code
pub data Worth : Type 0 where
  below_threshold : Worth
  range_folded : Worth
  worth : Float → Worth

-- "Any other code N, turned to a 32-bit float, gives (N − offset) / scale, one rounded subtraction and one rounded division."
abbrev pub scaled : ℕ → Float → Float → Float
scaled code scale offset = div binary32 (sub binary32 (of_int binary32 (pos code)) offset) scale

-- "Code 0 is "below threshold", code 1 "range folded"."
abbrev pub worth_by : ℕ → Float → Float → Worth
worth_by code scale offset = pick (eqb code 0) below_threshold (pick (eqb code 1) range_folded (worth (scaled code scale offset)))

-- the same by the 32 bits of scale and offset
abbrev pub worth_of : ℕ → ℕ → ℕ → Worth
worth_of code scale offset = worth_by code (float scale) (float offset)

-- a code by itself, with the 32 bits of a scale and of an offset: "22, then the codes"
unfoldable pub value_of : ℕ → ℕ → ℕ → Answer Worth
value_of code scale offset = rule (value_checks scale offset) (worth_of code scale offset)

-- 21: "moment, gate .. asked for doesn't exist"
abbrev pub gate_in : Moment → ℕ → Answer Worth
gate_in m gate = pick (leb (gates m) gate) (refused 21) (value_of (get_or m.codes gate 0) m.scale m.offset)

-- "Gate (a body, a moment's name, a gate counted from 0): the radial's checks, 21, 22, then the codes."
unfoldable pub gate_of : List ℕ → ℕ → ℕ → Answer Worth
gate_of body name gate = onward (moment_of body name) (λ m. gate_in m gate)
