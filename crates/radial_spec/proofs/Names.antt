-- The names of the constant blocks as four-byte strings. Assumes nothing.
use mathlib.Core.Path.{◌≡◌, refl}
use mathlib.Core.List.{[], ◌∷◌}
use Rattle.wire.specs.Numbers.{num, fetched}
use Rattle.radial_spec.specs.Description.{RVOL, RELV, RRAD}

pub RVOL-is : fetched 4 (82 ∷ 86 ∷ 79 ∷ 76 ∷ []) 0 ≡ RVOL
unfolding fetched num
RVOL-is = refl

pub RELV-is : fetched 4 (82 ∷ 69 ∷ 76 ∷ 86 ∷ []) 0 ≡ RELV
unfolding fetched num
RELV-is = refl

pub RRAD-is : fetched 4 (82 ∷ 82 ∷ 65 ∷ 68 ∷ []) 0 ≡ RRAD
unfolding fetched num
RRAD-is = refl
