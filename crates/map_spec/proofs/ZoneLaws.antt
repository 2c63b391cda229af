-- Ends that rise from a kilometre on to the last, said zone by zone. Assumes nothing.
use Prim.Native.Nat.{ℕ, suc, ◌≤◌}
use native.Mathlib.Omega.{arith}
use mathlib.Core.Path.{◌≡◌, ap}
use mathlib.Core.List.{List, [], ◌∷◌}
use Rattle.map_spec.specs.Map.{kilometres, Zone, EndsRise}

abbrev pub Rises : ℕ → List Zone → Type 0
Rises from [] = from ≡ kilometres
Rises from (z ∷ zs) = (from ≤ z.end) × Rises (suc z.end) zs

pub rises_most : (from : ℕ) (zs : List Zone) → Rises from zs → from ≤ kilometres
rises_most from [] r = omega (arith, r)
rises_most from (z ∷ zs) r = omega (arith, r.0, rises_most (suc z.end) zs r.1)

pub rises_ends : (from : ℕ) (zs : List Zone) → Rises from zs → EndsRise zs
rises_ends from [] r = tt
rises_ends from (z ∷ []) r = omega (arith, r.1)
rises_ends from (z ∷ (y ∷ zs)) r = (r.1.0, rises_ends (suc z.end) (y ∷ zs) r.1)

pub ends_rise : (from : ℕ) (z : Zone) (zs : List Zone) → from ≤ z.end → EndsRise (z ∷ zs) → Rises from (z ∷ zs)
ends_rise from z [] h e = (h, ap suc e)
ends_rise from z (y ∷ zs) h e = (h, ends_rise (suc z.end) y zs e.0 e.1)
