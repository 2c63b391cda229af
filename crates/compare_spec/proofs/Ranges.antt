-- The values of the runs that are listed of two maps in range: each is in its range, and fits a halfword. Assumes nothing.
use Prim.Native.Nat.{◌≤◌}
use native.Mathlib.Omega.{arith}
use mathlib.Core.List.{List, [], ◌∷◌, flatten}
use Rattle.wire.proofs.EachLaws.{each_so}
use Rattle.wire.specs.Properties.{Each}
use Rattle.map_spec.specs.Map.{last_kilometre, most_halfword, FilterMap, InRange}
use Rattle.map_spec.proofs.Theorems.{one_code}
use Rattle.compare_spec.specs.Differences.{Difference, differences}
use Rattle.compare_spec.specs.Compared.{Sound, RunInRange}
use Rattle.compare_spec.specs.Comparing.{halfwords}
use Rattle.compare_spec.specs.Theorems.{RunsInRange, HalfwordsFit}
use Rattle.compare_spec.proofs.Maps.{differences_exact}

sound_range : (m n : FilterMap) → InRange m → InRange n → (d : Difference) → Sound m n d → RunInRange d
sound_range m n r s d p =
    let h = p.present in
    let first : d.first ≤ last_kilometre = omega (arith, p.some, h.far) in
    let c = p.coded d.first (omega arith) p.some in
    let old = one_code m r d.elevation d.azimuth d.first h.from h.in_old h.around first in
    let new = one_code n s d.elevation d.azimuth d.first h.from h.in_new h.around first in
    record {
      segment = h.from;
      segments = omega (arith, h.in_old, r.most);
      around = h.around;
      first = first;
      last = h.far;
      old = omega (arith, c.old, old.range);
      new = omega (arith, c.new, new.range);
    }

pub runs_range : RunsInRange
runs_range m n r s = each_so (Sound m n) RunInRange (differences m n) (sound_range m n r s) (differences_exact m n).sound

each_fits : (ds : List Difference) → Each RunInRange ds → Each (λ value. value ≤ most_halfword) (halfwords ds)
unfolding halfwords flatten
each_fits [] p = tt
each_fits (d ∷ ds) p =
    let h = p.0 in
    (omega arith, (omega arith, (omega arith, (omega arith, (omega arith, (omega arith, each_fits ds p.1))))))

pub halfwords_range : HalfwordsFit
halfwords_range m n r s = each_fits (differences m n) (runs_range m n r s)
