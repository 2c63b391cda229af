-- What a list of the differences between two maps has to be, apart from how it is made. It depends only on the codes of the two maps.
use Rattle.std.specs.Prelude.{ℕ, suc, ◌≤◌, ◌<◌, ◌≡◌, List, [], ◌∷◌, length, get_or}
use Rattle.wire.specs.Properties.{Each}
use Rattle.map_spec.specs.Map.{most_elevations, azimuths, most_code, last_kilometre, FilterMap, code_at}
use Rattle.compare_spec.specs.Differences.{Difference}

-- a kilometre of an elevation segment "present in both"
pub record Present (m n : FilterMap) (elevation azimuth kilometre : ℕ) : Type 0 where
  pub from : 1 ≤ elevation
  pub in_old : elevation ≤ length m.elevations
  pub in_new : elevation ≤ length n.elevations
  pub around : azimuth < azimuths
  pub far : kilometre ≤ last_kilometre

-- both maps have the run's codes at a kilometre of its azimuth
pub record Coded (m n : FilterMap) (d : Difference) (kilometre : ℕ) : Type 0 where
  pub old : code_at m d.elevation d.azimuth kilometre ≡ d.old
  pub new : code_at n d.elevation d.azimuth kilometre ≡ d.new

-- a listed run: its codes differ, and are the two maps' codes on all its kilometres
pub record Sound (m n : FilterMap) (d : Difference) : Type 0 where
  pub some : d.first ≤ d.last
  pub present : Present m n d.elevation d.azimuth d.last
  pub coded : (kilometre : ℕ) → d.first ≤ kilometre → kilometre ≤ d.last → Coded m n d kilometre
  pub differ : d.old ≡ d.new → ⊥

-- "Runs are as long as both codes stay the same": the kilometres just before and just after the run, where they exist, have other codes
pub record Longest (m n : FilterMap) (d : Difference) : Type 0 where
  pub before : (kilometre : ℕ) → suc kilometre ≡ d.first → Coded m n d kilometre → ⊥
  pub after : suc d.last ≤ last_kilometre → Coded m n d (suc d.last) → ⊥

-- a kilometre lies in a run
pub record Within (d : Difference) (elevation azimuth kilometre : ℕ) : Type 0 where
  pub segment : elevation ≡ d.elevation
  pub around : azimuth ≡ d.azimuth
  pub from : d.first ≤ kilometre
  pub up_to : kilometre ≤ d.last

abbrev pub no_difference : Difference
no_difference = record { elevation = 0; azimuth = 0; first = 0; last = 0; old = 0; new = 0 }

-- "none is left out, none listed twice": a kilometre lies in exactly one run of the list
pub record OneRun (ds : List Difference) (elevation azimuth kilometre : ℕ) : Type 0 where
  pub place : ℕ
  pub listed : place < length ds
  pub within : Within (get_or ds place no_difference) elevation azimuth kilometre
  pub only : (i : ℕ) → i < length ds → Within (get_or ds i no_difference) elevation azimuth kilometre → i ≡ place

-- "the order is by elevation, azimuth, kilometre"
pub data Before (d e : Difference) : Type 0 where
  by_elevation : d.elevation < e.elevation → Before d e
  by_azimuth : d.elevation ≡ e.elevation → d.azimuth < e.azimuth → Before d e
  by_kilometre : d.elevation ≡ e.elevation → d.azimuth ≡ e.azimuth → d.last < e.first → Before d e

abbrev pub Ordered : List Difference → Type 0
Ordered [] = Unit {0}
Ordered (d ∷ []) = Unit {0}
Ordered (d ∷ (e ∷ ds)) = Before d e × Ordered (e ∷ ds)

pub record Compared (m n : FilterMap) (ds : List Difference) : Type 0 where
  pub sound : Each (Sound m n) ds
  pub longest : Each (Longest m n) ds
  pub complete : (elevation azimuth kilometre : ℕ) → Present m n elevation azimuth kilometre
      → (code_at m elevation azimuth kilometre ≡ code_at n elevation azimuth kilometre → ⊥) → OneRun ds elevation azimuth kilometre
  pub ordered : Ordered ds

-- the ranges of a run's values: "an elevation segment (from 1), azimuth (0-359)", kilometres 0 to 511 and codes 0 to 2
pub record RunInRange (d : Difference) : Type 0 where
  pub segment : 1 ≤ d.elevation
  pub segments : d.elevation ≤ most_elevations
  pub around : d.azimuth < azimuths
  pub first : d.first ≤ last_kilometre
  pub last : d.last ≤ last_kilometre
  pub old : d.old ≤ most_code
  pub new : d.new ≤ most_code
