-- "Given two map bodies and a lent output of halfwords, list each difference": what is listed, by the codes of both maps kilometre by
-- kilometre.
use Rattle.std.specs.Prelude.{ℕ, zero, suc, ◌*◌, ◌-◌, Bool, List, [], ◌∷◌, ◌++◌, ltb, eqb, length}
use Rattle.wire.specs.Checks.{pick, both}
use Rattle.map_spec.specs.Map.{azimuths, most_zones, last_kilometre, FilterMap, code_at}

-- "as elevation segment, azimuth, first kilometre, last kilometre, old code, new code": the segment from 1, the azimuth from 0, both
-- kilometres within the run
pub record Difference : Type 0 where
  pub elevation : ℕ
  pub azimuth : ℕ
  pub first : ℕ
  pub last : ℕ
  pub old : ℕ
  pub new : ℕ

-- ---- one azimuth, by its two codes at each kilometre
-- "both codes stay the same"
abbrev pub stay : (ℕ → ℕ) → (ℕ → ℕ) → ℕ → ℕ → Bool
stay old new j k = both (eqb (old j) (old k)) (eqb (new j) (new k))

-- a stretch of kilometres, from `first` to before `next`, with the same two codes: a difference, unless the two codes are equal
abbrev pub stretch : ℕ → ℕ → (ℕ → ℕ) → (ℕ → ℕ) → ℕ → ℕ → List Difference
stretch elevation azimuth old new first next =
    pick (eqb (old first) (new first)) []
    (record { elevation = elevation; azimuth = azimuth; first = first; last = next - 1; old = old first; new = new first } ∷ [])

-- "Runs are as long as both codes stay the same": the runs of the stretch that began at `first` and of the `left` kilometres from `next` on
unfoldable pub stretches : ℕ → ℕ → (ℕ → ℕ) → (ℕ → ℕ) → ℕ → ℕ → ℕ → List Difference
stretches elevation azimuth old new first next zero = stretch elevation azimuth old new first next
stretches elevation azimuth old new first next (suc left) =
    pick (stay old new first next)
    (stretches elevation azimuth old new first (suc next) left)
    (stretch elevation azimuth old new first next ++ stretches elevation azimuth old new next (suc next) left)

abbrev pub azimuth_differences : FilterMap → FilterMap → ℕ → ℕ → List Difference
azimuth_differences m n elevation azimuth =
    stretches elevation azimuth (code_at m elevation azimuth) (code_at n elevation azimuth) 0 1 last_kilometre

-- each zone of either azimuth may begin a run; the first zones of both begin the same run
abbrev pub most_runs : ℕ
most_runs = 2 * most_zones - 1

-- ---- both maps
-- the lists of `count` numbers from `first` on, joined in order
unfoldable pub in_order : {A : Type 0} → ℕ → ℕ → (ℕ → List A) → List A
in_order first zero of = []
in_order first (suc count) of = of first ++ in_order (suc first) count of

-- "Only elevations present in both are listed"
abbrev pub present_in_both : FilterMap → FilterMap → ℕ
present_in_both m n =
    pick (ltb (length m.elevations) (length n.elevations)) (length m.elevations) (length n.elevations)

-- "the order is by elevation, azimuth, kilometre"
abbrev pub differences : FilterMap → FilterMap → List Difference
differences m n = in_order 1 (present_in_both m n) (λ elevation. in_order 0 azimuths (λ azimuth. azimuth_differences m n elevation azimuth))

-- ---- the two maps the other way round
abbrev pub swapped : Difference → Difference
swapped d = record { elevation = d.elevation; azimuth = d.azimuth; first = d.first; last = d.last; old = d.new; new = d.old }
