-- K2. "Compare two filter maps.": the result of every call of the compiled `compare` and of `ulm_compare_maps`. `Compared` defines what is
-- listed, over the codes of the two maps: sound, complete, of longest runs and in order.
use Rattle.std.specs.Prelude.{ℕ, ◌*◌, ◌≤◌, ◌<◌, ◌≡◌, List, map, length, Result, Ok, Err}
use Rattle.wire.specs.declared.refusal.Refusal.{Refusal}
use Rattle.compare.specs.declared.Comparison.{Comparison as MapComparison}
use contract.Lifetimes.{Lfts}
use denote.Ref.{Bor, MutBor, at_last}
use Rattle.wire.specs.Properties.{One}
use Rattle.wire.specs.Numbers.{Octets}
use Rattle.wire.specs.Answers.{refused, given}
use Rattle.wire.specs.Writing.{filled}
use Rattle.map_spec.specs.Map.{FilterMap}
use Rattle.map_spec.specs.Reading.{map_of}
use Rattle.compare_spec.specs.Differences.{Difference, swapped}
use Rattle.compare_spec.specs.Compared.{Compared}
use Rattle.compare_spec.specs.Comparing.{halfwords, most_halfwords}
use Rattle.compare.proofs.compare.Reads as compare
use Rattle.c_compare.specs.declared.UlmComparison.{UlmComparison}
use Rattle.c_compare.specs.Face.{comparison_face}
use Rattle.ulm.proofs.ulm_compare_maps.Reads as ulm_compare_maps
use Rattle.demands.specs.Notions.{Comes, RefusedAs}

-- a call of either: its lifetimes, the two bodies and the output that it is lent, and the bodies as it leaves them
pub record Call : Type 0 where
  pub κs : Lfts 3
  pub old : Bor (List ℕ)
  pub new : Bor (List ℕ)
  pub out : MutBor (List ℕ)
  pub old' : Bor (List ℕ)
  pub new' : Bor (List ℕ)

-- what the contract says of a call that returned r and left `after` in the output: of `compare`, and of `ulm_compare_maps`
abbrev pub Compares : Call → Result MapComparison Refusal → List ℕ → Type 0
Compares c r after = compare.Learnt c.κs (c.old, (c.new, (c.out, tt))) r (c.old', (c.new', (at_last c.out after, tt)))

abbrev pub ComparesForC : Call → UlmComparison → List ℕ → Type 0
ComparesForC c r after = ulm_compare_maps.Learnt c.κs (c.old, (c.new, (c.out, tt))) r
    (c.old', (c.new', (at_last c.out after, tt)))

-- the result of both calls
abbrev pub Ends : Call → Result MapComparison Refusal → UlmComparison → List ℕ → Type 0
Ends c = Comes (Compares c) (ComparesForC c)

-- "all 0 on refusal", "with nothing written"
abbrev pub Refuses : Call → ℕ → Type 0
Refuses c n = RefusedAs (λ r. Ends c (Err r) (comparison_face (refused n)) c.out.now) n

-- "both elevation counts and the number of differences are reported"
abbrev pub Reports : Call → ℕ → ℕ → ℕ → List ℕ → Type 0
Reports c older newer count left =
    Ends c (Ok (record { old_elevations = older; new_elevations = newer; differences = count })) (record { refusal = 0; old_elevations = older; new_elevations = newer; differences = count }) left

-- the six halfwords of each difference from the output's start on, and after them what stood there
abbrev pub Lists : Call → FilterMap → FilterMap → List Difference → Type 0
Lists c m n ds = Reports c (length m.elevations) (length n.elevations) (length ds) (filled (halfwords ds) c.out.now)

-- two good maps and what differs between them
pub record Good (old new : List ℕ) (m n : FilterMap) (ds : List Difference) : Type 0 where
  pub in_old : map_of old ≡ given m
  pub in_new : map_of new ≡ given n
  pub compared : Compared m n ds

-- and room for it
pub record Fits (old new out : List ℕ) : Type 0 where
  pub m : FilterMap
  pub n : FilterMap
  pub ds : List Difference
  pub good : Good old new m n ds
  pub room : 6 * length ds ≤ length out

-- two good maps that differ only in date and minutes
pub record ButDate (b b' : List ℕ) : Type 0 where
  pub m : FilterMap
  pub m' : FilterMap
  pub stands : map_of b ≡ given m
  pub stands' : map_of b' ≡ given m'
  pub same : m.elevations ≡ m'.elevations

pub record TwoMaps : Type 0 where
  -- any two maps have exactly one such list, so the next four cases cover every call
  pub one : (m n : FilterMap) → One (Compared m n)
  -- "A bad map is refused by its own number, the first map first; too little output is 13"
  pub old_bad : (c : Call) (number : ℕ) → map_of c.old.now ≡ refused number → Refuses c number
  pub new_bad : (c : Call) (m : FilterMap) (number : ℕ) → map_of c.old.now ≡ given m → map_of c.new.now ≡ refused number
      → Refuses c number
  pub too_little : (c : Call) (m n : FilterMap) (ds : List Difference) → Good c.old.now c.new.now m n ds
      → length c.out.now < 6 * length ds
      → Refuses c 13
  pub listed : (c : Call) (f : Fits c.old.now c.new.now c.out.now) → Lists c f.m f.n f.ds
  -- a call is accepted only if both maps are good and there is room
  pub accepted : (c : Call) (told : MapComparison) (after : List ℕ) → Compares c (Ok told) after
      → Fits c.old.now c.new.now c.out.now
  pub accepted_for_c : (c : Call) (r : UlmComparison) (after : List ℕ) → ComparesForC c r after → r.refusal ≡ 0
      → Fits c.old.now c.new.now c.out.now
  -- 421,200 halfwords have room for the differences of any two maps
  pub most : (old new : List ℕ) (m n : FilterMap) (ds : List Difference) → Octets old → Octets new → Good old new m n ds
      → 6 * length ds ≤ most_halfwords
  -- a map compared with itself has no differences
  pub itself : (c : Call) (m : FilterMap) → map_of c.old.now ≡ given m → c.new.now ≡ c.old.now
      → Reports c (length m.elevations) (length m.elevations) 0 c.out.now
  -- the maps in the other order: the two counts and the two codes are swapped
  pub swap : (c : Call) (f : Fits c.new.now c.old.now c.out.now) → Lists c f.n f.m (map swapped f.ds)
  -- "Date and time aren't compared": two calls whose maps differ only in these have the same result
  pub undated : (c d : Call) → ButDate c.old.now d.old.now → ButDate c.new.now d.new.now → c.out.now ≡ d.out.now
      → (answer : Result MapComparison Refusal) (struct : UlmComparison) (left : List ℕ) → Ends c answer struct left → Ends d answer struct left
