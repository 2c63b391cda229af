-- The theorems that specs/Theorems.antt states. Assumes nothing.
use Prim.Native.Nat.{ℕ, ◌≤◌}
use native.Mathlib.Omega.{arith}
use mathlib.Core.Path.{◌≡◌, refl, sym, ap, ◌∙◌, subst}
use mathlib.Core.Bool.{Bool, true, false}
use mathlib.Core.List.{List, [], map, flatten}
use lib.Dec.{eqb}
use lib.ListN.{length, length-map}
use borrow.Author.Tests.{eqb-true, eqb-false}
use Rattle.wire.proofs.EachLaws.{each_map}
use Rattle.wire.specs.Answers.{given}
use Rattle.wire.specs.Writing.{filled}
use Rattle.map_spec.specs.Map.{FilterMap, code_at}
use Rattle.compare_spec.specs.Differences.{Difference, differences, swapped as swappedRun}
use Rattle.compare_spec.specs.Compared.{Present, Sound, Longest, Within, Before, by_elevation, by_azimuth, by_kilometre, Compared}
use Rattle.compare_spec.specs.Comparing.{halfwords}
use Rattle.compare_spec.specs.Theorems.{ComparedExactly, NoneExactly, WithItself, Swapped, DateApart, MostDifferences, RoomForAll, RunsInRange, HalfwordsFit, RefusedInOrder, ItselfAnswered, SwappedAnswered}
use Rattle.compare_spec.proofs.Lists.{some-map, sorted_map}
use Rattle.compare_spec.proofs.OneList.{Exact, exact_compared, compared_exact, one_list}
use Rattle.compare_spec.proofs.Maps.{differences_exact}
use Rattle.compare_spec.proofs.Most.{differences_most, halfwords-length, halfwords_most}
use Rattle.compare_spec.proofs.Ranges.{runs_range, halfwords_range}
use Rattle.compare_spec.proofs.InTurn.{in_order}

pub compared_exactly : ComparedExactly
compared_exactly m n ds = (there, back)
  where
    there : ds ≡ differences m n → Compared m n ds
    there e = subst (Compared m n) (sym e) (exact_compared m n (differences m n) (differences_exact m n))

    back : Compared m n ds → ds ≡ differences m n
    back c = one_list m n ds (differences m n) (compared_exact m n ds c) (differences_exact m n)

settled : (a b : ℕ) → ((a ≡ b → ⊥) → ⊥) → a ≡ b
settled a b h = go (eqb a b) refl
  where
    go : (t : Bool) → eqb a b ≡ t → a ≡ b
    go true e = eqb-true a b e
    go false e = absurd (h (eqb-false a b e))

pub none_exactly : NoneExactly
none_exactly m n = (there, back)
  where
    there : differences m n ≡ [] → (elevation azimuth kilometre : ℕ) → Present m n elevation azimuth kilometre
        → code_at m elevation azimuth kilometre ≡ code_at n elevation azimuth kilometre
    there e elevation azimuth kilometre p =
        settled (code_at m elevation azimuth kilometre) (code_at n elevation azimuth kilometre)
        (λ ne. (subst (Exact m n) e (differences_exact m n)).covered elevation azimuth kilometre p ne)

    back : ((elevation azimuth kilometre : ℕ) → Present m n elevation azimuth kilometre
        → code_at m elevation azimuth kilometre ≡ code_at n elevation azimuth kilometre)
        → differences m n ≡ []
    back same =
        one_list m n (differences m n) [] (differences_exact m n)
        (record {
          sound = tt;
          longest = tt;
          covered = λ elevation azimuth kilometre p ne. ne (same elevation azimuth kilometre p);
          sorted = tt;
        })

pub with_itself : WithItself
with_itself m = (none_exactly m m).1 (λ elevation azimuth kilometre p. refl)

-- ---- the maps the other way round
present_swapped : (m n : FilterMap) (elevation azimuth kilometre : ℕ) → Present m n elevation azimuth kilometre
    → Present n m elevation azimuth kilometre
present_swapped m n elevation azimuth kilometre p = record {
  from = p.from;
  in_old = p.in_new;
  in_new = p.in_old;
  around = p.around;
  far = p.far;
}

sound_swapped : (m n : FilterMap) (d : Difference) → Sound m n d → Sound n m (swappedRun d)
sound_swapped m n d s = record {
  some = s.some;
  present = present_swapped m n d.elevation d.azimuth d.last s.present;
  coded = λ k l u. let c = s.coded k l u in record { old = c.new; new = c.old };
  differ = λ e. s.differ (sym e);
}

longest-swapped : (m n : FilterMap) (d : Difference) → Longest m n d → Longest n m (swappedRun d)
longest-swapped m n d l = record {
  before = λ k e c. l.before k e (record { old = c.new; new = c.old });
  after = λ h c. l.after h (record { old = c.new; new = c.old });
}

within-swapped : (d : Difference) (elevation azimuth kilometre : ℕ) → Within d elevation azimuth kilometre
    → Within (swappedRun d) elevation azimuth kilometre
within-swapped d elevation azimuth kilometre w = record { segment = w.segment; around = w.around; from = w.from; up_to = w.up_to }

before_swapped : (d e : Difference) → Before d e → Before (swappedRun d) (swappedRun e)
before_swapped d e (by_elevation p) = by_elevation p
before_swapped d e (by_azimuth a p) = by_azimuth a p
before_swapped d e (by_kilometre a b p) = by_kilometre a b p

exact_swapped : (m n : FilterMap) (ds : List Difference) → Exact m n ds → Exact n m (map swappedRun ds)
exact_swapped m n ds x = record {
  sound = each_map (Sound m n) (Sound n m) swappedRun ds (sound_swapped m n) x.sound;
  longest = each_map (Longest m n) (Longest n m) swappedRun ds (longest-swapped m n) x.longest;
  covered = λ elevation azimuth kilometre p ne.
      some-map (λ d. Within d elevation azimuth kilometre) (λ d. Within d elevation azimuth kilometre) swappedRun ds
      (λ d w. within-swapped d elevation azimuth kilometre w)
      (x.covered elevation azimuth kilometre (present_swapped n m elevation azimuth kilometre p) (λ e. ne (sym e)));
  sorted = sorted_map Before swappedRun ds before_swapped x.sorted;
}

pub swapped : Swapped
swapped m n =
    one_list n m (differences n m) (map swappedRun (differences m n)) (differences_exact n m)
    (exact_swapped m n (differences m n) (differences_exact m n))

pub date_apart : DateApart
date_apart m n date minutes date' minutes' = refl

-- ---- how many
pub most_differences : MostDifferences
most_differences = differences_most

pub room_for_all : RoomForAll
room_for_all = halfwords_most

pub runs_in_range : RunsInRange
runs_in_range = runs_range

pub halfwords_fit : HalfwordsFit
halfwords_fit = halfwords_range

-- ---- two bodies
pub refused-in_order : RefusedInOrder
refused-in_order = in_order

pub itself_answered : ItselfAnswered
unfolding halfwords flatten
itself_answered b out m e =
    let none = with_itself m in
    let room : length (halfwords (differences m m)) ≤ length out = subst (λ (ds : List Difference). length (halfwords ds) ≤ length
    out) (sym none) (omega arith) in
    (refused-in_order b b out).enough m m e e room
    ∙ (λ i. record {
      answer = given (record {
        old_elevations = length m.elevations;
        new_elevations = length m.elevations;
        differences = length (none i);
      });
      output = filled (halfwords (none i)) out;
    })

pub swapped_answered : SwappedAnswered
swapped_answered old new out m n e f room =
    let count : length (differences n m) ≡ length (differences m n) =
    ap (λ (ds : List Difference). length ds) (swapped m n) ∙ length-map (differences m n) swappedRun in
    let room' : length (halfwords (differences n m)) ≤ length out =
    omega (arith, room, count, halfwords-length (differences n m), halfwords-length (differences m n)) in
    (refused-in_order new old out).enough n m f e room'
    ∙ (λ i. record {
      answer = given (record { old_elevations = length n.elevations; new_elevations = length m.elevations; differences = count i });
      output = filled (halfwords (swapped m n i)) out;
    })
