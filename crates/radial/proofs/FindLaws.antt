-- A moment by its name: what the pointers of an accepted radial give is where the description has it. Assumes nothing.
use Prim.Native.Nat.{ℕ, zero, suc, ◌+◌, ◌-◌, ◌≤◌}
use native.Mathlib.Omega.{arith}
use mathlib.Core.Path.{◌≡◌, refl, sym, ap, ◌∙◌}
use mathlib.Core.Bool.{Bool, true, false}
use mathlib.Core.List.{List}
use lib.Dec.{eqb}
use lib.ListN.{length, drop}
use Rattle.std.specs.Prelude.{Some}
use Rattle.wire.specs.Numbers.{Octets}
use Rattle.wire.specs.Checks.{pick}
use Rattle.wire.specs.Answers.{refused, given, number_of}
use Rattle.wire.specs.Refusals.{number}
use Rattle.wire.specs.declared.refusal.Refusal.{Refusal}
use Rattle.radial_spec.specs.Description.{constants, Moment, moment_end, moment_pointer, moment_head}
use Rattle.radial_spec.specs.Refusal.{count_in, pointer, part, name_in, moment_at, moments_at, radial_of}
use Rattle.radial_spec.specs.Lookups.{moment_named, moment_of}
use Rattle.radial_spec.proofs.Naming.{found_at, found_lies}
use Rattle.radial.specs.Steps.{place_from, place_in, place_shown, place_asked}
use Rattle.radial_spec.proofs.Held.{number_given, number_refused}
use Rattle.wire.proofs.OnwardLaws.{shows_given}

placed_from : (b : List ℕ) (name q n : ℕ) → place_asked (place_from b name q n) ≡ place_shown (moment_named name (moments_at b q n))
placed_from b name q zero = refl
placed_from b name q (suc n) = go (eqb (name_in (part b q)) name) (placed_from b name (q + 4) n)
  where
    go : (t : Bool) → place_asked (place_from b name (q + 4) n) ≡ place_shown (moment_named name (moments_at b (q + 4) n))
        → place_asked (pick t (Some (pointer b q)) (place_from b name (q + 4) n))
        ≡ place_shown (pick t (given (moment_at (pointer b q) (part b q))) (moment_named name (moments_at b (q + 4) n)))
    go true later = refl
    go false later = later

-- the place that is found by the pointers of an accepted radial is the rule's
pub placed : (b : List ℕ) (name : ℕ) → 0 ≡ number_of (radial_of b) → place_asked (place_in b name) ≡ place_shown (moment_of b name)
unfolding moment_of
placed b name e = rw (number_given b e) (placed_from b name moment_pointer (count_in b - constants))

pub place_refused : (b : List ℕ) (name : ℕ) (r : Refusal) → number r ≡ number_of (radial_of b)
    → refused (number r) ≡ place_shown (moment_of b name)
unfolding moment_of
place_refused b name r e = rw (number_refused b r e) refl

-- a moment that was found, by its place
pub record Lies (b : List ℕ) (name p : ℕ) : Type 0 where
  pub moment : Moment
  pub was : moment_of b name ≡ given moment
  pub reads : moment_at p (drop p b) ≡ moment
  pub place : moment.place ≡ p
  pub within : moment_end moment ≤ length b

pub lies_at : (b : List ℕ) (name p : ℕ) → Octets b → given p ≡ place_shown (moment_of b name) → Lies b name p
lies_at b name p o e =
    let s = shows_given (moment_of b name) (λ (m : Moment). m.place) p e in
    record {
      moment = s.value;
      was = s.was;
      reads = ap (λ (k : ℕ). moment_at k (drop k b)) s.is ∙ found_at b name s.value s.was;
      place = sym s.is;
      within = (found_lies b name s.value o s.was).2;
    }

pub head_inside : (b : List ℕ) (name p : ℕ) → Octets b → given p ≡ place_shown (moment_of b name) → p + moment_head ≤ length b
head_inside b name p o e = let l = lies_at b name p o e in omega (arith, l.within, l.place)
