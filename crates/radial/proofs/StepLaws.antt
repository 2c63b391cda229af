-- The pointers of an accepted radial searched for a name, from the first moment's on: what is left answers as all. Assumes nothing.
use Prim.Native.Nat.{ℕ, suc, ◌+◌, ◌-◌, ◌*◌, ◌≤◌, ◌<◌}
use native.Mathlib.Omega.{arith}
use mathlib.Core.Path.{◌≡◌, sym, ap, subst, ◌∙◌}
use mathlib.Core.List.{List}
use lib.Dec.{eqb}
use lib.ListN.{length, drop}
use borrow.Author.Tests.{eq-eqb, ne_eqb}
use Rattle.std.specs.Prelude.{Some}
use Rattle.wire.specs.Numbers.{fetched}
use Rattle.wire.specs.Checks.{pick}
use Rattle.radial_spec.specs.Description.{constants, first_pointer, moment_pointer}
use Rattle.radial_spec.specs.Refusal.{count_in, pointer, part, name_in}
use Rattle.radial_spec.proofs.Held.{Held, HeadHeld}
use Rattle.radial_head.proofs.PartLaws.{there}
use Rattle.radial.specs.Steps.{place_from, place_in}
use Rattle.radial.proofs.PartLaws.{name_cut}

-- the search stands before block k of n, counted from 0
pub record Searching (b : List ℕ) (name n k : ℕ) : Type 0 where
  pub all : Held b
  pub after : constants ≤ k
  pub counts : n ≡ count_in b
  pub same : place_from b name (first_pointer + 4 * k) (n - k) ≡ place_in b name

pub search_begins : (b : List ℕ) (name n : ℕ) → Held b → n ≡ count_in b → Searching b name n constants
search_begins b name n all e = record {
  all = all;
  after = omega arith;
  counts = e;
  same = ap (λ (m : ℕ). place_from b name moment_pointer (m - constants)) e;
}

module _ (b : List ℕ) (name n k : ℕ) (s : Searching b name n k) where
  abbrev at : ℕ
  at = first_pointer + 4 * k

  module _ (more : k < n) where
    pub pointer-inside : at + 4 ≤ length b
    pointer-inside = omega (arith, s.all.start.long, s.all.start.few, s.counts)

    pub block_held : HeadHeld b at
    block_held =
        let e : moment_pointer + 4 * (k - constants) ≡ at = omega (arith, s.after) in
        subst (HeadHeld b) e (s.all.moment (k - constants) (omega (arith, s.after, s.counts)))

    -- what is left begins with this block
    this-block : place_from b name at (n - k)
        ≡ pick (eqb (name_in (part b at)) name) (Some (pointer b at)) (place_from b name (first_pointer + 4 * (k + 1)) (n - (k + 1)))
    this-block =
        let e : n - k ≡ suc (n - (k + 1)) = omega arith in
        let f : at + 4 ≡ first_pointer + 4 * (k + 1) = omega arith in
        ap (place_from b name at) e
        ∙ ap (λ (q : ℕ). pick (eqb (name_in (part b at)) name) (Some (pointer b at)) (place_from b name q (n - (k + 1)))) f

    module _ (p r : ℕ) (points : pointer b at ≡ p) (e : r ≡ fetched 4 (there b p 4) 0) where
      pub name-inside : p + 4 ≤ length b
      name-inside = omega (arith, points, block_held.inside)

      named : name_in (part b at) ≡ r
      named = ap (λ (m : ℕ). name_in (drop m b)) points ∙ sym (name_cut b p r name-inside e)

      pub search-found : r ≡ name → Some p ≡ place_in b name
      search-found h = ap Some (sym points) ∙ sym (this-block ∙ simp (eq-eqb (name_in (part b at)) name (named ∙ h))) ∙ s.same

      pub search-on : (r ≡ name → ⊥) → Searching b name n (k + 1)
      search-on h = record {
        all = s.all;
        after = omega (arith, s.after);
        counts = s.counts;
        same = sym (this-block ∙ simp (ne_eqb (name_in (part b at)) name (λ q. h (sym named ∙ q)))) ∙ s.same;
      }
