-- Demand 1 of the gates that are handed over. Assumes nothing.
use Prim.Native.Nat.{ℕ, ◌+◌, ◌≤◌}
use native.Mathlib.Omega.{arith}
use mathlib.Core.Path.{◌≡◌, refl, ap, ◌∙◌}
use mathlib.Core.List.{List}
use lib.ListN.{length, drop, length-drop}
use lib.Seq.{length-take-le}
use denote.Ref.{Bor}
use Rattle.wire.specs.Numbers.{Octets}
use Rattle.wire.specs.Answers.{Answer, refused, given, number_of, onward}
use Rattle.radial_spec.specs.Description.{Moment}
use Rattle.radial_spec.specs.Lookups.{moment_of, Part, gates_in, gates_of}
use Rattle.radial_spec.proofs.Naming.{found_lies}
use Rattle.radial_gates.specs.Told.{count_of, part_of, LiesAt}
use Rattle.radial_gates.proofs.Welds.{same-part, same-lent}
use Rattle.demands.specs.Demand1.{cut_at, KeptPart, KeptLentGates}
use Rattle.demands.proofs.Readers.{by_gates}

-- the part lies inside the body
part_inside : (b : List ℕ) (name : ℕ) → Octets b → (part_of (gates_of b name)).place + (part_of (gates_of b name)).size ≤ length b
unfolding gates_of
part_inside b name o = go (moment_of b name) refl
  where
    go : (a : Answer Moment) → moment_of b name ≡ a
        → (part_of (onward a (λ m. given (gates_in m)))).place + (part_of (onward a (λ m. given (gates_in m)))).size ≤ length b
    go (refused n) e = omega arith
    go (given m) e = let l = found_lies b name m o e in omega (arith, l.2)

cut_lies : (body : Bor (List ℕ)) (p : Part) → p.place + p.size ≤ length body.now → LiesAt body (cut_at body p) p
cut_lies body p h = record {
  memory = refl;
  place = refl;
  size = length-take-le p.size (drop p.place body.now) (omega (arith, length-drop p.place body.now));
  bytes = refl;
}

refused-part : (b : List ℕ) (name n : ℕ) → moment_of b name ≡ refused n → (part_of (gates_of b name)).size ≡ 0
unfolding gates_of
refused-part b name n e = ap (λ (a : Answer Moment). (part_of (onward a (λ m. given (gates_in m)))).size) e

pub kept_gates : (body : Bor (List ℕ)) (name : ℕ) → KeptPart (λ r. LiesAt body r (part_of (gates_of body.now name))) body name
kept_gates body name = record {
  met = λ o. cut_lies body (part_of (gates_of body.now name)) (part_inside body.now name o);
  only = λ r r₂. same-part body r r₂ (part_of (gates_of body.now name));
  lies = λ r l. l;
  empty = λ r n l e. l.size ∙ ap (λ (a : Answer Part). (part_of a).size) e;
  by_checks = by_gates body.now name;
}

pub kept_lent-gates : (body : Bor (List ℕ)) (name : ℕ) → KeptLentGates body name
kept_lent-gates body name = record {
  met = λ o. record {
    number = refl;
    gates = refl;
    part = cut_lies body (part_of (gates_of body.now name))
        (part_inside body.now name o);
  };
  only = λ r r₂. same-lent body name r r₂;
  empty = λ r n l e. (l.number ∙ ap number_of e, l.gates ∙ ap count_of e, l.part.size ∙ refused-part body.now name n e);
}
