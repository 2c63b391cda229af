-- "The gates are handed over as that part of the lent body, not copied.": the number, and "count 0, and an empty part" on a refusal.
use Rattle.std.specs.Prelude.{ℕ, ◌+◌, ◌≡◌, List, length}
use Rattle.std.specs.Borrow.{Bor}
use Rattle.wire.specs.Answers.{Answer, refused, given, number_of}
use Rattle.radial_spec.specs.Description.{Moment, gates}
use Rattle.radial_spec.specs.Lookups.{moment_of, Part, gates_of, bytes_in}
use Rattle.radial_gates.specs.declared.LentGates.{LentGates}

abbrev pub count_of : Answer Moment → ℕ
count_of (refused n) = 0
count_of (given m) = gates m

abbrev pub part_of : Answer Part → Part
part_of (refused n) = record { place = 0; size = 0 }
part_of (given p) = p

-- r is the part p of the lent body: in the body's own memory, at that place, with that many bytes, which are the body's there
pub record LiesAt (body r : Bor (List ℕ)) (p : Part) : Type 0 where
  pub memory : r.ref_ptr.0 ≡ body.ref_ptr.0
  pub place : r.ref_ptr.1 ≡ body.ref_ptr.1 + p.place
  pub size : length r.now ≡ p.size
  pub bytes : r.now ≡ bytes_in body.now p

-- two parts that no program can tell apart: same memory, same place, same bytes
abbrev pub SamePart : Bor (List ℕ) → Bor (List ℕ) → Type 0
SamePart r₁ r₂ = (r₁.ref_ptr.0 ≡ r₂.ref_ptr.0) × (r₁.ref_ptr.1 ≡ r₂.ref_ptr.1) × (r₁.now ≡ r₂.now)

-- number, gate count and part together, of the moment with a name
pub record Lent (body : Bor (List ℕ)) (name : ℕ) (r : LentGates) : Type 0 where
  pub number : r.number ≡ number_of (moment_of body.now name)
  pub gates : r.gates ≡ count_of (moment_of body.now name)
  pub part : LiesAt body r.part (part_of (gates_of body.now name))
