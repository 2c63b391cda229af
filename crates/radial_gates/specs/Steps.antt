-- What the private functions promise each other. No public promise cites this file.
use Rattle.std.specs.Prelude.{ℕ, ◌+◌, ◌≤◌, ◌≡◌, List, length, Result, Ok, Err}
use Rattle.wire.specs.Answers.{given, onward}
use Rattle.wire.specs.Refusals.{tell}
use Rattle.wire.specs.declared.refusal.Refusal.{Refusal}
use Rattle.radial_spec.specs.Description.{Moment, gates}
use Rattle.radial_spec.specs.Lookups.{moment_of, gates_in}
use Rattle.radial_gates.specs.declared.Located.{Located}

-- the gate count and the part's place and size, before the part is cut
abbrev pub located : Moment → Located
located m = record { gates = gates m; start = (gates_in m).place; size = (gates_in m).size }

-- and that the part is inside the body
abbrev pub Inside : List ℕ → Result Located Refusal → Type 0
Inside b (Ok l) = l.start + l.size ≤ length b
Inside b (Err r) = Unit {0}

pub record Locates (b : List ℕ) (name : ℕ) (r : Result Located Refusal) : Type 0 where
  pub is : tell (λ l. l) r ≡ onward (moment_of b name) (λ m. given (located m))
  pub inside : Inside b r
