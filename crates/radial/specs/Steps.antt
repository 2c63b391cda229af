-- What the private functions promise each other. No public promise cites this file.
use Rattle.std.specs.Prelude.{ℕ, zero, suc, ◌+◌, ◌-◌, ◌*◌, ◌/◌, ◌^◌, ◌≤◌, ◌<◌, List, [], ◌∷◌, leb, eqb, length, drop, Result, Option as Maybe, None, Some}
use Rattle.std.proofs.Math.Option.{none, some}
use Rattle.wire.specs.Numbers.{num}
use Rattle.wire.specs.Checks.{pick}
use Rattle.wire.specs.Answers.{Answer, refused, given, onward}
use Rattle.wire.specs.Refusals.{tell}
use Rattle.wire.specs.declared.refusal.Refusal.{Refusal}
use Rattle.radial_spec.specs.Description.{constants, most_gates, word_sizes, moment_head, moment_bytes, Member, Moment, moment_pointer}
use Rattle.radial_spec.specs.Description.{volume_pointer, elevation_pointer, radial_pointer}
use Rattle.radial_spec.specs.Refusal.{count_in, pointer, part, name_in, block_says, moment_at}
use Rattle.radial.specs.declared.Span.{Span}
use Rattle.radial_head.specs.declared.MomentHead.{MomentHead}
use Rattle.radial.specs.declared.Coded.{Coded}
use Rattle.radial.specs.Told.{Told, head_of}

-- where the pointers of the three constant blocks stand
abbrev pub constant_pointers : List ℕ
constant_pointers = volume_pointer ∷ elevation_pointer ∷ radial_pointer ∷ []

-- where a constant block lies, by its pointer and its length field
abbrev pub span_at : List ℕ → ℕ → Span
span_at b q = record { place = pointer b q; length = block_says (part b q) }

-- the head of the moment that begins at p
abbrev pub head_at : List ℕ → ℕ → MomentHead
head_at b p = head_of (moment_at p (drop p b))

-- ---- where a moment begins, by its name
-- the first of the n pointers from byte q on whose block has this name
abbrev pub place_from : List ℕ → ℕ → ℕ → ℕ → Maybe ℕ
place_from b name q zero = None
place_from b name q (suc n) = pick (eqb (name_in (part b q)) name) (Some (pointer b q)) (place_from b name (q + 4) n)

-- the same for all pointers to moments of an accepted radial
abbrev pub place_in : List ℕ → ℕ → Maybe ℕ
place_in b name = place_from b name moment_pointer (count_in b - constants)

abbrev pub tell_place : Result ℕ Refusal → Answer ℕ
tell_place = tell (λ place. place)

abbrev pub place_shown : Answer Moment → Answer ℕ
place_shown a = onward a (λ m. given m.place)

-- 21: no moment has the name asked for
abbrev pub place_asked : Maybe ℕ → Answer ℕ
place_asked None = refused 21
place_asked (Some place) = given place

-- ---- a gate's word
-- the word of a gate is in the body
pub record WordThere (b : List ℕ) (place word gate : ℕ) : Type 0 where
  pub sized : Member word word_sizes
  pub few : gate < most_gates
  pub within : place + (moment_head + gate * (word / 8) + word / 8) ≤ length b
  pub low : place < 2 ^ 32

-- a gate's code: the number in its word
abbrev pub code_in : List ℕ → ℕ → ℕ → ℕ → ℕ
code_in b place word gate = num (word / 8) (drop place b) (moment_head + gate * (word / 8))

-- the gates of the moment with this head are in the body
pub record GatesThere (b : List ℕ) (h : MomentHead) : Type 0 where
  pub sized : Member h.word word_sizes
  pub few : h.gates ≤ most_gates
  pub within : h.place + moment_bytes h.gates h.word ≤ length b

-- a gate of the moment with this head
abbrev pub coded_by : List ℕ → MomentHead → ℕ → Answer Coded
coded_by b h gate = pick (leb h.gates gate) (refused 21) (given (record { code = code_in b h.place h.word gate; head = h }))

-- ---- a block by what was read of it
abbrev pub constant_told : ℕ → Span → Told
constant_told name s = record { name = name; place = s.place; size = s.length; head = none }

abbrev pub moment_told : MomentHead → Told
moment_told h = record { name = h.name; place = h.place; size = moment_bytes h.gates h.word; head = some h }
