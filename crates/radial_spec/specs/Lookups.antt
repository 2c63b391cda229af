-- The questions about a radial: a moment by its name, a block by its number, a moment's gates. A refused radial answers with its own
-- number first.
use Rattle.std.specs.Prelude.{ℕ, ◌+◌, List, [], ◌∷◌, map, leb, eqb, get_or, take, drop}
use Rattle.std.proofs.Math.Option.{Option, none, some}
use Rattle.wire.specs.Checks.{pick}
use Rattle.wire.specs.Answers.{Answer, refused, given, onward}
use Rattle.radial_spec.specs.Description.{RVOL, RELV, RRAD, moment_head, Block, Moment, Description, gates, gate_bytes, block_size}
use Rattle.radial_spec.specs.Description.{moment_size}
use Rattle.radial_spec.specs.Refusal.{radial_of}

-- ---- a moment by its name
-- 21: the moment "asked for doesn't exist"
abbrev pub moment_named : ℕ → List Moment → Answer Moment
moment_named name [] = refused 21
moment_named name (m ∷ ms) = pick (eqb m.name name) (given m) (moment_named name ms)

unfoldable pub moment_of : List ℕ → ℕ → Answer Moment
moment_of b name = onward (radial_of b) (λ d. moment_named name d.moments)

-- ---- a gate of a moment, counted from 0: its code and the moment, since "a moment's scale and offset travel with it"
pub record Coded : Type 0 where
  pub code : ℕ
  pub moment : Moment

-- 21: the gate "asked for doesn't exist"
abbrev pub coded_in : Moment → ℕ → Answer Coded
coded_in m gate = pick (leb (gates m) gate) (refused 21) (given (record { code = get_or m.codes gate 0; moment = m }))

unfoldable pub coded_of : List ℕ → ℕ → ℕ → Answer Coded
coded_of b name gate = onward (moment_of b name) (λ m. coded_in m gate)

-- ---- a block by its number, from 1
-- a block's name, place and length and, of a moment, what it says
pub record Lying : Type 0 where
  pub name : ℕ
  pub place : ℕ
  pub size : ℕ
  pub moment : Option Moment

abbrev pub constant_lying : ℕ → Block → Lying
constant_lying name k = record { name = name; place = k.place; size = block_size k; moment = none }

abbrev pub moment_lying : Moment → Lying
moment_lying m = record { name = m.name; place = m.place; size = moment_size m; moment = some m }

-- the blocks in pointer order
abbrev pub blocks : Description → List Lying
blocks d =
    constant_lying RVOL d.volume_block
    ∷ constant_lying RELV d.elevation_block
    ∷ constant_lying RRAD d.radial_block
    ∷ map moment_lying d.moments

-- a block that does not exist is not a refusal, since no number covers it
pub data Asked : Type 0 where
  no_such : Asked
  lies : Lying → Asked

unfoldable pub block_of : List ℕ → ℕ → Answer Asked
block_of b k = onward (radial_of b) (λ d. given (get_or (no_such ∷ map lies (blocks d)) k no_such))

-- ---- "The gates are handed over as that part of the lent body": where it begins, and how many bytes it has
pub record Part : Type 0 where
  pub place : ℕ
  pub size : ℕ

abbrev pub gates_in : Moment → Part
gates_in m = record { place = m.place + moment_head; size = gate_bytes m }

unfoldable pub gates_of : List ℕ → ℕ → Answer Part
gates_of b name = onward (moment_of b name) (λ m. given (gates_in m))

-- the bytes of a part
abbrev pub bytes_in : List ℕ → Part → List ℕ
bytes_in b p = take p.size (drop p.place b)
