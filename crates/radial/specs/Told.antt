-- What the reader and the lookups return by value: the description's values, the blocks' places and lengths and the moments' heads,
-- or the number of the refusal.
use Rattle.std.specs.Prelude.{ℕ, ◌-◌, List, map, ◌++◌, length, replicate, Result, Option as Maybe, None, Some}
use Rattle.std.proofs.Math.Option.{Option, none, some}
use Rattle.wire.specs.Answers.{Answer, given, onward}
use Rattle.wire.specs.Refusals.{tell}
use Rattle.wire.specs.declared.refusal.Refusal.{Refusal}
use Rattle.radial_spec.specs.Description.{most_moments, Block, Moment, Description, block_size, block_count}
use Rattle.radial_spec.specs.Refusal.{head_by, stored_head}
use Rattle.radial_spec.specs.Lookups.{Coded as CodedOf, Asked, no_such, lies}
use Rattle.radial_heading.specs.Told.{header_of}
use Rattle.radial.specs.declared.Span.{Span}
use Rattle.radial_head.specs.declared.MomentHead.{MomentHead}
use Rattle.radial_head.specs.Told.{head_told}
use Rattle.radial.specs.declared.Radial.{Radial}
use Rattle.radial.specs.declared.Coded.{Coded}
use Rattle.radial.specs.declared.RadialBlock.{RadialBlock}
use Rattle.radial.specs.declared.RadialBlock.TheVariants.{Constant, Moment as MomentBlock}

-- where a constant block lies: "kept whole" in the lent body
abbrev pub span_of : Block → Span
span_of k = record { place = k.place; length = block_size k }

-- a moment's head
abbrev pub head_of : Moment → MomentHead
head_of m = head_told m.place (stored_head m)

abbrev pub no_head : MomentHead
no_head = head_told 0 (head_by (λ w k. 0))

-- the moments' heads, and zeros in the places after them
abbrev pub heads_of : List Moment → List MomentHead
heads_of ms = map head_of ms ++ replicate (most_moments - length ms) no_head

-- the reader's struct
abbrev pub radial_told : Description → Radial
radial_told d = record {
  count = block_count d;
  header = header_of d;
  volume = span_of d.volume_block;
  elevation = span_of d.elevation_block;
  radial = span_of d.radial_block;
  moments = heads_of d.moments;
}

abbrev pub tell_radial : Result Radial Refusal → Answer Radial
tell_radial = tell (λ r. r)

abbrev pub shown : Answer Description → Answer Radial
shown a = onward a (λ d. given (radial_told d))

-- ---- a moment: its head and its place, or the number of refusal
abbrev pub tell_moment : Result MomentHead Refusal → Answer MomentHead
tell_moment = tell (λ h. h)

abbrev pub head_shown : Answer Moment → Answer MomentHead
head_shown a = onward a (λ m. given (head_of m))

-- ---- a gate's code with the head of its moment, or the number of refusal
abbrev pub tell_coded : Result Coded Refusal → Answer Coded
tell_coded = tell (λ c. c)

abbrev pub code_shown : Answer CodedOf → Answer Coded
code_shown a = onward a (λ c. given (record { code = c.code; head = head_of c.moment }))

-- ---- a block: its name, place and length, and of a moment its head; or that there is no such block; or the number of refusal
pub record Told : Type 0 where
  pub name : ℕ
  pub place : ℕ
  pub size : ℕ
  pub head : Option MomentHead

abbrev pub block_told : RadialBlock → Told
block_told (Constant k) = record { name = k.name; place = k.place; size = k.size; head = none }
block_told (MomentBlock k h) = record { name = k.name; place = k.place; size = k.size; head = some h }

abbrev pub if_any : Maybe RadialBlock → Option Told
if_any None = none
if_any (Some k) = some (block_told k)

abbrev pub tell_block : Result (Maybe RadialBlock) Refusal → Answer (Option Told)
tell_block = tell if_any

abbrev pub head_if_any : Option Moment → Option MomentHead
head_if_any none = none
head_if_any (some m) = some (head_of m)

abbrev pub told_of : Asked → Option Told
told_of no_such = none
told_of (lies k) = some (record { name = k.name; place = k.place; size = k.size; head = head_if_any k.moment })

abbrev pub block_shown : Answer Asked → Answer (Option Told)
block_shown a = onward a (λ k. given (told_of k))
