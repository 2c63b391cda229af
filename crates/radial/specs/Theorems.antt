-- Demand 3's last part, "it is what we are handed": the reader's struct with the lent body is the description.
use Rattle.std.specs.Prelude.{ℕ, ◌-◌, ◌≡◌, ◌↔◌, List, map, length, take, drop, Result}
use Rattle.wire.specs.Numbers.{nums, Octets}
use Rattle.wire.specs.Answers.{Answer, given}
use Rattle.wire.specs.Refusals.{tell}
use Rattle.wire.specs.declared.refusal.Refusal.{Refusal}
use Rattle.radial_spec.specs.Description.{constants, constant_head, Block, Moment, Description, Agrees, Layout}
use Rattle.radial_spec.specs.Refusal.{moment_by, radial_of}
use Rattle.radial.specs.declared.Span.{Span}
use Rattle.radial_head.specs.declared.MomentHead.{MomentHead}
use Rattle.radial_head.specs.Told.{head_back}
use Rattle.radial.specs.declared.Radial.{Radial}
use Rattle.radial.specs.Told.{tell_radial, shown}

-- a constant block "kept whole": its bytes are the body's at its place
abbrev pub block_from : List ℕ → Span → Block
block_from b s = record { place = s.place; rest = nums 1 (drop s.place b) constant_head (s.length - constant_head) }

-- a moment: its codes are the body's words after its head
abbrev pub moment_from : List ℕ → MomentHead → Moment
moment_from b h = moment_by h.place (head_back h) (drop h.place b)

-- what the reader's struct says with the body that was lent
abbrev pub described : Radial → List ℕ → Description
described r b = record {
  station = r.header.station;
  time = r.header.time;
  date = r.header.date;
  azimuth_number = r.header.azimuth_number;
  azimuth = r.header.azimuth;
  size = r.header.size;
  spacing = r.header.spacing;
  status = r.header.status;
  elevation_number = r.header.elevation_number;
  sector = r.header.sector;
  elevation = r.header.elevation;
  spot = r.header.spot;
  indexing = r.header.indexing;
  volume_block = block_from b r.volume;
  elevation_block = block_from b r.elevation;
  radial_block = block_from b r.radial;
  moments = map (moment_from b) (take (r.count - constants) r.moments);
}

-- what a caller has: the reader's result, and the body that it lent
abbrev pub handed : Result Radial Refusal → List ℕ → Answer Description
handed r b = tell (λ x. described x b) r

-- for every body, what is handed over is the rule's answer
abbrev pub Handed : Type 0
Handed = (b : List ℕ) (r : Result Radial Refusal) → tell_radial r ≡ shown (radial_of b) → handed r b ≡ radial_of b

-- so a description is handed over exactly if it has the layout of a radial in the body and agrees with the body
abbrev pub HandedExactly : Type 0
HandedExactly = (b : List ℕ) (r : Result Radial Refusal) (d : Description) → Octets b → tell_radial r ≡ shown (radial_of b)
    → (handed r b ≡ given d) ↔ (Layout (length b) d × Agrees b d)
