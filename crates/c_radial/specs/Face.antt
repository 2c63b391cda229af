-- Radials and their blocks as C receives them. "On a refusal every other field is 0."
use Rattle.std.specs.Prelude.{ℕ}
use Rattle.std.proofs.Math.Option.{Option, none, some}
use Rattle.wire.specs.Answers.{Answer, refused, given}
use Rattle.radial_spec.specs.Description.{Moment, Description, block_count}
use Rattle.radial_spec.specs.Refusal.{Head, head_by, stored_head}
use Rattle.radial_spec.specs.Lookups.{Asked, no_such, lies}
use Rattle.c_radial.specs.declared.UlmRadial.{UlmRadial}
use Rattle.c_radial.specs.declared.UlmBlock.{UlmBlock}

-- the header's values, "angles by their bits", and the block count
abbrev pub radial_face : Answer Description → UlmRadial
radial_face (refused n) = record {
  refusal = n;
  station = 0;
  time = 0;
  date = 0;
  azimuth_number = 0;
  azimuth = 0;
  radial_length = 0;
  spacing = 0;
  status = 0;
  elevation_number = 0;
  sector = 0;
  elevation = 0;
  blanking = 0;
  indexing = 0;
  blocks = 0;
}
radial_face (given d) = record {
  refusal = 0;
  station = d.station;
  time = d.time;
  date = d.date;
  azimuth_number = d.azimuth_number;
  azimuth = d.azimuth;
  radial_length = d.size;
  spacing = d.spacing;
  status = d.status;
  elevation_number = d.elevation_number;
  sector = d.sector;
  elevation = d.elevation;
  blanking = d.spot;
  indexing = d.indexing;
  blocks = block_count d;
}

-- a block: a refusal's number or 0, whether it was found, its name, place and size, and the fields of a moment's head
abbrev pub block_by : ℕ → ℕ → ℕ → ℕ → ℕ → Head → UlmBlock
block_by refusal found name place size h = record {
  refusal = refusal;
  found = found;
  name = name;
  reserved = h.reserved;
  gates = h.gates;
  first = h.first;
  interval = h.interval;
  overlay = h.overlay;
  noise = h.noise;
  flags = h.flags;
  word = h.word;
  scale = h.scale;
  offset = h.offset;
  start = place;
  size = size;
}

-- where there is no head its fields are 0
abbrev pub no_head : Head
no_head = head_by (λ w k. 0)

-- a block that is not there, with a refusal's number or 0
abbrev pub no_block : ℕ → UlmBlock
no_block n = block_by n 0 0 0 0 no_head

-- "for the three constant blocks only found, name, start and size"
abbrev pub constant_face : ℕ → ℕ → ℕ → UlmBlock
constant_face name place size = block_by 0 1 name place size no_head

abbrev pub moment_face : ℕ → ℕ → ℕ → Moment → UlmBlock
moment_face name place size m = block_by 0 1 name place size (stored_head m)

abbrev pub lying_face : ℕ → ℕ → ℕ → Option Moment → UlmBlock
lying_face name place size none = constant_face name place size
lying_face name place size (some m) = moment_face name place size m

-- "found 0 where the accepted radial has no such block"
abbrev pub block_face : Answer Asked → UlmBlock
block_face (refused n) = no_block n
block_face (given no_such) = no_block 0
block_face (given (lies k)) = lying_face k.name k.place k.size k.moment
