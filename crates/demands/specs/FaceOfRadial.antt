-- What a C caller has of an accepted radial: `ulm_radial`, `ulm_block` for each of its blocks, and the body that it lent. Together they are
-- the description.
use Rattle.std.specs.Prelude.{ℕ, zero, suc, ◌-◌, ◌/◌, ◌≡◌, List, [], ◌∷◌, drop}
use Rattle.wire.specs.Numbers.{nums}
use Rattle.wire.specs.Answers.{given}
use Rattle.radial_spec.specs.Description.{constants, constant_head, moment_head, Block, Moment, Description}
use Rattle.radial_spec.specs.Refusal.{radial_of}
use Rattle.c_radial.specs.declared.UlmRadial.{UlmRadial}
use Rattle.c_radial.specs.declared.UlmBlock.{UlmBlock}
use Rattle.ulm.proofs.ulm_radial.Reads as ulm_radial
use Rattle.ulm.proofs.ulm_block.Reads as ulm_block

-- a constant block: its bytes after name and length are the body's
abbrev pub block_from_c : List ℕ → UlmBlock → Block
block_from_c b u = record { place = u.start; rest = nums 1 (drop u.start b) constant_head (u.size - constant_head) }

-- a moment: its codes are the body's words after its head
abbrev pub moment_from_c : List ℕ → UlmBlock → Moment
moment_from_c b u = record {
  place = u.start;
  name = u.name;
  reserved = u.reserved;
  first = u.first;
  interval = u.interval;
  overlay = u.overlay;
  noise = u.noise;
  flags = u.flags;
  word = u.word;
  scale = u.scale;
  offset = u.offset;
  codes = nums (u.word / 8) (drop u.start b) moment_head u.gates;
}

-- n of them, from block k on
abbrev pub moments_from_c : List ℕ → (ℕ → UlmBlock) → ℕ → ℕ → List Moment
moments_from_c b block k zero = []
moments_from_c b block k (suc n) = moment_from_c b (block k) ∷ moments_from_c b block (suc k) n

abbrev pub from_c : UlmRadial → (ℕ → UlmBlock) → List ℕ → Description
from_c r block b = record {
  station = r.station;
  time = r.time;
  date = r.date;
  azimuth_number = r.azimuth_number;
  azimuth = r.azimuth;
  size = r.radial_length;
  spacing = r.spacing;
  status = r.status;
  elevation_number = r.elevation_number;
  sector = r.sector;
  elevation = r.elevation;
  spot = r.blanking;
  indexing = r.indexing;
  volume_block = block_from_c b (block 1);
  elevation_block = block_from_c b (block 2);
  radial_block = block_from_c b (block 3);
  moments = moments_from_c b block 4 (r.blocks - constants);
}

-- whatever struct `ulm_radial` answers, and `ulm_block` for each block
abbrev pub HandedToC : Type 0
HandedToC =
    (κs κs' body r s s' : _) (block : ℕ → UlmBlock) (d : Description) → radial_of body.now ≡ given d → ulm_radial.Learnt κs (body, tt) r s
    → ((k : ℕ) → ulm_block.Learnt κs' (body, (k, tt)) (block k) s') → from_c r block body.now ≡ d
