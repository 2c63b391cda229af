-- What the private functions promise each other. No public promise cites this file.
use Rattle.radial_head.specs.declared.MomentHead.{MomentHead}
use Rattle.radial_head.specs.Told.{head_back}
use Rattle.radial_heading.specs.declared.Heading.{Heading}
use Rattle.radial.specs.declared.Lying.{Lying}
use Rattle.c_radial.specs.declared.UlmRadial.{UlmRadial}
use Rattle.c_radial.specs.declared.UlmBlock.{UlmBlock}
use Rattle.c_radial.specs.Face.{block_by}

-- a radial by its heading
abbrev pub heading_face : Heading → UlmRadial
heading_face r = record {
  refusal = 0;
  station = r.header.station;
  time = r.header.time;
  date = r.header.date;
  azimuth_number = r.header.azimuth_number;
  azimuth = r.header.azimuth;
  radial_length = r.header.size;
  spacing = r.header.spacing;
  status = r.header.status;
  elevation_number = r.header.elevation_number;
  sector = r.header.sector;
  elevation = r.header.elevation;
  blanking = r.header.spot;
  indexing = r.header.indexing;
  blocks = r.count;
}

-- a moment's block by the lookup's struct
abbrev pub head_face : Lying → MomentHead → UlmBlock
head_face k h = block_by 0 1 k.name k.place k.size (head_back h)
