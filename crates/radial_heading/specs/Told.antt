-- What the heading hands back by value: of a description its header's values and its block count, or the number of the refusal.
use Rattle.std.specs.Prelude.{Result}
use Rattle.wire.specs.Answers.{Answer, given, onward}
use Rattle.wire.specs.Refusals.{tell}
use Rattle.wire.specs.declared.refusal.Refusal.{Refusal}
use Rattle.radial_spec.specs.Description.{Description, block_count}
use Rattle.radial_heading.specs.declared.Header.{Header}
use Rattle.radial_heading.specs.declared.Heading.{Heading}

abbrev pub header_of : Description → Header
header_of d = record {
  station = d.station;
  time = d.time;
  date = d.date;
  azimuth_number = d.azimuth_number;
  azimuth = d.azimuth;
  size = d.size;
  spacing = d.spacing;
  status = d.status;
  elevation_number = d.elevation_number;
  sector = d.sector;
  elevation = d.elevation;
  spot = d.spot;
  indexing = d.indexing;
}

abbrev pub heading_of : Description → Heading
heading_of d = record { count = block_count d; header = header_of d }

abbrev pub tell_heading : Result Heading Refusal → Answer Heading
tell_heading = tell (λ h. h)

abbrev pub heading_shown : Answer Description → Answer Heading
heading_shown a = onward a (λ d. given (heading_of d))
