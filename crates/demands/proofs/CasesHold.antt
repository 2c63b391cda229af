-- Every starred case holds of the rules themselves, by computation. Assumes nothing.
use mathlib.Core.Path.{refl}
use lib.Count.{count_trailing_zeros}
use lib.Ieee as Ieee
use lib.Ieee.{of_bits}
use Rattle.form_spec.specs.Parts.{run_size, run_checks, run_in}
use Rattle.wire.specs.Numbers.{num}
use Rattle.frame.specs.Session.{frame_at}
use Rattle.header.specs.Header.{stored_in, header_in, header_of}
use Rattle.frame.specs.Walk.{turns}
use Rattle.set_spec.specs.Segment.{numbered}
use Rattle.set_spec.specs.Walk.{all_seen, joined, set_of}
use Rattle.writer.specs.Writing.{cut, frame_of, frames_from, frames_of, write_of}
use Rattle.writer_head.specs.Head.{heads}
use Rattle.radial_spec.specs.Refusal.{radial_of}
use Rattle.gate_value.specs.Value.{value_of}
use Rattle.map_spec.specs.Map.{code_from}
use Rattle.map_spec.specs.Reading.{zones_checks, zones_in}
use Rattle.demands.specs.Cases.{Starred}

pub starred : Starred
unfolding num frame_at stored_in header_in header_of numbered turns all_seen joined set_of cut heads frame_of frames_from frames_of write_of
    radial_of value_of code_from zones_checks zones_in run_size run_checks run_in of_bits Ieee.lt Ieee.div Ieee.sub Ieee.add Ieee.neg
    Ieee.sum Ieee.round Ieee.units Ieee.odd Ieee.size Ieee.span Ieee.climb Ieee.of_int Ieee.of_fields count_trailing_zeros
starred = refl
