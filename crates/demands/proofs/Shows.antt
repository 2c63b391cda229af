-- What each entry returns of what its answer says: the way back from the reading in its crate's specs/Told. Assumes nothing.
use Prim.Native.Nat.{ℕ}
use mathlib.Core.Path.{◌≡◌, refl}
use mathlib.Core.Option.{Option, none, some}
use Rattle.std.specs.Prelude.{Option as Maybe, None, Some}
use Rattle.frame.specs.declared.Frame.{Frame}
use Rattle.frame.specs.Session.{Stream, end, frame}
use Rattle.frame.specs.Told.{stream_says}
use Rattle.set_spec.specs.Segment.{Placed}
use Rattle.set_segment.specs.declared.Segment.{Segment}
use Rattle.set_segment.specs.Told.{placed}
use Rattle.radial_head.specs.declared.MomentHead.{MomentHead}
use Rattle.radial.specs.declared.Lying.{Lying}
use Rattle.radial.specs.declared.RadialBlock.{RadialBlock}
use Rattle.radial.specs.declared.RadialBlock.TheVariants.{Constant, Moment}
use Rattle.radial.specs.Told.{Told, if_any}
use Rattle.gate_value.specs.declared.Gate.{Gate}
use Rattle.gate_value.specs.declared.Gate.TheVariants.{Value, BelowThreshold, RangeFolded}
use Rattle.gate_value.specs.Value.{Worth, below_threshold, range_folded, worth}
use Rattle.gate_value.specs.Told.{meaning}

-- ---- the end of a stream, or a frame
abbrev pub frame_said : Stream → Maybe Frame
frame_said end = None
frame_said (frame f) = Some f

pub frame_reads : (s : Stream) → stream_says (frame_said s) ≡ s
frame_reads end = refl
frame_reads (frame f) = refl

pub frame_back : (o : Maybe Frame) → frame_said (stream_says o) ≡ o
frame_back None = refl
frame_back (Some f) = refl

-- ---- a segment
abbrev pub segment_said : Placed → Segment
segment_said p = record { header = p.header; start = p.start; next = p.next }

-- ---- a block, or that there is none
abbrev block_with : Lying → Option MomentHead → RadialBlock
block_with k none = Constant k
block_with k (some h) = Moment k h

abbrev pub block_said : Option Told → Maybe RadialBlock
block_said none = None
block_said (some t) = Some (block_with (record { name = t.name; place = t.place; size = t.size }) t.head)

pub block_reads : (o : Option Told) → if_any (block_said o) ≡ o
block_reads none = refl
block_reads (some t) = go t.name t.place t.size t.head
  where
    go : (name place size : ℕ) (o : Option MomentHead)
        → if_any (Some (block_with (record { name = name; place = place; size = size }) o))
        ≡ some (record { name = name; place = place; size = size; head = o })
    go name place size none = refl
    go name place size (some h) = refl

pub block_back : (o : Maybe RadialBlock) → block_said (if_any o) ≡ o
block_back None = refl
block_back (Some (Constant k)) = refl
block_back (Some (Moment k h)) = refl

-- ---- the meaning of a gate's code
abbrev pub gate_said : Worth → Gate
gate_said (worth v) = Value v
gate_said below_threshold = BelowThreshold
gate_said range_folded = RangeFolded

pub gate_reads : (w : Worth) → meaning (gate_said w) ≡ w
gate_reads (worth v) = refl
gate_reads below_threshold = refl
gate_reads range_folded = refl

pub gate_back : (g : Gate) → gate_said (meaning g) ≡ g
gate_back (Value v) = refl
gate_back BelowThreshold = refl
gate_back RangeFolded = refl
