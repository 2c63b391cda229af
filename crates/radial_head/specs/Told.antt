-- A moment's first 28 bytes by value. "The moment descriptor struct by value holds two f32 fields beside its gate count and word size", and
-- their 32 bits beside them.
use Rattle.std.specs.Prelude.{ℕ, List}
use Rattle.std.specs.Float.{binary32}
use Rattle.std.specs.Float.Ieee.{of_bits}
use Rattle.wire.specs.Numbers.{fetched}
use Rattle.radial_spec.specs.Refusal.{Head, head_by}
use Rattle.radial_head.specs.declared.Key.{Key}
use Rattle.radial_head.specs.declared.MomentHead.{MomentHead}

-- the head read from a part; fields beyond its end are 0
abbrev pub fetched_head : List ℕ → Head
fetched_head l = head_by (λ w k. fetched w l k)

-- a head with its moment's place, as the struct, and back
abbrev pub head_told : ℕ → Head → MomentHead
head_told place h = record {
  name = h.name;
  place = place;
  reserved = h.reserved;
  gates = h.gates;
  first = h.first;
  interval = h.interval;
  overlay = h.overlay;
  noise = h.noise;
  flags = h.flags;
  word = h.word;
  scale = of_bits binary32 h.scale;
  offset = of_bits binary32 h.offset;
  scale_bits = h.scale;
  offset_bits = h.offset;
}

abbrev pub head_back : MomentHead → Head
head_back h = record {
  name = h.name;
  reserved = h.reserved;
  gates = h.gates;
  first = h.first;
  interval = h.interval;
  overlay = h.overlay;
  noise = h.noise;
  flags = h.flags;
  word = h.word;
  scale = h.scale_bits;
  offset = h.offset_bits;
}

-- the fields of a head that are checked
abbrev pub key_of : Head → Key
key_of h = record { name = h.name; gates = h.gates; word = h.word }
