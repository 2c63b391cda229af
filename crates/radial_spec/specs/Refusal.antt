-- The rule of refusal. "Radial: 14 to 17, then each block in pointer order 18, 19, 20." The first broken check decides.
use Rattle.std.specs.Prelude.{ℕ, zero, suc, ◌+◌, ◌-◌, ◌/◌, not, List, [], ◌∷◌, ◌++◌, ltb, eqb, length, drop}
use Rattle.wire.specs.Numbers.{num, nums}
use Rattle.wire.specs.Checks.{Check, check, among}
use Rattle.wire.specs.Answers.{Answer, rule}
use Rattle.radial_spec.specs.Description.{header_size, constants, fewest_blocks, most_blocks, size_place, count_place, volume_pointer}
use Rattle.radial_spec.specs.Description.{elevation_pointer}
use Rattle.radial_spec.specs.Description.{radial_pointer, moment_pointer, first_place, RVOL, RELV, RRAD, volume_least, elevation_least}
use Rattle.radial_spec.specs.Description.{radial_least}
use Rattle.radial_spec.specs.Description.{permitted, most_gates, word_sizes, constant_head, moment_head, Block, Moment, gates}
use Rattle.radial_spec.specs.Description.{moment_bytes, Description, length_place, compression_place}

-- ---- what is read, of the body b, and of the part l of it that begins at a block's place p
abbrev pub size_in : List ℕ → ℕ
size_in b = num 2 b size_place

abbrev pub count_in : List ℕ → ℕ
count_in b = num 2 b count_place

-- the pointer at byte q, and the part of the body that begins where it points
abbrev pub pointer : List ℕ → ℕ → ℕ
pointer b q = num 4 b q

abbrev pub part : List ℕ → ℕ → List ℕ
part b q = drop (pointer b q) b

abbrev pub name_in : List ℕ → ℕ
name_in l = num 4 l 0

-- the length that a constant block states
abbrev pub block_says : List ℕ → ℕ
block_says l = num 2 l length_place

abbrev pub block_at : ℕ → List ℕ → Block
block_at p l = record { place = p; rest = nums 1 l constant_head (block_says l - constant_head) }

-- a moment's first 28 bytes
pub record Head : Type 0 where
  pub name : ℕ
  pub reserved : ℕ
  pub gates : ℕ
  pub first : ℕ
  pub interval : ℕ
  pub overlay : ℕ
  pub noise : ℕ
  pub flags : ℕ
  pub word : ℕ
  pub scale : ℕ
  pub offset : ℕ

-- the fields of a head, by a function that reads so many bytes at a place
abbrev pub head_by : (ℕ → ℕ → ℕ) → Head
head_by read = record {
  name = read 4 0;
  reserved = read 4 4;
  gates = read 2 8;
  first = read 2 10;
  interval = read 2 12;
  overlay = read 2 14;
  noise = read 2 16;
  flags = read 1 18;
  word = read 1 19;
  scale = read 4 20;
  offset = read 4 24;
}

abbrev pub head_in : List ℕ → Head
head_in l = head_by (λ w k. num w l k)

-- the size of the moment, by its gates and its word size
abbrev pub moment_says : List ℕ → ℕ
moment_says l = moment_bytes (head_in l).gates (head_in l).word

-- the moment at p with a head, whose gates stand in the part l
abbrev pub moment_by : ℕ → Head → List ℕ → Moment
moment_by p h l = record {
  place = p;
  name = h.name;
  reserved = h.reserved;
  first = h.first;
  interval = h.interval;
  overlay = h.overlay;
  noise = h.noise;
  flags = h.flags;
  word = h.word;
  scale = h.scale;
  offset = h.offset;
  codes = nums (h.word / 8) l moment_head h.gates;
}

-- what the first 28 bytes of a moment hold
abbrev pub stored_head : Moment → Head
stored_head m = record {
  name = m.name;
  reserved = m.reserved;
  gates = gates m;
  first = m.first;
  interval = m.interval;
  overlay = m.overlay;
  noise = m.noise;
  flags = m.flags;
  word = m.word;
  scale = m.scale;
  offset = m.offset;
}

abbrev pub moment_at : ℕ → List ℕ → Moment
moment_at p l = moment_by p (head_in l) l

-- the moments whose n pointers stand from byte q on
abbrev pub moments_at : List ℕ → ℕ → ℕ → List Moment
moments_at b q zero = []
moments_at b q (suc n) = moment_at (pointer b q) (part b q) ∷ moments_at b (q + 4) n

abbrev pub description : List ℕ → Description
description b = record {
  station = num 4 b 0;
  time = num 4 b 4;
  date = num 2 b 8;
  azimuth_number = num 2 b 10;
  azimuth = num 4 b 12;
  size = size_in b;
  spacing = num 1 b 20;
  status = num 1 b 21;
  elevation_number = num 1 b 22;
  sector = num 1 b 23;
  elevation = num 4 b 24;
  spot = num 1 b 28;
  indexing = num 1 b 29;
  volume_block = block_at (pointer b volume_pointer) (part b volume_pointer);
  elevation_block = block_at (pointer b elevation_pointer) (part b elevation_pointer);
  radial_block = block_at (pointer b radial_pointer) (part b radial_pointer);
  moments = moments_at b moment_pointer (count_in b - constants);
}

-- ---- the checks, one comparison each, and after them the `rest` of the checks
-- 14 "radial body under 68 bytes", 15 "compression byte not 0", 16 "radial length under 68 or above the body", 17 "block count not 4 to 9"
abbrev pub header_checks : List ℕ → List Check → List Check
header_checks b rest =
    check 14 (ltb (length b) header_size)
    ∷ check 15 (not (eqb (num 1 b compression_place) 0))
    ∷ check 16 (ltb (size_in b) header_size)
    ∷ check 16 (ltb (length b) (size_in b))
    ∷ check 17 (ltb (count_in b) fewest_blocks)
    ∷ check 17 (ltb most_blocks (count_in b))
    ∷ rest

-- 18 "pointer too early, or fewer than 6 bytes (constant) or 28 (moment) left within the radial length", 19 "wrong, unknown or repeated
-- name", 20 "block length under its minimum, gates, word size, or block past the radial length". A constant block at p, with the part l, in
-- a radial of z bytes, after what ends at `from`. q, where its pointer stands, says which block it is
abbrev pub block_checks : ℕ → ℕ → ℕ → ℕ → List ℕ → ℕ → ℕ → List Check → List Check
block_checks q z from p l name least rest =
    check 18 (ltb p from)
    ∷ check 18 (ltb z (p + constant_head))
    ∷ check 19 (not (eqb (name_in l) name))
    ∷ check 20 (ltb (block_says l) least)
    ∷ check 20 (ltb z (p + block_says l))
    ∷ rest

-- a moment, after those with the names `seen`
abbrev pub moment_checks : ℕ → ℕ → ℕ → ℕ → List ℕ → List ℕ → List Check → List Check
moment_checks q z from p l seen rest =
    check 18 (ltb p from)
    ∷ check 18 (ltb z (p + moment_head))
    ∷ check 19 (not (among (name_in l) permitted))
    ∷ check 19 (among (name_in l) seen)
    ∷ check 20 (ltb most_gates (head_in l).gates)
    ∷ check 20 (not (among (head_in l).word word_sizes))
    ∷ check 20 (ltb z (p + moment_says l))
    ∷ rest

-- the moments whose n pointers stand from byte q on
abbrev pub moments_checks : ℕ → List ℕ → ℕ → ℕ → List ℕ → ℕ → List Check
moments_checks z b from q seen zero = []
moments_checks z b from q seen (suc n) =
    moment_checks q z from (pointer b q) (part b q) seen
    (moments_checks z b (pointer b q + moment_says (part b q)) (q + 4) (seen ++ (name_in (part b q) ∷ [])) n)

-- the constant block whose pointer stands at byte q, and where it ends
abbrev pub constant_checks : List ℕ → ℕ → ℕ → ℕ → ℕ → List Check → List Check
constant_checks b from q name least rest = block_checks q (size_in b) from (pointer b q) (part b q) name least rest

abbrev pub end_at : List ℕ → ℕ → ℕ
end_at b q = pointer b q + block_says (part b q)

abbrev pub constants_checks : List ℕ → ℕ → List Check → List Check
constants_checks b from rest =
    constant_checks b from volume_pointer RVOL volume_least
    (constant_checks b (end_at b volume_pointer) elevation_pointer RELV elevation_least
    (constant_checks b (end_at b elevation_pointer) radial_pointer RRAD radial_least rest))

abbrev pub radial_checks : List ℕ → List Check
radial_checks b =
    header_checks b
    (constants_checks b (first_place (count_in b))
    (moments_checks (size_in b) b (end_at b radial_pointer) moment_pointer [] (count_in b - constants)))

-- the answer of the reader: the first broken check's number, or the description
unfoldable pub radial_of : List ℕ → Answer Description
radial_of b = rule (radial_checks b) (description b)
