-- What a radial says, stated apart from any reader: its fields and blocks, the bytes that it names, and the layout that it may have.
use Rattle.std.specs.Prelude.{ℕ, ◌+◌, ◌-◌, ◌*◌, ◌/◌, ◌≤◌, ◌<◌, ◌≡◌, ◌⊎◌, ◌≢◌, List, [], ◌∷◌, ◌++◌, map, length}
use Rattle.wire.specs.Properties.{Each}
use Rattle.wire.specs.Tables.{Field, field, render, total, Fit, Holds}

-- ---- the limits, each once
-- "The header takes bytes 0 to 67"
abbrev pub header_size : ℕ
header_size = 68

-- "The count is 4 to 9": the three constant blocks, and at least one moment
abbrev pub constants : ℕ
constants = 3

abbrev pub fewest_blocks : ℕ
fewest_blocks = 4

abbrev pub most_blocks : ℕ
most_blocks = 9

-- the most moments
abbrev pub most_moments : ℕ
most_moments = most_blocks - constants

-- "compression 16", "radial length 18-19", "block count 30-31, then nine 4-byte pointers": where these stand
abbrev pub compression_place : ℕ
compression_place = 16

abbrev pub size_place : ℕ
size_place = 18

abbrev pub count_place : ℕ
count_place = 30

abbrev pub first_pointer : ℕ
first_pointer = 32

-- the pointers of the three constant blocks, and the first of a moment
abbrev pub volume_pointer : ℕ
volume_pointer = first_pointer

abbrev pub elevation_pointer : ℕ
elevation_pointer = volume_pointer + 4

abbrev pub radial_pointer : ℕ
radial_pointer = elevation_pointer + 4

abbrev pub moment_pointer : ℕ
moment_pointer = first_pointer + 4 * constants

-- "The first block begins at 68 or later": the first place of a radial with this count of blocks
abbrev pub first_place : ℕ → ℕ
first_place count = 68

-- "RVOL", "RELV", "RRAD": a name is its four bytes as one number
abbrev pub RVOL : ℕ
RVOL = 0x52564F4C

abbrev pub RELV : ℕ
RELV = 0x52454C56

abbrev pub RRAD : ℕ
RRAD = 0x52524144

-- "Bytes 4-5 of these hold the block's length: at least 44, 12 and 20."
abbrev pub length_place : ℕ
length_place = 4

abbrev pub volume_least : ℕ
volume_least = 44

abbrev pub elevation_least : ℕ
elevation_least = 12

abbrev pub radial_least : ℕ
radial_least = 20

-- "DREF", "DVEL", "DSW ", "DZDR", "DPHI" or "DRHO"
abbrev pub permitted : List ℕ
permitted = 0x44524546 ∷ 0x4456454C ∷ 0x44535720 ∷ 0x445A4452 ∷ 0x44504849 ∷ 0x4452484F ∷ []

-- "gates 8-9 (0 to 1,840)"
abbrev pub most_gates : ℕ
most_gates = 1840

-- "word size 19 (8 or 16 bits)"
abbrev pub word_sizes : List ℕ
word_sizes = 8 ∷ 16 ∷ []

-- what stands before the rest of a constant block, and before a moment's gates
abbrev pub constant_head : ℕ
constant_head = 6

abbrev pub moment_head : ℕ
moment_head = 28

-- ---- what a radial says
-- a constant block: where it begins, and its bytes after name and length
pub record Block : Type 0 where
  pub place : ℕ
  pub rest : List ℕ

-- a moment: where it begins, its stored fields and its gate codes. "Floats count by their 32 bits": scale and offset are these
pub record Moment : Type 0 where
  pub place : ℕ
  pub name : ℕ
  pub reserved : ℕ
  pub first : ℕ
  pub interval : ℕ
  pub overlay : ℕ
  pub noise : ℕ
  pub flags : ℕ
  pub word : ℕ
  pub scale : ℕ
  pub offset : ℕ
  pub codes : List ℕ

-- the header's values, the three constant blocks and the moments. `size` is the radial length; the angles are their 32 bits
pub record Description : Type 0 where
  pub station : ℕ
  pub time : ℕ
  pub date : ℕ
  pub azimuth_number : ℕ
  pub azimuth : ℕ
  pub size : ℕ
  pub spacing : ℕ
  pub status : ℕ
  pub elevation_number : ℕ
  pub sector : ℕ
  pub elevation : ℕ
  pub spot : ℕ
  pub indexing : ℕ
  pub volume_block : Block
  pub elevation_block : Block
  pub radial_block : Block
  pub moments : List Moment

-- the block count and the gate count follow from what is described
abbrev pub block_count : Description → ℕ
block_count d = constants + length d.moments

abbrev pub gates : Moment → ℕ
gates m = length m.codes

-- the bytes of a word, of the gates, of a block: "the gates, one word each"
abbrev pub word_bytes : Moment → ℕ
word_bytes m = m.word / 8

abbrev pub gate_bytes : Moment → ℕ
gate_bytes m = gates m * word_bytes m

abbrev pub block_size : Block → ℕ
block_size k = constant_head + length k.rest

-- a moment with so many gates of so many bits
abbrev pub moment_bytes : ℕ → ℕ → ℕ
moment_bytes gates word = moment_head + gates * (word / 8)

abbrev pub moment_size : Moment → ℕ
moment_size m = moment_bytes (gates m) m.word

-- ---- "The description names: header bytes 0-31 but not 17, the used pointers, and every byte of every block."
-- a piece of the body: at a place, a table of fields
pub record Piece : Type 0 where
  pub place : ℕ
  pub fields : List Field

abbrev pub piece : ℕ → List Field → Piece
piece p fs = record { place = p; fields = fs }

-- "station name 0-3, collection time 4-7, date 8-9, azimuth number 10-11, azimuth angle 12-15, compression 16 (0 only)"
abbrev pub header_before : Description → List Field
header_before d =
    field 4 d.station
    ∷ field 4 d.time
    ∷ field 2 d.date
    ∷ field 2 d.azimuth_number
    ∷ field 4 d.azimuth
    ∷ field 1 0
    ∷ []

-- "radial length 18-19, azimuth spacing 20, radial status 21, elevation number 22, cut sector 23, elevation angle 24-27, spot blanking 28,
-- indexing mode 29, block count 30-31"
abbrev pub header_after : Description → List Field
header_after d =
    field 2 d.size
    ∷ field 1 d.spacing
    ∷ field 1 d.status
    ∷ field 1 d.elevation_number
    ∷ field 1 d.sector
    ∷ field 4 d.elevation
    ∷ field 1 d.spot
    ∷ field 1 d.indexing
    ∷ field 2 (block_count d)
    ∷ []

-- "then nine 4-byte pointers": only the first `count` of them are used
abbrev pub moment_places : List Moment → List Field
moment_places [] = []
moment_places (m ∷ ms) = field 4 m.place ∷ moment_places ms

abbrev pub pointers : Description → List Field
pointers d =
    field 4 d.volume_block.place
    ∷ field 4 d.elevation_block.place
    ∷ field 4 d.radial_block.place
    ∷ moment_places d.moments

-- a constant block: its name, its length, and the rest of it: "kept whole"
abbrev pub block_fields : ℕ → Block → List Field
block_fields name k = field 4 name ∷ field 2 (block_size k) ∷ map (field 1) k.rest

-- "A moment's first 28 bytes are name 0-3, reserved 4-7, gates 8-9 (0 to 1,840), first range 10-11, interval 12-13, overlay threshold
-- 14-15, noise threshold 16-17, flags 18, word size 19 (8 or 16 bits), scale 20-23, offset 24-27 (32-bit floats). Then the gates, one word
-- each."
abbrev pub moment_fields : Moment → List Field
moment_fields m =
    field 4 m.name
    ∷ field 4 m.reserved
    ∷ field 2 (gates m)
    ∷ field 2 m.first
    ∷ field 2 m.interval
    ∷ field 2 m.overlay
    ∷ field 2 m.noise
    ∷ field 1 m.flags
    ∷ field 1 m.word
    ∷ field 4 m.scale
    ∷ field 4 m.offset
    ∷ map (field (word_bytes m)) m.codes

abbrev pub moment_pieces : List Moment → List Piece
moment_pieces [] = []
moment_pieces (m ∷ ms) = piece m.place (moment_fields m) ∷ moment_pieces ms

-- all that a description names: "Nothing else: not spare 17, unused slots, gaps or bytes past the radial length."
abbrev pub pieces : Description → List Piece
pieces d =
    piece 0 (header_before d)
    ∷ piece size_place (header_after d)
    ∷ piece first_pointer (pointers d)
    ∷ piece d.volume_block.place (block_fields RVOL d.volume_block)
    ∷ piece d.elevation_block.place (block_fields RELV d.elevation_block)
    ∷ piece d.radial_block.place (block_fields RRAD d.radial_block)
    ∷ moment_pieces d.moments

-- byte i lies in one of the pieces
abbrev pub InPieces : List Piece → ℕ → Type 0
InPieces [] i = ⊥
InPieces (x ∷ xs) i = ((x.place ≤ i) × (i < x.place + total x.fields)) ⊎ InPieces xs i

-- the description names byte i
abbrev pub Named : Description → ℕ → Type 0
Named d i = InPieces (pieces d) i

-- ---- a description agrees with a body: every piece stands there, byte for byte
abbrev pub AllStand : List ℕ → List Piece → Type 0
AllStand b xs = Each (λ (x : Piece). Holds b x.place (render x.fields)) xs

abbrev pub Agrees : List ℕ → Description → Type 0
Agrees b d = AllStand b (pieces d)

-- ---- the layout of a radial
-- every number is small enough for its field
abbrev pub AllFit : List Piece → Type 0
AllFit xs = Each (λ (x : Piece). Fit x.fields) xs

-- x is one of the numbers listed; x is not one of them
abbrev pub Member : ℕ → List ℕ → Type 0
Member x [] = ⊥
Member x (y ∷ ys) = (x ≡ y) ⊎ Member x ys

abbrev pub Absent : ℕ → List ℕ → Type 0
Absent x ys = Each (λ (y : ℕ). x ≢ y) ys

-- where a block ends, the byte after its last
abbrev pub block_end : Block → ℕ
block_end k = k.place + block_size k

abbrev pub moment_end : Moment → ℕ
moment_end m = m.place + moment_size m

-- a constant block that begins at `from` or later, has at least `least` bytes, and ends within the radial length
pub record BlockLies (from least size : ℕ) (k : Block) : Type 0 where
  pub after : from ≤ k.place
  pub enough : least ≤ block_size k
  pub within : block_end k ≤ size

-- a moment that begins at `from` or later: a permitted name, none of those `seen`, its gates and word size in range, its end within the
-- radial length
pub record MomentLies (from size : ℕ) (seen : List ℕ) (m : Moment) : Type 0 where
  pub after : from ≤ m.place
  pub known : Member m.name permitted
  pub once : Absent m.name seen
  pub few : gates m ≤ most_gates
  pub words : Member m.word word_sizes
  pub within : moment_end m ≤ size

-- "each next one at or after the end of the one before", "no name twice"
abbrev pub MomentsLie : ℕ → ℕ → List ℕ → List Moment → Type 0
MomentsLie from size seen [] = Unit {0}
MomentsLie from size seen (m ∷ ms) = MomentLies from size seen m × MomentsLie (moment_end m) size (seen ++ (m.name ∷ [])) ms

-- a radial that may lie in a body of n bytes: "all end within the radial length, which is itself at most the body's length. Gaps may
-- occur."
pub record Layout (n : ℕ) (d : Description) : Type 0 where
  pub fit : AllFit (pieces d)
  pub least : header_size ≤ d.size
  pub most : d.size ≤ n
  pub some : fewest_blocks ≤ block_count d
  pub few : block_count d ≤ most_blocks
  pub volume : BlockLies (first_place (block_count d)) volume_least d.size d.volume_block
  pub elevation : BlockLies (block_end d.volume_block) elevation_least d.size d.elevation_block
  pub radial : BlockLies (block_end d.elevation_block) radial_least d.size d.radial_block
  pub moments_lie : MomentsLie (block_end d.radial_block) d.size [] d.moments
