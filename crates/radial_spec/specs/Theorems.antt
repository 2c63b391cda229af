-- Demand 3: a radial is accepted exactly if a description has its layout in the body and agrees with it; there is only one; and bytes
-- that it does not name change no answer. Also what the lookups find.
use Rattle.std.specs.Prelude.{ℕ, ◌+◌, ◌*◌, ◌≤◌, ◌<◌, ◌≡◌, ◌⊎◌, ◌≢◌, ◌↔◌, length, get_or, drop}
use mathlib.Core.List.{List, [], ◌∷◌, map, Memᴰ}
use Rattle.wire.specs.Numbers.{num, Octets}
use Rattle.wire.specs.Tables.{field, render}
use Rattle.wire.specs.Answers.{refused, given}
use Rattle.radial_spec.specs.Description.{header_size, first_pointer, moment_head, Moment, Description, block_count, gates, word_bytes}
use Rattle.radial_spec.specs.Description.{Named, Agrees, Layout}
use Rattle.radial_spec.specs.Refusal.{radial_of}
use Rattle.radial_spec.specs.Lookups.{moment_of, coded_of, Lying, blocks, lies, block_of, Part, gates_in, gates_of, bytes_in}

-- a body of bytes is accepted with d exactly if d has the layout of a radial in it and agrees with it
abbrev pub Exactly : Type 0
Exactly = (b : List ℕ) (d : Description) → Octets b → (radial_of b ≡ given d) ↔ (Layout (length b) d × Agrees b d)

-- there is only one such description
abbrev pub Unique : Type 0
Unique = (b : List ℕ) (d d' : Description) → Layout (length b) d × Agrees b d → Layout (length b) d' × Agrees b d' → d ≡ d'

-- ---- the bytes that a description names
-- byte i belongs to a block
abbrev pub InBlocks : List Lying → ℕ → Type 0
InBlocks [] i = ⊥
InBlocks (k ∷ ks) i = ((k.place ≤ i) × (i < k.place + k.size)) ⊎ InBlocks ks i

-- "header bytes 0-31 but not 17, the used pointers, and every byte of every block"
abbrev pub Listed : Description → ℕ → Type 0
Listed d i = ((i ≤ 31) × (i ≢ 17)) ⊎ (((first_pointer ≤ i) × (i < first_pointer + 4 * block_count d)) ⊎ InBlocks (blocks d) i)

-- exactly these bytes are named, "nothing else"
abbrev pub NamedExactly : Type 0
NamedExactly = (d : Description) (i : ℕ) → Named d i ↔ Listed d i

-- "Nothing else: not spare 17, unused slots, gaps or bytes past the radial length."
pub record UnnamedIn (d : Description) : Type 0 where
  pub spare : Named d 17 → ⊥
  pub slots : (i : ℕ) → first_pointer + 4 * block_count d ≤ i → i < header_size → Named d i → ⊥
  pub gaps : (i : ℕ) → header_size ≤ i → (InBlocks (blocks d) i → ⊥) → Named d i → ⊥
  pub past : (i : ℕ) → d.size ≤ i → Named d i → ⊥

abbrev pub UnnamedPlaces : Type 0
UnnamedPlaces = (b : List ℕ) (d : Description) → Octets b → radial_of b ≡ given d → UnnamedIn d

-- ---- what is not named changes no answer
-- all bytes of a block
abbrev pub whole_block : Lying → Part
whole_block k = record { place = k.place; size = k.size }

-- two bodies give the same answers, and have the same bytes in every block, "kept whole"
pub record SameAnswers (b b' : List ℕ) : Type 0 where
  pub radial : radial_of b' ≡ radial_of b
  pub moment : (name : ℕ) → moment_of b' name ≡ moment_of b name
  pub block : (k : ℕ) → block_of b' k ≡ block_of b k
  pub gates : (name : ℕ) → gates_of b' name ≡ gates_of b name
  pub codes : (name : ℕ) (p : Part) → gates_of b name ≡ given p → bytes_in b' p ≡ bytes_in b p
  pub code : (name gate : ℕ) → coded_of b' name gate ≡ coded_of b name gate
  pub whole : (k : ℕ) (l : Lying) → block_of b k ≡ given (lies l) → bytes_in b' (whole_block l) ≡ bytes_in b (whole_block l)

-- this holds for two bodies of one length that are equal at every byte that d names
abbrev pub Unnamed : Type 0
Unnamed = (b b' : List ℕ) (d : Description) → Octets b → length b' ≡ length b → radial_of b ≡ given d
    → ((i : ℕ) → Named d i → get_or b' i 0 ≡ get_or b i 0) → SameAnswers b b'

-- ---- a moment by its name
-- in an accepted body, a moment is found by a name exactly if the description has a moment with that name
abbrev pub FoundByName : Type 0
FoundByName = (b : List ℕ) (d : Description) (name : ℕ) (m : Moment) → radial_of b ≡ given d
    → (moment_of b name ≡ given m) ↔ (Memᴰ m d.moments × (m.name ≡ name))

-- and the answer is 21 exactly if it has none
abbrev pub NoneNamed : Type 0
NoneNamed = (b : List ℕ) (d : Description) (name : ℕ) → radial_of b ≡ given d
    → (moment_of b name ≡ refused 21) ↔ ((m : Moment) → Memᴰ m d.moments → m.name ≢ name)

-- ---- a moment's gates
-- "The 8- and 16-bit gates share one fact over the word width": code i of a moment is the number in its word of the block
abbrev pub CodeAt : Type 0
CodeAt = (b : List ℕ) (name : ℕ) (m : Moment) (i : ℕ) → moment_of b name ≡ given m → i < gates m
    → get_or m.codes i 0 ≡ num (word_bytes m) (drop m.place b) (moment_head + i * word_bytes m)

-- "holding exactly that moment's gate words": the part of the body is inside it, and is the moment's codes, one word each
abbrev pub GateWords : Type 0
GateWords = (b : List ℕ) (name : ℕ) (m : Moment) → Octets b → moment_of b name ≡ given m
    → ((gates_in m).place + (gates_in m).size ≤ length b) × (bytes_in b (gates_in m) ≡ render (map (field (word_bytes m)) m.codes))
