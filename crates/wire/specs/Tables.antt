-- A table of fields, as the interface document prints one: how wide each is and what it holds. Readers and writers share the tables.
use Rattle.std.specs.Prelude.{ℕ, ◌+◌, ◌^◌, ◌<◌, ◌≡◌, List, [], ◌∷◌, ◌++◌, map, length, take, drop}
use Rattle.wire.specs.Properties.{Each}
use Rattle.wire.specs.Numbers.{num, be}

-- a field: its width in bytes, and its value
pub record Field : Type 0 where
  pub wide : ℕ
  pub value : ℕ

abbrev pub field : ℕ → ℕ → Field
field w v = record { wide = w; value = v }

-- the bytes of a table, one field after the other
abbrev pub render : List Field → List ℕ
render [] = []
render (f ∷ fs) = be f.wide f.value ++ render fs

-- numbers of one width, one after the other
abbrev pub run : ℕ → List ℕ → List ℕ
run w list = render (map (field w) list)

-- how many bytes a table takes
abbrev pub total : List Field → ℕ
total [] = 0
total (f ∷ fs) = f.wide + total fs

-- every value is small enough for its width
abbrev pub Fit : List Field → Type 0
Fit fs = Each (λ (f : Field). f.value < 256 ^ f.wide) fs

-- the bytes of b from p on, read as numbers, are the values of the table
abbrev pub Spells : List ℕ → ℕ → List Field → Type 0
Spells b p [] = Unit {0}
Spells b p (f ∷ fs) = (num f.wide b p ≡ f.value) × Spells b (p + f.wide) fs

-- the bytes l stand in b at p
abbrev pub Holds : List ℕ → ℕ → List ℕ → Type 0
Holds b p l = take (length l) (drop p b) ≡ l
