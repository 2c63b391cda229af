-- Parts added to an output in order while there is room. Parts without room are only counted.
use Rattle.std.specs.Prelude.{ℕ, ◌+◌, List, [], ◌∷◌, ◌++◌, leb, length, take, drop}
use Rattle.wire.specs.Checks.{pick}

-- the contents of an output that held `out`, after `part` was stored at a place
abbrev pub laid : List ℕ → ℕ → List ℕ → List ℕ
laid out at part = take at out ++ (part ++ drop (length part) (drop at out))

-- the total length of the parts so far, which may exceed the output's, and the output
pub record Sheet : Type 0 where
  pub long : ℕ
  pub out : List ℕ

abbrev pub sheet : ℕ → List ℕ → Sheet
sheet long out = record { long = long; out = out }

-- adds a part: it is stored where there is room for it, and always counted
unfoldable pub lay : List ℕ → Sheet → Sheet
lay part s =
    sheet (s.long + length part) (pick (leb (s.long + length part) (length s.out)) (laid s.out s.long part) s.out)

abbrev pub onto : List (List ℕ) → Sheet → Sheet
onto [] s = s
onto (part ∷ parts) s = onto parts (lay part s)
