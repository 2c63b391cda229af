-- The pieces of a description as bytes and as what these spell. Assumes nothing.
use Prim.Native.Nat.{ℕ, ◌+◌, ◌≤◌}
use mathlib.Core.List.{List, [], ◌∷◌}
use lib.ListN.{length}
use Rattle.wire.specs.Properties.{Each}
use Rattle.wire.specs.Numbers.{Octets}
use Rattle.wire.specs.Tables.{total, Spells}
use Rattle.wire.proofs.TableLaws.{spells, spelt, spells_fit}
use Rattle.radial_spec.specs.Description.{Piece, AllStand, AllFit}

-- the body holds the fields of every piece; every piece ends within n bytes
abbrev pub AllSpell : List ℕ → List Piece → Type 0
AllSpell b xs = Each (λ (x : Piece). Spells b x.place x.fields) xs

abbrev pub AllWithin : ℕ → List Piece → Type 0
AllWithin n xs = Each (λ (x : Piece). x.place + total x.fields ≤ n) xs

pub all_spell : (b : List ℕ) (xs : List Piece) → AllFit xs → AllStand b xs → AllSpell b xs
all_spell b [] fit stand = tt
all_spell b (x ∷ xs) fit stand = (spells x.fields b x.place fit.0 stand.0, all_spell b xs fit.1 stand.1)

pub all_stand : (b : List ℕ) (xs : List Piece) → Octets b → AllWithin (length b) xs → AllSpell b xs → AllStand b xs
all_stand b [] o within s = tt
all_stand b (x ∷ xs) o within s = (spelt x.fields b x.place o within.0 s.0, all_stand b xs o within.1 s.1)

pub all_fit : (b : List ℕ) (xs : List Piece) → Octets b → AllSpell b xs → AllFit xs
all_fit b [] o s = tt
all_fit b (x ∷ xs) o s = (spells_fit x.fields b x.place o s.0, all_fit b xs o s.1)
