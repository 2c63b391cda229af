-- The laws of a gate's answer, from those of its moment and its code. Assumes nothing.
use Prim.Native.Nat.{ℕ}
use mathlib.Core.Path.{◌≡◌, refl, sym, ap, subst, ◌∙◌}
use mathlib.Core.Bool.{Bool, true, false}
use mathlib.Core.List.{List}
use lib.Dec.{leb}
use lib.ListN.{get_or}
use borrow.Author.Tests.{lt-leb}
use Rattle.wire.specs.Checks.{pick, some_broken}
use Rattle.wire.specs.Answers.{Answer, refused, given, onward}
use Rattle.radial_spec.specs.Description.{Moment, gates}
use Rattle.radial_spec.specs.Lookups.{Coded as CodedOf, moment_of, coded_in, coded_of}
use Rattle.wire.proofs.OnwardLaws.{shows_given}
use Rattle.radial_spec.proofs.Naming.{unnamed}
use Rattle.radial.specs.declared.Coded.{Coded}
use Rattle.radial.specs.Told.{head_of, code_shown}
use Rattle.gate_value.specs.Value.{float, Worth, value_checks, worth_by, value_of, gate_in, gate_of}
use Rattle.gate_value.specs.Theorems.{OfItsCode, Unnamed}
use Rattle.gate_value.proofs.ValueLaws.{value-refused, value-given}

pub of_its_code : OfItsCode
unfolding gate_of
of_its_code b name i m e h = simp (e, lt-leb (gates m) i h)

pub gate_unnamed : Unnamed
unfolding gate_of
gate_unnamed b b' d o l e f name gate =
    ap (λ (a : Answer Moment). onward a (λ m. gate_in m gate)) ((unnamed b b' d o l e f).moment name)

-- ---- the gate's answer by its code
abbrev valued : Coded → Answer Worth
valued c = value_of c.code c.head.scale_bits c.head.offset_bits

by_code : (a : Answer Moment) (i : ℕ) → onward (code_shown (onward a (λ m. coded_in m i))) valued ≡ onward a (λ m. gate_in m i)
by_code (refused n) i = refl
by_code (given m) i = go (leb (gates m) i)
  where
    go : (t : Bool) → onward (code_shown (pick t (refused 21) (given (record { code = get_or m.codes i 0; moment = m })))) valued
        ≡ pick t (refused 21) (value_of (get_or m.codes i 0) m.scale m.offset)
    go true = refl
    go false = refl

-- the two floats of every head that is handed over with a code are those of its bits
floats : (a : Answer CodedOf) (c : Coded) → given c ≡ code_shown a
    → (c.head.scale ≡ float c.head.scale_bits) × (c.head.offset ≡ float c.head.offset_bits)
floats a c e =
    let s = shows_given a (λ (g : CodedOf). record { code = g.code; head = head_of g.moment }) c e in
    subst
    (λ (x : Coded). (x.head.scale ≡ float x.head.scale_bits) × (x.head.offset ≡ float x.head.offset_bits)) (sym s.is)
    (refl, refl)

-- and by what the code's lookup answers
module _ (b : List ℕ) (name i : ℕ) where
  answered : (a : Answer Coded) → a ≡ code_shown (coded_of b name i) → onward a valued ≡ gate_of b name i
  unfolding gate_of coded_of
  answered a e = ap (λ (x : Answer Coded). onward x valued) e ∙ by_code (moment_of b name) i

  pub gate-refused : (n : ℕ) → refused n ≡ code_shown (coded_of b name i) → refused n ≡ gate_of b name i
  gate-refused n e = answered (refused n) e

  pub gate-valued : (c : Coded) → given c ≡ code_shown (coded_of b name i)
      → value_of c.code c.head.scale_bits c.head.offset_bits ≡ gate_of b name i
  gate-valued c e = answered (given c) e

  module _ (c : Coded) (e : given c ≡ code_shown (coded_of b name i)) where
    abbrev broken : Bool
    broken = some_broken (value_checks c.head.scale_bits c.head.offset_bits)

    pub gate-broken : broken ≡ true → refused 22 ≡ gate_of b name i
    gate-broken h = value-refused c.code c.head.scale_bits c.head.offset_bits h ∙ gate-valued c e

    pub gate-worth : broken ≡ false → given (worth_by c.code c.head.scale c.head.offset) ≡ gate_of b name i
    gate-worth h =
        let f = floats (coded_of b name i) c e in
        value-given c.code c.head.scale_bits c.head.offset_bits c.head.scale c.head.offset h f.0 f.1
        ∙ gate-valued c e
