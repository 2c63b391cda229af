use Prim.Native.Nat.{ℕ, ◌≤◌, ◌<◌}
use mathlib.Core.Logic.{◌⊎◌, inl, inr}
use mathlib.Core.Path.{◌≡◌, sym, ◌∙◌}
use mathlib.Core.Bool.{true}
use borrow.Author.Rules.{rules}
use borrow.Author.Tests.{eq-eqb, ne_eqb, le-leb, lt-leb}
use Rattle.wire.specs.Numbers.{infinite}
use Rattle.wire.specs.Checks.{some_broken}
use Rattle.gate_value.specs.Value.{value_checks}
use Rattle.gate_value.proofs.FloatLaws.{tests}
use Rattle.gate_value.proofs.breaks_value.Goals as goal

-- a scale of 0 and one that is not finite break a test
broken : (scale offset : ℕ) → scale < 4294967296 → (scale ≡ 0) ⊎ ((scale ≡ 0 → ⊥) × (infinite ≤ scale))
    → true ≡ some_broken (value_checks scale offset)
broken scale offset h (inl zero) = sym (tests scale offset h ∙ simp (eq-eqb _ _ zero))
broken scale offset h (inr high) = sym (tests scale offset h ∙ simp (ne_eqb _ _ high.0, le-leb _ _ high.1))

pub returns-then-scale-ge-INFINITE : goal.returns-then-scale-ge-INFINITE
returns-then-scale-ge-INFINITE c =
    let b = broken c.args.scale c.args.offset (search rules) c.if-scale-ge-INFINITE.either in
    cc

pub returns-else-scale-ge-INFINITE : goal.returns-else-scale-ge-INFINITE
returns-else-scale-ge-INFINITE c =
    let a = c.args in
    let no = c.if-scale-ge-INFINITE.false in
    sym (tests a.scale a.offset (search rules) ∙ simp (ne_eqb _ _ no.0, lt-leb _ _ no.1))
