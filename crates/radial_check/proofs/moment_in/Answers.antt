use Prim.Native.Nat.{ℕ}
use mathlib.Core.Path.{◌≡◌, refl, sym, ap, ◌∙◌}
use Rattle.wire.specs.Answers.{refused}
use Rattle.wire.specs.Refusals.{number}
use Rattle.wire.specs.declared.refusal.Refusal.{Refusal}
use Rattle.wire.proofs.ExitLaws.{exits}
use Rattle.radial_head.specs.declared.Key.{Key}
use Rattle.radial_check.specs.Steps.{moment_in}
use Rattle.radial_check.proofs.BitLaws.{known_bit, unknown_bit}
use Rattle.radial_check.proofs.StepLaws.{unknown_name, many-gates, odd-word, past-radial, good-moment}
use Rattle.radial_check.proofs.moment_in.Goals as goal

-- what is answered by the key that was read is what is answered by the head's
read : (z p seen : ℕ) (k h : Key) → k ≡ h → moment_in z p k seen ≡ moment_in z p h seen
read z p seen k h e = ap (λ (x : Key). moment_in z p x seen) e

pub returns-in_err-bit : goal.returns-in_err-bit
returns-in_err-bit c =
    let a = c.args in
    let no = unknown_bit _ _ c.bit_of.ensures _ _ c.in_err-bit.ensures.value in
    rw (exits _ _ c.from_residual.ensures)
    (ap (λ (r : Refusal). refused (number r)) no.0
    ∙ unknown_name a.size a.place c.key_of-key.result a.seen 0 no.1 refl
    ∙ read _ _ _ _ _ c.key_of-key.ensures)

pub returns-then-key-gt-MOST_GATES : goal.returns-then-key-gt-MOST_GATES
returns-then-key-gt-MOST_GATES c =
    let a = c.args in
    let bit = known_bit _ _ c.bit_of.ensures _ _ c.in_ok-bit.ensures.value in
    many-gates a.size a.place c.key_of-key.result a.seen _ bit.0 bit.1 c.if-seen-bit-ne0.false c.if-key-gt-MOST_GATES.true
    ∙ read _ _ _ _ _ c.key_of-key.ensures

pub returns-then-not-sized : goal.returns-then-not-sized
returns-then-not-sized c =
    let a = c.args in
    let bit = known_bit _ _ c.bit_of.ensures _ _ c.in_ok-bit.ensures.value in
    odd-word a.size a.place c.key_of-key.result a.seen _ bit.0 bit.1 c.if-seen-bit-ne0.false
    c.if-key-gt-MOST_GATES.false (sym c.if-not-sized.true ∙ c.sized.ensures)
    ∙ read _ _ _ _ _ c.key_of-key.ensures

pub returns-then-size-end : goal.returns-then-size-end
returns-then-size-end c =
    let a = c.args in
    let bit = known_bit _ _ c.bit_of.ensures _ _ c.in_ok-bit.ensures.value in
    past-radial a.size a.place c.key_of-key.result a.seen _ bit.0 bit.1 c.if-seen-bit-ne0.false
    c.if-key-gt-MOST_GATES.false (sym c.if-not-sized.false ∙ c.sized.ensures) _ c.moment_size.ensures c.if-size-end.true
    ∙ read _ _ _ _ _ c.key_of-key.ensures

pub returns : goal.returns
returns c =
    let a = c.args in
    let bit = known_bit _ _ c.bit_of.ensures _ _ c.in_ok-bit.ensures.value in
    good-moment a.size a.place c.key_of-key.result a.seen _ bit.0 bit.1 c.if-seen-bit-ne0.false
    c.if-key-gt-MOST_GATES.false (sym c.if-not-sized.false ∙ c.sized.ensures) _ c.moment_size.ensures c.if-size-end.false
    ∙ read _ _ _ _ _ c.key_of-key.ensures
