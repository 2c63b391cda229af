use Prim.Native.Nat.{◌+◌, ◌*◌}
use native.Mathlib.Omega.{arith}
use mathlib.Core.Path.{sym, ◌∙◌}
use Rattle.wire.specs.Numbers.{Octets}
use Rattle.map_spec.specs.Map.{zone_size}
use Rattle.compare.specs.Steps.{Same}
use Rattle.compare.proofs.SameBytes.{same_more}
use Rattle.compare.proofs.same_bytes.Goals as goal

pub loop-turn-init : goal.loop-turn-init
loop-turn-init c = λ k h. absurd (omega arith)

pub returns-then-four_at : goal.returns-then-four_at
returns-then-four_at c = (omega (arith, c.min.ensures), omega (arith, c.min.ensures), c.loop-turn.invariant)

pub returns-then-four_at-2 : goal.returns-then-four_at-2
returns-then-four_at-2 c =
    let old = c.args.old.now in
    let new = c.args.new.now in
    let old_fits : Octets old = λ i. (c.type_inv.old i).fits in
    let new_fits : Octets new = λ i. (c.type_inv.new i).fits in
    let at = 2 * zone_size * c.loop-turn.turn in
    let four : Same (at + zone_size) old new =
    same_more old new old_fits new_fits at (omega (arith, c.min.ensures)) (omega (arith, c.min.ensures))
    (sym c.four_at.ensures ∙ c.if-four_at.false ∙ c.four_at-in-loop-turn.ensures) c.loop-turn.invariant in
    (omega (arith, c.min.ensures), omega (arith, c.min.ensures), four)

pub loop-turn-preserved : goal.loop-turn-preserved
loop-turn-preserved c =
    let old = c.args.old.now in
    let new = c.args.new.now in
    let old_fits : Octets old = λ i. (c.type_inv.old i).fits in
    let new_fits : Octets new = λ i. (c.type_inv.new i).fits in
    let at = 2 * zone_size * c.loop-turn.turn in
    let four : Same (at + zone_size) old new =
    same_more old new old_fits new_fits at (omega (arith, c.min.ensures)) (omega (arith, c.min.ensures))
    (sym c.four_at.ensures ∙ c.if-four_at.false ∙ c.four_at-in-loop-turn.ensures) c.loop-turn.invariant in
    let eight : Same (at + zone_size + zone_size) old new =
    same_more old new old_fits new_fits (at + zone_size) (omega (arith, c.min.ensures)) (omega (arith, c.min.ensures))
    (sym c.four_at-in-loop-turn-2.ensures ∙ c.if-four_at-2.false ∙ c.four_at-in-loop-turn-3.ensures) four in
    λ k h. eight k (omega (arith, h))

pub returns : goal.returns
returns c =
    let all : Same _ c.args.old.now c.args.new.now = c.loop-turn.invariant in
    (omega (arith, c.min.ensures), omega (arith, c.min.ensures), λ k h. all k (omega (arith, h, c.loop-turn.auto.turn-end, c.loop-turn-test.false)))
