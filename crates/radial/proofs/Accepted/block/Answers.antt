use Prim.Native.Nat.{◌<◌}
use native.Mathlib.Omega.{arith}
use mathlib.Core.Path.{ap, ◌∙◌}
use mathlib.Core.Option.{some}
use Rattle.wire.specs.Answers.{given}
use Rattle.radial_spec.specs.Description.{constants}
use Rattle.radial_spec.proofs.Names.{RVOL-is, RELV-is, RRAD-is}
use Rattle.radial_head.specs.declared.MomentHead.{MomentHead}
use Rattle.radial.specs.Told.{Told}
use Rattle.radial.specs.Steps.{moment_told}
use Rattle.radial.proofs.BlockLaws.{block_none, block_zero, block_volume, block_elevation, block-radial}
use Rattle.radial.proofs.BlockLaws.{block_inside, block-moment}
use Rattle.radial.proofs.Accepted.block.Goals as goal

pub returns-then-count-k : goal.returns-then-count-k
returns-then-count-k c =
    block_none _ c.args.self.accepted c.args.k (rw (← c.count-count.ensures.is) c.if-count-k.true)

pub returns-in-0 : goal.returns-in-0
returns-in-0 c = block_zero _ c.args.self.accepted c.args.k c.in-0.is

pub returns-in-1 : goal.returns-in-1
returns-in-1 c =
    ap (λ (t : Told). given (some t)) c.constant.ensures ∙ block_volume _ c.args.self.accepted c.args.k _ c.in-1.is RVOL-is

pub returns-in-2 : goal.returns-in-2
returns-in-2 c =
    ap (λ (t : Told). given (some t)) c.constant-in-2.ensures ∙ block_elevation _ c.args.self.accepted c.args.k _ c.in-2.is RELV-is

pub returns-in-3 : goal.returns-in-3
returns-in-3 c =
    ap (λ (t : Told). given (some t)) c.constant-in-3.ensures ∙ block-radial _ c.args.self.accepted c.args.k _ c.in-3.is RRAD-is

pub head_at-requires : goal.head_at-requires
head_at-requires c =
    let past_three : constants < c.args.k = omega arith in
    block_inside _ c.args.self.accepted _ _ past_three (rw (← c.count-count.ensures.is) c.if-count-k.false) c.fetch-place.ensures

pub returns-in_default : goal.returns-in_default
returns-in_default c =
    let past_three : constants < c.args.k = omega arith in
    ap (λ (t : Told). given (some t)) c.moment_block.ensures
    ∙ ap (λ (h : MomentHead). given (some (moment_told h))) c.head_at.ensures
    ∙ block-moment _ c.args.self.accepted _ _ past_three (rw (← c.count-count.ensures.is) c.if-count-k.false) c.fetch-place.ensures
