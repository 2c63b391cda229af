use mathlib.Core.Path.{ap, ◌∙◌}
use Rattle.wire.specs.Answers.{given}
use Rattle.radial.proofs.FindLaws.{head_inside}
use Rattle.radial.proofs.BlockLaws.{head-found}
use Rattle.radial.proofs.moment.Goals as goal

pub head_at-requires : goal.head_at-requires
head_at-requires c = head_inside _ _ _ (λ i. (c.type_inv.body i).fits) c.in_ok-begin.ensures

pub returns : goal.returns
returns c = ap given c.head_at.ensures ∙ head-found _ _ _ (λ i. (c.type_inv.body i).fits) c.in_ok-begin.ensures
