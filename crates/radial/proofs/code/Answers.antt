use Prim.Native.Nat.{ℕ}
use mathlib.Core.Path.{◌≡◌, ap, ◌∙◌}
use mathlib.Core.List.{List}
use Rattle.wire.specs.Numbers.{Octets}
use Rattle.wire.specs.Answers.{given}
use Rattle.wire.proofs.ExitLaws.{exits}
use Rattle.radial_spec.specs.Lookups.{moment_of}
use Rattle.radial_head.specs.declared.MomentHead.{MomentHead}
use Rattle.radial.specs.Told.{head_shown}
use Rattle.radial.specs.Steps.{head_at, place_shown}
use Rattle.radial.proofs.FindLaws.{head_inside}
use Rattle.radial.proofs.BlockLaws.{head-found, head-refused}
use Rattle.radial.proofs.CodeLaws.{code-refused, gates_there, code-given}
use Rattle.radial.proofs.code.Goals as goal

-- the head that was read where the moment begins is the moment's
headed : (b : List ℕ) (name p : ℕ) (h : MomentHead) → Octets b → given p ≡ place_shown (moment_of b name) → h ≡ head_at b p
    → given h ≡ head_shown (moment_of b name)
headed b name p h octets e f = ap given f ∙ head-found b name p octets e

pub returns-in_err-begin : goal.returns-in_err-begin
returns-in_err-begin c =
    rw (exits _ _ c.from_residual.ensures)
    (code-refused _ _ _ c.args.gate (head-refused _ _ _ c.in_err-begin.ensures))

pub head_at-requires : goal.head_at-requires
head_at-requires c = head_inside _ _ _ (λ i. (c.type_inv.body i).fits) c.in_ok-begin.ensures

pub coded_by-requires : goal.coded_by-requires
coded_by-requires c =
    let octets : Octets c.args.body.now = λ i. (c.type_inv.body i).fits in
    gates_there _ _ _ octets (headed _ _ _ _ octets c.in_ok-begin.ensures c.head_at.ensures)

pub returns : goal.returns
returns c =
    c.coded_by.ensures
    ∙ code-given _ _ c.args.gate _
    (headed _ _ _ _ (λ i. (c.type_inv.body i).fits) c.in_ok-begin.ensures c.head_at.ensures)
