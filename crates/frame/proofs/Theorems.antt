-- The proof of what is stated of the frame's rules. Assumes nothing.
use Prim.Native.Nat.{ℕ, ◌≤◌}
use mathlib.Core.Path.{◌≡◌, refl, subst}
use mathlib.Core.Bool.{Bool, true, false}
use mathlib.Core.List.{List}
use lib.Dec.{eqb}
use lib.ListN.{length, drop}
use borrow.Author.Tests.{ltb-false}
use Rattle.wire.specs.Tables.{render, Holds}
use Rattle.wire.specs.Checks.{pick}
use Rattle.wire.specs.Answers.{given, rule}
use Rattle.wire.proofs.CheckLaws.{never, all_hold}
use Rattle.wire.proofs.AnswerLaws.{rule_given}
use Rattle.wire.proofs.NumberLaws.{octets_drop}
use Rattle.wire.proofs.TableLaws.{spelt}
use Rattle.frame.specs.declared.Frame.{Frame}
use Rattle.frame.specs.Session.{head_table, head_size, kind_in, second_in, size_in, frame_checks, end, frame, frame_in, frame_at}
use Rattle.frame.specs.Theorems.{HeadStands}

pub head-stands : HeadStands
unfolding frame_at
head-stands stream place f o e = go (eqb place (length stream)) e
  where
    rest : List ℕ
    rest = drop place stream

    go : (t : Bool) → pick t (given end) (rule (frame_checks rest) (frame (frame_in rest place))) ≡ given (frame f)
        → Holds stream place (render (head_table f.kind f.second f.size))
    go true q = never (cc q)
    go false q =
        let p = rule_given (frame_checks rest) (frame (frame_in rest place)) (frame f) q in
        let long : head_size ≤ length rest = ltb-false (length rest) head_size (all_hold (frame_checks rest) p.0).0 in
        let same : frame_in rest place ≡ f = cc p.1 in
        subst (λ (g : Frame). Holds stream place (render (head_table g.kind g.second g.size))) same
        (spelt (head_table (kind_in rest) (second_in rest) (size_in rest)) rest 0 (octets_drop place stream o) long (refl, (refl, (refl, tt))))
