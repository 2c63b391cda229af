-- A set's answer and its body do not depend on what the output held before. Assumes nothing.
use Prim.Native.Nat.{ℕ}
use mathlib.Core.Path.{◌≡◌, refl, sym, ap, ◌∙◌}
use mathlib.Core.List.{List, []}
use lib.ListN.{length, take, drop}
use lib.Seq.{take_at}
use Rattle.wire.specs.Answers.{Answer, refused, given, rule}
use Rattle.wire.specs.Writing.{filled}
use Rattle.wire.proofs.CheckLaws.{never}
use Rattle.wire.proofs.AnswerLaws.{outcome_answer, outcome_given}
use Rattle.set_spec.specs.Segment.{Segment}
use Rattle.set_spec.specs.Walk.{body_of, end_checks, SetSays, says, finish, walk, set_of}
use Rattle.set_spec.specs.Theorems.{AnswerApartFromOutput}

-- at the end of the walk: the answer by the end's checks, whatever the output holds
pub finish-answer : (gs : List Segment) (out : List ℕ) → (finish (given gs) out).answer ≡ rule (end_checks gs (length out)) (says gs)
finish-answer gs out = outcome_answer (end_checks gs (length out)) out (says gs) (filled (body_of gs) out)

same_answer : (a : Answer (List Segment)) (out out' : List ℕ) → length out ≡ length out' → (finish a out).answer ≡ (finish a out').answer
same_answer (refused n) out out' l = refl
same_answer (given gs) out out' l = finish-answer gs out ∙ ap (λ (n : ℕ). rule (end_checks gs n) (says gs)) l ∙ sym (finish-answer gs out')

abbrev body_is : Answer (List Segment) → List ℕ
body_is (refused n) = []
body_is (given gs) = body_of gs

body_bytes : (a : Answer (List Segment)) (out : List ℕ) (s : SetSays) → (finish a out).answer ≡ given s
    → take s.long.0 (finish a out).output ≡ body_is a
body_bytes (refused n) out s e = never (cc e)
body_bytes (given gs) out s e =
    let p = outcome_given (end_checks gs (length out)) out (says gs) (filled (body_of gs) out) s e in
    ap (λ (x : List ℕ). take s.long.0 x) p.2
    ∙ take_at (body_of gs) (drop (length (body_of gs)) out) s.long.0 (ap (λ (x : SetSays). x.long.0) p.1)

pub answer_apart_from_output : AnswerApartFromOutput
unfolding set_of
answer_apart_from_output = λ frames out out' l.
    let a = walk [] frames in
    let e = same_answer a out out' l in
    (e, λ s g. body_bytes a out s g ∙ sym (body_bytes a out' s (sym e ∙ g)))
