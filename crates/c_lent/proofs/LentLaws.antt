-- A promise of the library, told by `tell`, is the promise to C. Assumes nothing.
use mathlib.Core.Path.{◌≡◌, ap, ◌∙◌}
use Rattle.wire.specs.Answers.{Answer, Outcome, Promise}
use Rattle.c_lent.specs.Face.{Leaves}

pub leaves_of : {R S O A : Type 0} (tell : S → Answer A) (face : Answer A → R) (right : Outcome O A) (s : S) (r : R) (after : O)
    → Promise tell right s after
    → r ≡ face (tell s) → Leaves face right r after
leaves_of tell face right s r after p e = record { answers = e ∙ ap face p.answers; leaves = p.leaves }
