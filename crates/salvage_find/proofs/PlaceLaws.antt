-- What a buffer's walk says from a place on: a run of skipped bytes, a frame, the next frame kept. Assumes nothing.
use Prim.Native.Nat.{ℕ, ◌+◌, ◌-◌, ◌≤◌, ◌<◌}
use mathlib.Core.Path.{◌≡◌, refl, sym, ap, subst, ◌∙◌}
use mathlib.Core.Bool.{Bool, true, false}
use mathlib.Core.List.{List, [], ◌∷◌}
use native.Mathlib.Omega.{arith}
use lib.ListN.{length, drop, length-drop, drop_of_length-le}
use lib.Seq.{drop-drop}
use lib.Dec.{ltb}
use borrow.Author.Tests.{ltb-true, ltb-false}
use Rattle.frame.specs.Session.{whole_long}
use Rattle.salvage_spec.specs.Walk.{stands, whole, kept, steps_of, frames_of, runs_of, skipped_first, next_kept}
use Rattle.salvage_spec.proofs.WalkLaws.{stands-not, steps_end, steps_kept, frames_run, runs_run, first_run}
use Rattle.salvage_spec.proofs.NextLaws.{next-at}
use Rattle.salvage_find.specs.Steps.{NoneFrom, FoundFrom}

-- ---- a run of skipped bytes
module _ {b : List ℕ} {at to : ℕ} (n : NoneFrom b at to) where
  there : drop (to - at) (drop at b) ≡ drop to b
  there = let f = n.forward in let e : at + (to - at) ≡ to = omega arith in drop-drop (to - at) at b ∙ ap (λ (k : ℕ). drop k b) e

  inside : to - at ≤ length (drop at b)
  inside = let l : length (drop at b) ≡ length b - at = length-drop at b in let w = n.within in omega arith

  none_there : (i : ℕ) → i < to - at → stands (drop i (drop at b)) ≡ false
  none_there i h = ap stands (drop-drop i at b) ∙ n.none (at + i) (omega arith) (omega arith)

  pub frames_there : frames_of (steps_of (drop at b)) ≡ frames_of (steps_of (drop to b))
  frames_there = frames_run (to - at) (drop at b) inside none_there ∙ ap (λ (l : List ℕ). frames_of (steps_of l)) there

  pub runs_there : runs_of at at (steps_of (drop at b)) ≡ runs_of at to (steps_of (drop to b))
  runs_there =
      let f = n.forward in
      let e : at + (to - at) ≡ to = omega arith in
      runs_run (to - at) (drop at b) inside none_there at at
      ∙ ap (λ (k : ℕ). runs_of at k (steps_of (drop (to - at) (drop at b)))) e
      ∙ ap (λ (l : List ℕ). runs_of at to (steps_of l)) there

  first_there : skipped_first (steps_of (drop at b)) ≡ (to - at) + skipped_first (steps_of (drop to b))
  first_there = first_run (to - at) (drop at b) inside none_there ∙ ap (λ (l : List ℕ). (to - at) + skipped_first (steps_of l)) there

-- ---- a frame, or the end
module _ (b : List ℕ) (at : ℕ) (e : stands (drop at b) ≡ true) where
  pub steps_frame : (next : ℕ) → next ≡ at + whole_long (drop at b) → steps_of (drop at b) ≡ kept (whole (drop at b)) ∷ steps_of (drop next b)
  steps_frame next q =
      steps_kept (drop at b) e
      ∙ ap (λ (l : List ℕ). kept (whole (drop at b)) ∷ steps_of l) (drop-drop (whole_long (drop at b)) at b
      ∙ ap (λ (k : ℕ). drop k b) (sym q))

pub steps_over : (b : List ℕ) (at : ℕ) → at ≡ length b → steps_of (drop at b) ≡ []
steps_over b at e = ap steps_of (drop_of_length-le b {i = at} (omega arith)) ∙ steps_end

-- the place found is where the next frame is kept
pub next-found : {b : List ℕ} {at to : ℕ} → FoundFrom b at to → to ≡ next_kept b at
unfolding skipped_first
next-found {b} {at} {to} f = go (ltb to (length b)) refl
  where
    ends : skipped_first (steps_of (drop to b)) ≡ 0 → to ≡ next_kept b at
    ends z = let s = first_there f.before in let l = f.before.forward in omega arith

    go : (t : Bool) → ltb to (length b) ≡ t → to ≡ next_kept b at
    go true e = ends (ap skipped_first (steps_frame b to (f.stood (ltb-true to (length b) e)) _ refl))
    go false e = let h = ltb-false to (length b) e in let w = f.before.within in ends (ap skipped_first (steps_over b to (omega arith)))

pub next_past : (b : List ℕ) (at : ℕ) → length b < at → at ≡ next_kept b at
unfolding skipped_first
next_past b at h =
    let z : skipped_first (steps_of (drop at b)) ≡ 0 = ap skipped_first (ap steps_of (drop_of_length-le b {i = at} (omega arith))
    ∙ steps_end) in
    omega arith

-- and the next place where a frame is kept is the one that is found
pub found-next : {b : List ℕ} {at to : ℕ} → at ≤ length b → to ≡ next_kept b at → FoundFrom b at to
found-next {b} {at} {to} h e =
    let n = next-at b at in
    subst (λ (k : ℕ). FoundFrom b at k) (sym e)
    (record {
      before = record { forward = n.from; within = n.up_to h; none = λ i f t. stands-not (drop i b) (n.none i f t) };
      stood = n.stands;
    })
