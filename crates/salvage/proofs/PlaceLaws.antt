-- What a buffer's walk says of frames that follow one another. Assumes nothing.
use Prim.Native.Nat.{ℕ, ◌+◌, ◌-◌, ◌≤◌, ◌<◌}
use mathlib.Core.Path.{◌≡◌, refl, sym, ap, ◌∙◌}
use mathlib.Core.Bool.{Bool, true, false}
use mathlib.Core.List.{List, [], ◌∷◌, ◌++◌, append_assoc, append-nil, flatten}
use native.Mathlib.Omega.{arith}
use lib.ListN.{length, take, drop, length-append, length-drop}
use lib.Seq.{drop-drop, take-add}
use lib.Dec.{ltb}
use borrow.Author.Tests.{ltb-true, ltb-false}
use Rattle.wire.proofs.ListLaws.{flatten_more}
use Rattle.wire.proofs.CheckLaws.{never}
use Rattle.frame.specs.Session.{whole_long}
use Rattle.salvage_spec.specs.Walk.{stands, whole, Step, kept, Run, run, steps_of, frames_of, runs_of}
use Rattle.salvage_spec.proofs.WalkLaws.{stands-long, whole_length}
use Rattle.salvage_spec.proofs.RunLaws.{run_none}
use Rattle.salvage_find.specs.Steps.{FoundFrom}
use Rattle.salvage_find.proofs.PlaceLaws.{steps_frame, steps_over}
use Rattle.salvage.specs.declared.Stretch.{Stretch}
use Rattle.salvage.specs.Steps.{Frames, StretchFrom}

-- ---- frames that follow one another
-- a run ends where a frame begins, and at the end
pub runs_closed : (b : List ℕ) (first at : ℕ) → (at < length b → stands (drop at b) ≡ true) → at ≤ length b
    → runs_of first at (steps_of (drop at b)) ≡ run first at ++ runs_of at at (steps_of (drop at b))
unfolding runs_of
runs_closed b first at stood h = go (ltb at (length b)) refl
  where
    before : (x : List Run) → x ≡ run at at ++ x
    before x = sym (ap (λ (rs : List Run). rs ++ x) (run_none at))

    go : (t : Bool) → ltb at (length b) ≡ t → runs_of first at (steps_of (drop at b)) ≡ run first at ++ runs_of at at (steps_of (drop at b))
    go true e =
        let q = steps_frame b at (stood (ltb-true at (length b) e)) _ refl in
        ap (λ (steps : List Step). runs_of first at steps) q
        ∙ ap (λ (x : List Run). run first at ++ x) (before _ ∙ sym (ap (λ (steps : List Step). runs_of at at steps) q))
    go false e =
        let g = ltb-false at (length b) e in
        let q = steps_over b at (omega arith) in
        ap (λ (steps : List Step). runs_of first at steps) q
        ∙ sym (append-nil (run first at))
        ∙ ap (λ (x : List Run). run first at ++ x) (sym (run_none at) ∙ sym (ap (λ (steps : List Step). runs_of at at steps) q))

pub frames_none : {b : List ℕ} {at : ℕ} → at ≤ length b → Frames b at at 0
unfolding flatten
frames_none {b} {at} h = record {
  forward = omega arith;
  within = h;
  each = [];
  counted = refl;
  bytes = let e : at - at ≡ 0 = omega arith in sym (ap (λ (n : ℕ). take n (drop at b)) e);
  kept = refl;
  none = refl;
}

-- one more that passes
module _ {b : List ℕ} {from at count : ℕ} (f : Frames b from at count) (e : stands (drop at b) ≡ true) {long : ℕ}
    (is : long ≡ whole_long (drop at b)) where
  one-long : length (whole (drop at b)) ≡ long
  one-long = whole_length (drop at b) e ∙ sym is

  pub frame_inside : at + long ≤ length b
  frame_inside =
      let s = stands-long (drop at b) e in
      let w = f.within in
      let d : length (drop at b) ≡ length b - at = length-drop at b in
      omega (arith, s.inside)

  steps_next : steps_of (drop at b) ≡ kept (whole (drop at b)) ∷ steps_of (drop (at + long) b)
  steps_next = steps_frame b at e (at + long) (ap (λ (n : ℕ). at + n) is)

  pub frames_more : Frames b from (at + long) (count + 1)
  unfolding frames_of runs_of
  frames_more =
      let s = stands-long (drop at b) e in record {
        forward = omega (arith, f.forward, s.least);
        within = frame_inside;
        each = f.each ++ (whole (drop at b) ∷ []);
        counted = ap (λ (n : ℕ). n + 1) f.counted ∙ sym (length-append f.each (whole (drop at b) ∷ []));
        bytes = flatten_more f.each (whole (drop at b)) ∙ ap (λ (l : List ℕ). l ++ whole (drop at b)) f.bytes ∙ joined;
        kept =
            f.kept
            ∙ ap (λ (x : List (List ℕ)). f.each ++ x) (ap frames_of steps_next)
            ∙ sym (append_assoc f.each (whole (drop at b) ∷ []) (frames_of (steps_of (drop (at + long) b))));
        none =
            f.none
            ∙ ap (λ (steps : List Step). runs_of at at steps) steps_next
            ∙ ap (λ (rs : List Run). rs ++ runs_of (at + length (whole (drop at b))) (at + length (whole (drop at b)))
            (steps_of (drop (at + long) b))) (run_none at)
            ∙ ap (λ (n : ℕ). runs_of (at + n) (at + n) (steps_of (drop (at + long) b))) one-long;
      }
    where
      joined : take (at - from) (drop from b) ++ whole (drop at b) ≡ take (at + long - from) (drop from b)
      joined =
          let g = f.forward in
          let there : drop (at - from) (drop from b) ≡ drop at b = let q : from + (at - from) ≡ at = omega arith in
          drop-drop (at - from) from b ∙ ap (λ (k : ℕ). drop k b) q in
          let q : at - from + long ≡ at + long - from = omega arith in
          ap (λ (x : List ℕ). take (at - from) (drop from b) ++ x) (ap (λ (n : ℕ). take n (drop at b)) (sym is)
          ∙ ap (λ (x : List ℕ). take long x) (sym there))
          ∙ sym (take-add (at - from) long (drop from b))
          ∙ ap (λ (n : ℕ). take n (drop from b)) q

pub stretch_ends : {b : List ℕ} {from to count : ℕ} → Frames b from to count → stands (drop to b) ≡ false → stands (drop from b) ≡ true
    → from < to
stretch_ends {b} {from} {to} f e s = go (ltb from to) refl
  where
    go : (t : Bool) → ltb from to ≡ t → from < to
    go true q = ltb-true from to q
    go false q =
        let h = ltb-false from to q in
        let g = f.forward in
        let same : from ≡ to = omega arith in
        never (cc (sym e ∙ ap (λ (k : ℕ). stands (drop k b)) (sym same) ∙ s))

-- a run, and the frames after it, take bytes
pub goes_forward : {b : List ℕ} {at place : ℕ} {r : Stretch} → at < length b → FoundFrom b at place → StretchFrom b place r
    → at < r.next
goes_forward {at = at} {place} {r} more f s = go (ltb at place) refl
  where
    go : (t : Bool) → ltb at place ≡ t → at < r.next
    go true e = let h = ltb-true at place e in let w = s.frames.forward in omega arith
    go false e =
        let h = ltb-false at place e in
        let w = f.before.forward in
        let same : place ≡ at = omega arith in
        let p = s.some (f.stood (omega arith)) in
        omega arith
