-- The numbers by which a turn of the walk refuses. Assumes nothing.
use Prim.Native.Nat.{ℕ, ◌<◌}
use mathlib.Core.Path.{◌≡◌, refl, sym, ap, subst, ◌∙◌}
use mathlib.Core.Logic.{◌⊎◌, inl, inr, ⊎_elim}
use mathlib.Core.Bool.{Bool, true, false}
use mathlib.Core.Option.{Option, none, some}
use mathlib.Core.List.Memᴰ
use mathlib.Core.List.{List, [], ◌∷◌, ◌++◌, flatten}
use native.Mathlib.Omega.{arith}
use lib.Dec.{ltb}
use lib.ListN.{length}
use borrow.Author.Tests.{ltb-true, le-ltb}
use Rattle.wire.specs.Checks.{both, Check, check, first, decide}
use Rattle.wire.specs.Answers.{refused}
use Rattle.wire.proofs.CheckLaws.{never, both_true, decide-none, decide-some, numbers_pass, first_passes, first-append-none, first-append-some}
use Rattle.frame.specs.Session.{head_size, kind_unknown, body_too_long, head_cut, body_cut, body_in, frame_checks, whole_long}
use Rattle.frame.specs.Walk.{turns}
use Rattle.frame.proofs.WalkLaws.{walk_refused}
use Rattle.frame.proofs.FrontLaws.{frames_take}
use Rattle.header_rule.proofs.RuleLaws.{by_form}
use Rattle.header.specs.Header.{header_size, stored_in, header_in, later_checks, header_checks}
use Rattle.set_spec.specs.Segment.{Segment, segment_in, not_data}
use Rattle.set_spec.specs.Walk.{met_checks, turn_checks, each_frame, walk}
use Rattle.set_spec.specs.Theorems.{WholeFrames}
use Rattle.set_spec.proofs.FrameLists.{front_walk}

module _ (gs : List Segment) (rest : List ℕ) where
  -- what a turn asks after its frame's checks
  abbrev later : List Check
  later = (check 9 (not_data rest) ∷ header_checks (body_in rest)) ++ met_checks gs (segment_in rest).header

  abbrev between : ℕ → Bool
  between n = both (ltb 1 n) (ltb n 12)

  later_pass : numbers_pass between later ≡ true
  later_pass =
      let s = stored_in (body_in rest) in
      by_form (λ (ks : List Check). numbers_pass between ((check 9 (not_data rest) ∷ check 4 (ltb (length (body_in rest)) header_size)
      ∷ ks ++ later_checks (header_in (body_in rest))) ++ met_checks gs (segment_in rest).header) ≡ true) s.size s.kind s.segments
      s.number (length (body_in rest)) refl refl refl

  -- the number is of the frame's checks, or it is 2 to 11
  turn_number : (n : ℕ) → first (turn_checks gs rest) ≡ some n → (first (frame_checks rest) ≡ some n) ⊎ ((1 < n) × (n < 12))
  turn_number n e = go (first (frame_checks rest)) refl
    where
      go : (o : Option ℕ) → first (frame_checks rest) ≡ o → (first (frame_checks rest) ≡ some n) ⊎ ((1 < n) × (n < 12))
      go none p =
          let t = first_passes between later n later_pass (sym (first-append-none (frame_checks rest) later p) ∙ e) in
          let b = both_true (ltb 1 n) (ltb n 12) t in
          inr (ltb-true 1 n b.0, ltb-true n 12 b.1)
      go (some m) p =
          let same : m ≡ n = cc (sym (first-append-some (frame_checks rest) later m p) ∙ e) in
          inl (subst (λ (k : ℕ). first (frame_checks rest) ≡ some k) same p)

  turn_numbers : (n : ℕ) → first (turn_checks gs rest) ≡ some n → (0 < n) × (n < 12)
  turn_numbers n e = ⊎_elim of-frame (λ b. (omega (arith, b.0), b.1)) (turn_number n e)
    where
      of-frame : first (frame_checks rest) ≡ some n → (0 < n) × (n < 12)
      of-frame p =
          let b = both_true (ltb 0 n) (ltb n 12) (first_passes (λ k. both (ltb 0 k) (ltb k 12)) (frame_checks rest) n refl p) in
          (ltb-true 0 n b.0, ltb-true n 12 b.1)

-- ---- the walk refuses with numbers from 1 to 11
pub walk-numbers : (frames : List ℕ) (n : ℕ) → walk [] frames ≡ refused n → (0 < n) × (n < 12)
walk-numbers frames n e = walk_refused each_frame frames_take (λ m. (0 < m) × (m < 12)) turn_numbers [] frames n e

-- ---- and where frames are whole, so that none is cut off, not with 1
whole-first : (a b c d : Bool) (n : ℕ) → a ≡ false → d ≡ false
    → first {N = ℕ} (check 1 a ∷ check 2 b ∷ check 3 c ∷ check 1 d ∷ []) ≡ some n
    → 1 < n
whole-first true b c d n p q e = never (cc p)
whole-first false true c d n p q e = let z : ◌≡◌ {A = ℕ} 2 n = cc e in omega (arith, z)
whole-first false false true d n p q e = let z : ◌≡◌ {A = ℕ} 3 n = cc e in omega (arith, z)
whole-first false false false true n p q e = never (cc q)
whole-first false false false false n p q e = never (cc e)

whole_turn : (gs : List Segment) (f : List ℕ) (n : ℕ) → length f ≡ whole_long f → first (turn_checks gs f) ≡ some n → (1 < n) × (n < 12)
whole_turn gs f n exact e = ⊎_elim
    (λ p. (
      whole-first (head_cut f) (kind_unknown f) (body_too_long f) (body_cut f) n (le-ltb (length f) head_size (omega arith))
          (le-ltb (length f) (whole_long f) (omega arith)) p,
      (turn_numbers gs f n e).1,
    ))
    (λ b. b) (turn_number gs f n e)

pub whole-walk : (each : List (List ℕ)) (gs : List Segment) (n : ℕ) → WholeFrames each → walk gs (flatten each) ≡ refused n
    → (1 < n) × (n < 12)
unfolding flatten turns
whole-walk [] gs n w e = never (cc e)
whole-walk (f ∷ fs) gs n w e =
    let exact = w f (Memᴰ.head refl) in
    go (first (turn_checks gs f)) refl (sym (front_walk gs f (flatten fs) exact) ∙ e) exact
    (λ q. whole-walk fs (gs ++ (segment_in f ∷ [])) n (λ x m. w x (Memᴰ.tail m)) q)
  where
    go : (o : Option ℕ) → first (turn_checks gs f) ≡ o
        → decide (turn_checks gs f) refused (walk (gs ++ (segment_in f ∷ [])) (flatten fs)) ≡ refused n
        → length f ≡ whole_long f
        → (walk (gs ++ (segment_in f ∷ [])) (flatten fs) ≡ refused n → (1 < n) × (n < 12))
        → (1 < n) × (n < 12)
    go none p q exact later = later (sym (decide-none (turn_checks gs f) refused _ p) ∙ q)
    go (some m) p q exact later =
        let same : m ≡ n = cc (sym (decide-some (turn_checks gs f) refused _ m p) ∙ q) in
        whole_turn gs f n exact (p ∙ ap some same)
