-- Where a frame stands, and the walk step by step. Assumes nothing.
use Prim.Native.Nat.{ℕ, zero, suc, ◌+◌, ◌≤◌, ◌<◌}
use native.Mathlib.Nat.{add-zero, zero-add, suc-add}
use native.Mathlib.Omega.{arith}
use mathlib.Core.Path.{◌≡◌, refl, sym, ap, subst, ◌∙◌}
use mathlib.Core.Bool.{Bool, true, false, not}
use mathlib.Core.List.{List, [], ◌∷◌, ◌++◌}
use lib.Dec.{eqb}
use lib.ListN.{length, drop, replicate, length-take, take-append-drop}
use lib.Seq.{length-take-le, take_at, drop-append_seam}
use borrow.Author.Tests.{eqb-true, not-true, not-false}
use Rattle.wire.specs.Checks.{pick, Check, some_broken, AllHold}
use Rattle.wire.proofs.CheckLaws.{never, all_hold, hold_none, first-none}
use Rattle.frame.specs.Session.{head_size, data_kind, kind_in, size_in, body_in, whole_long}
use Rattle.set_spec.specs.Segment.{own_checks}
use Rattle.set_spec.specs.Whole.{Passes}
use Rattle.set_spec.proofs.FrameFacts.{framed, header-fits}
use Rattle.set_spec.proofs.PrefixLaws.{own_parts, own_same}
use Rattle.frame.proofs.FrontLaws.{front_exact, whole_same}
use Rattle.frame.proofs.WalkLaws.{TakesBytes, walked_end, walked_turn, walked_by}
use Rattle.salvage_spec.specs.Walk.{stands, whole, Step, kept, skipped, step_in, step_long, walk, steps_of, frames_of, runs_of, skipped_first}
use Rattle.salvage_spec.specs.Account.{NoneBegins}
use Rattle.salvage_spec.specs.Theorems.{least_frame, most_frame}

-- ---- a frame stands exactly if its own checks hold
pub stands_holds : (rest : List ℕ) → stands rest ≡ true → AllHold (own_checks rest)
stands_holds rest e = all_hold (own_checks rest) (first-none (own_checks rest) (not-true (some_broken (own_checks rest)) e))

pub holds_stands : (rest : List ℕ) → AllHold (own_checks rest) → stands rest ≡ true
holds_stands rest a = ap not (hold_none (own_checks rest) a)

-- `stands` is false if it is not true
pub stands-not : (rest : List ℕ) → (stands rest ≡ true → ⊥) → stands rest ≡ false
stands-not rest ne = go (stands rest) refl
  where
    go : (t : Bool) → stands rest ≡ t → stands rest ≡ false
    go true e = absurd (ne e)
    go false e = e

pub stands-none : (rest : List ℕ) → stands rest ≡ false → NoneBegins rest
stands-none rest e a = never (cc (sym (holds_stands rest a) ∙ e))

pub none-stands : (rest : List ℕ) → NoneBegins rest → stands rest ≡ false
none-stands rest n = stands-not rest (λ e. n (stands_holds rest e))

-- ---- the frame that stands: how long it is, and that it passes
pub record Standing (rest : List ℕ) : Type 0 where
  pub inside : whole_long rest ≤ length rest
  pub least : least_frame ≤ whole_long rest
  pub most : whole_long rest ≤ most_frame

pub stands-long : (rest : List ℕ) → stands rest ≡ true → Standing rest
stands-long rest e =
    let p = own_parts rest (stands_holds rest e) in
    let g = framed rest p.0 in
    let h = (header-fits (body_in rest) p.2).long in
    let l = length-take (size_in rest).0 (drop head_size rest) in
    record { inside = g.whole; least = omega (arith, h, l); most = omega (arith, g.small) }

pub whole_length : (rest : List ℕ) → stands rest ≡ true → length (whole rest) ≡ whole_long rest
whole_length rest e = length-take-le (whole_long rest) rest (stands-long rest e).inside

pub whole-joined : (rest : List ℕ) → whole rest ++ drop (whole_long rest) rest ≡ rest
whole-joined rest = take-append-drop (whole_long rest) rest

-- whether a frame of exactly its own length stands does not depend on what follows it
stands_alone : (f t : List ℕ) → length f ≡ whole_long f → stands (f ++ t) ≡ stands f
stands_alone f t exact = ap (λ (ks : List Check). not (some_broken ks)) (own_same f t exact)

pub whole-passes : (rest : List ℕ) → stands rest ≡ true → Passes (whole rest)
whole-passes rest e =
    let exact = front_exact rest (stands-long rest e).inside in
    let alone = stands_alone (whole rest) (drop (whole_long rest) rest) exact in
    record { checks = stands_holds (whole rest) (sym alone ∙ ap stands (whole-joined rest) ∙ e); exact = exact }

-- a frame that passes stands, whatever follows it
pub passes-stands : (frame rest : List ℕ) → Passes frame → stands (frame ++ rest) ≡ true
passes-stands frame rest p = stands_alone frame rest p.exact ∙ holds_stands frame p.checks

pub passes-whole : (frame rest : List ℕ) → Passes frame → whole (frame ++ rest) ≡ frame
passes-whole frame rest p = take_at frame rest (whole_long (frame ++ rest)) (sym (whole_same frame rest p.exact))

pub passes-least : (frame : List ℕ) → Passes frame → least_frame ≤ length frame
passes-least frame p = omega (arith, (stands-long frame (holds_stands frame p.checks)).least, p.exact)

-- ---- none stands: another kind
pub kind_none : (rest : List ℕ) → (kind_in rest ≡ data_kind → ⊥) → stands rest ≡ false
kind_none rest ne = stands-not rest
    (λ e. ne (eqb-true (kind_in rest) data_kind (not-false (eqb (kind_in rest) data_kind) (own_parts rest (stands_holds rest e)).1)))

-- ---- a step by what stands
step_by : (rest : List ℕ) (t : Bool) → stands rest ≡ t → step_in rest ≡ pick t (kept (whole rest)) skipped
step_by rest t e = ap (λ (u : Bool). pick u (kept (whole rest)) skipped) e

steps_take : TakesBytes walk.takes
steps_take s rest = go (stands rest) refl
  where
    go : (t : Bool) → stands rest ≡ t → 0 < step_long (pick t (kept (whole rest)) skipped)
    go true e = omega (arith, whole_length rest e, (stands-long rest e).least)
    go false e = omega arith

-- ---- the steps, one at a time
pub steps_end : steps_of [] ≡ []
steps_end = walked_end walk steps_take tt [] refl

pub steps_kept : (rest : List ℕ) → stands rest ≡ true → steps_of rest ≡ kept (whole rest) ∷ steps_of (drop (whole_long rest) rest)
steps_kept rest e =
    let s = stands-long rest e in
    walked_turn walk steps_take tt rest (omega (arith, s.inside, s.least))
    ∙ ap (λ (s : Step). s ∷ steps_of (drop (step_long s) rest)) (step_by rest true e)
    ∙ ap (λ (n : ℕ). kept (whole rest) ∷ steps_of (drop n rest)) (whole_length rest e)

pub steps_skipped : (rest : List ℕ) → 0 < length rest → stands rest ≡ false → steps_of rest ≡ skipped ∷ steps_of (drop 1 rest)
steps_skipped rest h e =
    walked_turn walk steps_take tt rest h ∙ ap (λ (s : Step). s ∷ steps_of (drop (step_long s) rest)) (step_by rest false e)

pub steps_passes : (frame rest : List ℕ) → Passes frame → steps_of (frame ++ rest) ≡ kept frame ∷ steps_of rest
steps_passes frame rest p =
    let e = passes-whole frame rest p in
    let s = passes-stands frame rest p in
    steps_kept (frame ++ rest) s
    ∙ ap (λ (n : ℕ). kept (whole (frame ++ rest)) ∷ steps_of (drop n (frame ++ rest))) (sym (whole_length (frame ++ rest) s))
    ∙ ap (λ (f : List ℕ). kept f ∷ steps_of (drop (length f) (frame ++ rest))) e
    ∙ ap (λ (b : List ℕ). kept frame ∷ steps_of b) (drop-append_seam frame rest)

-- induction over the walk: P holds at the end, and before a frame kept or a byte skipped if it holds after it
module _ (P : List ℕ → List Step → Type 0) (end : P [] [])
    (keeps : (frame rest : List ℕ) (steps : List Step) → Passes frame → P rest steps → P (frame ++ rest) (kept frame ∷ steps))
    (skips : (byte : ℕ) (rest : List ℕ) (steps : List Step) → stands (byte ∷ rest) ≡ false → P rest steps
    → P (byte ∷ rest) (skipped ∷ steps)) where
  step : (rest : List ℕ) (steps : List Step) → 0 < length rest → P (drop (step_long (step_in rest)) rest) steps
      → P rest (step_in rest ∷ steps)
  step [] steps h p = absurd (omega arith)
  step (x ∷ rest) steps h p = go (stands (x ∷ rest)) refl p
    where
      b : List ℕ
      b = x ∷ rest

      go : (t : Bool) → stands b ≡ t → P (drop (step_long (pick t (kept (whole b)) skipped)) b) steps
          → P b (pick t (kept (whole b)) skipped ∷ steps)
      go true e q =
          subst (λ (l : List ℕ). P l (kept (whole b) ∷ steps)) (whole-joined b)
          (keeps (whole b) (drop (whole_long b) b) steps (whole-passes b e) (rw (whole_length b e) at q))
      go false e q = skips x rest steps e q

  pub walk_by : (b : List ℕ) → P b (steps_of b)
  walk_by b = walked_by walk steps_take (λ s rest steps. P rest steps) (λ s. end) (λ s. step) tt b

-- ---- a run of skipped bytes
pub steps_run : (n : ℕ) (rest : List ℕ) → n ≤ length rest → ((i : ℕ) → i < n → stands (drop i rest) ≡ false)
    → steps_of rest ≡ replicate n skipped ++ steps_of (drop n rest)
steps_run zero rest h none = refl
steps_run (suc n) [] h none = absurd (omega arith)
steps_run (suc n) (x ∷ rest) h none =
    steps_skipped (x ∷ rest) (omega arith) (none 0 (omega arith))
    ∙ ap (λ (l : List Step). skipped ∷ l) (steps_run n rest (omega arith) (λ i l. none (suc i) (omega arith)))

pub frames_skipped : (n : ℕ) (steps : List Step) → frames_of (replicate n skipped ++ steps) ≡ frames_of steps
unfolding frames_of
frames_skipped zero steps = refl
frames_skipped (suc n) steps = frames_skipped n steps

pub runs_skipped : (n first next : ℕ) (steps : List Step) → runs_of first next (replicate n skipped ++ steps) ≡ runs_of first (next + n) steps
unfolding runs_of
runs_skipped zero first next steps = ap (λ (k : ℕ). runs_of first k steps) (sym (add-zero next))
runs_skipped (suc n) first next steps =
    let e : suc next + n ≡ next + suc n = omega arith in
    runs_skipped n first (suc next) steps ∙ ap (λ (k : ℕ). runs_of first k steps) e

pub first_skipped : (n : ℕ) (steps : List Step) → skipped_first (replicate n skipped ++ steps) ≡ n + skipped_first steps
unfolding skipped_first
first_skipped zero steps = sym (zero-add (skipped_first steps))
first_skipped (suc n) steps = ap suc (first_skipped n steps) ∙ sym (suc-add n (skipped_first steps))

module _ (n : ℕ) (rest : List ℕ) (h : n ≤ length rest) (none : (i : ℕ) → i < n → stands (drop i rest) ≡ false) where
  pub frames_run : frames_of (steps_of rest) ≡ frames_of (steps_of (drop n rest))
  frames_run = ap frames_of (steps_run n rest h none) ∙ frames_skipped n (steps_of (drop n rest))

  pub runs_run : (first next : ℕ) → runs_of first next (steps_of rest) ≡ runs_of first (next + n) (steps_of (drop n rest))
  runs_run first next = ap (λ (steps : List Step). runs_of first next steps) (steps_run n rest h none)
      ∙ runs_skipped n first next (steps_of (drop n rest))

  pub first_run : skipped_first (steps_of rest) ≡ n + skipped_first (steps_of (drop n rest))
  first_run = ap skipped_first (steps_run n rest h none) ∙ first_skipped n (steps_of (drop n rest))
