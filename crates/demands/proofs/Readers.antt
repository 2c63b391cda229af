-- Each reader answers by its checks. Assumes nothing.
use Prim.Native.Nat.{ℕ}
use mathlib.Core.Path.{◌≡◌, refl, ap, subst}
use mathlib.Core.Bool.{Bool, true, false}
use mathlib.Core.Option.{some}
use mathlib.Core.List.{List, [], ◌∷◌, ◌++◌, map, append-nil}
use lib.Dec.{leb, eqb}
use lib.ListN.{length, get_or, drop}
use Rattle.wire.specs.Checks.{pick, Check, check, decide}
use Rattle.wire.specs.Answers.{Answer, refused, given, rule, onward}
use Rattle.wire.proofs.OnwardLaws.{onward_twice}
use Rattle.wire.proofs.CheckLaws.{never, decide-map}
use Rattle.frame.specs.Session.{end, frame, frame_checks, frame_in, frame_at}
use Rattle.set_spec.specs.Segment.{Segment}
use Rattle.set_spec.specs.Walk.{each_frame, walk, finish, set_of, end_checks}
use Rattle.radial_spec.specs.Description.{Moment, Description, gates}
use Rattle.radial_spec.specs.Refusal.{description, radial_checks, radial_of}
use Rattle.radial_spec.specs.Lookups.{moment_named, moment_of, coded_in, coded_of, Asked, no_such, lies, blocks, block_of, gates_in, gates_of}
use Rattle.radial.specs.Told.{head_of, head_shown, code_shown, told_of, block_shown}
use Rattle.gate_value.specs.Value.{value_checks, worth_of, value_of, gate_in, gate_of}
use Rattle.demands.specs.Notions.{ByChecks}
use Rattle.demands.specs.Orders.{stream_checks, set_checks, missing, of_moment, asked_of, moment_checks, coded_checks, gate_checks}
use Rattle.demands.proofs.ByChecksLaws.{by_first, by_rule, by_same, by_then, by_walk, by_shown, by_outcome, outcome_untouched}
use Rattle.demands.proofs.Inside.{radial_inside, turn_inside}

pub by_stream : (stream : List ℕ) (place : ℕ) → ByChecks (stream_checks stream place) (frame_at stream place)
unfolding frame_at
by_stream stream place = go (eqb place (length stream))
  where
    go : (t : Bool) → ByChecks (pick t [] (frame_checks (drop place stream)))
        (pick t (given end) (rule (frame_checks (drop place stream)) (frame (frame_in (drop place stream) place))))
    go true = by_rule [] end refl
    go false = by_rule (frame_checks (drop place stream)) (frame (frame_in (drop place stream) place)) refl

-- ---- a set: each frame in turn, then 12 and 13
finish_onward : (out : List ℕ) (a : Answer (List Segment)) → (finish a out).answer ≡ onward a (λ gs. (finish (given gs) out).answer)
finish_onward out (refused n) = refl
finish_onward out (given gs) = refl

pub by_set : (frames out : List ℕ) → ByChecks (set_checks frames (length out)) (set_of frames out).answer
unfolding set_of
by_set frames out =
    by_same (set_checks frames (length out)) (finish (walk [] frames) out).answer
    (onward (walk [] frames) (λ gs. (finish (given gs) out).answer)) (finish_onward out (walk [] frames))
    (by_walk each_frame (λ gs. end_checks gs (length out)) (λ gs. (finish (given gs) out).answer) turn_inside
    (λ gs. by_outcome (end_checks gs (length out)) out _ _ refl) [] frames)

finish_untouched : (a : Answer (List Segment)) (out : List ℕ) (n : ℕ) → (finish a out).answer ≡ refused n → (finish a out).output ≡ out
finish_untouched (refused k) out n e = refl
finish_untouched (given gs) out n e = outcome_untouched (end_checks gs (length out)) out _ _ n e

pub set_untouched : (frames out : List ℕ) (n : ℕ) → (set_of frames out).answer ≡ refused n → (set_of frames out).output ≡ out
unfolding set_of
set_untouched frames out n e = finish_untouched (walk [] frames) out n e

-- ---- a radial, and what is asked of one
pub by_radial : (b : List ℕ) → ByChecks (radial_checks b) (radial_of b)
unfolding radial_of
by_radial b = by_rule (radial_checks b) (description b) (radial_inside b)

-- what is asked of the description, where the radial is accepted
module _ {A : Type 0} (f : Description → Answer A) (ls : List Check) (b : List ℕ) (h : ByChecks ls (f (description b))) where
  pub by_asked : ByChecks (radial_checks b ++ ls) (onward (radial_of b) f)
  unfolding radial_of
  by_asked =
      by_same (radial_checks b ++ ls) (onward (rule (radial_checks b) (description b)) f) (decide (radial_checks b) refused
      (f (description b)))
      (decide-map (λ (a : Answer Description). onward a f) (radial_checks b) refused (given (description b)))
      (by_then (radial_checks b) ls (f (description b)) (radial_inside b) h)

-- what is asked of the moment with a name
module _ {A : Type 0} (g : Moment → Answer A) (own : Moment → List Check) (h : (m : Moment) → ByChecks (own m) (g m)) where
  by_name : (name : ℕ) (ms : List Moment) → ByChecks (check 21 (missing name ms) ∷ of_moment (moment_named name ms) own)
      (onward (moment_named name ms) g)
  by_name name [] = by_first (check 21 true ∷ []) (refused 21) refl (λ n e. let q : 21 ≡ n = cc e in ap some q) (λ v e. never (cc e))
  by_name name (m ∷ ms) = go (eqb m.name name) (by_name name ms)
    where
      go : (t : Bool) → ByChecks (check 21 (missing name ms) ∷ of_moment (moment_named name ms) own) (onward (moment_named name ms) g)
          → ByChecks (check 21 (pick t false (missing name ms)) ∷ of_moment (pick t (given m) (moment_named name ms)) own)
          (onward (pick t (given m) (moment_named name ms)) g)
      go true i = by_then (check 21 false ∷ []) (own m) (g m) refl (h m)
      go false i = i

  pub by_named : (b : List ℕ) (name : ℕ) → ByChecks (asked_of b name own) (onward (moment_of b name) g)
  unfolding moment_of
  by_named b name =
      by_same (asked_of b name own) (onward (onward (radial_of b) (λ d. moment_named name d.moments)) g)
      (onward (radial_of b) (λ d. onward (moment_named name d.moments) g))
      (onward_twice (radial_of b) (λ d. moment_named name d.moments) g)
      (by_asked (λ d. onward (moment_named name d.moments) g)
      (check 21 (missing name (description b).moments) ∷ of_moment (moment_named name (description b).moments) own) b
      (by_name name (description b).moments))

all_onward : {A : Type 0} (a : Answer A) → a ≡ onward a given
all_onward (refused n) = refl
all_onward (given v) = refl

pub by_moment : (b : List ℕ) (name : ℕ) → ByChecks (moment_checks b name) (head_shown (moment_of b name))
by_moment b name =
    by_shown head_of (moment_checks b name) (moment_of b name)
    (by_same (moment_checks b name) (moment_of b name) (onward (moment_of b name) given) (all_onward (moment_of b name))
    (by_named given (λ m. []) (λ m. by_rule [] m refl) b name))

pub by_gates : (b : List ℕ) (name : ℕ) → ByChecks (moment_checks b name) (gates_of b name)
unfolding gates_of
by_gates b name = by_named (λ m. given (gates_in m)) (λ m. []) (λ m. by_rule [] (gates_in m) refl) b name

pub by_coded : (b : List ℕ) (name gate : ℕ) → ByChecks (coded_checks b name gate) (code_shown (coded_of b name gate))
unfolding coded_of
by_coded b name gate =
    by_shown _ (coded_checks b name gate) (coded_of b name gate)
    (by_named (λ m. coded_in m gate) (λ m. check 21 (leb (gates m) gate) ∷ []) (λ m. by_rule (check 21 (leb (gates m) gate) ∷ []) _
    refl) b name)

abbrev asked_for : ℕ → Description → Asked
asked_for k d = get_or (no_such ∷ map lies (blocks d)) k no_such

pub by_block : (b : List ℕ) (k : ℕ) → ByChecks (radial_checks b) (block_shown (block_of b k))
unfolding block_of
by_block b k =
    by_shown told_of (radial_checks b) (onward (radial_of b) (λ d. given (asked_for k d)))
    (subst (λ (l : List Check). ByChecks l (onward (radial_of b) (λ d. given (asked_for k d)))) (append-nil (radial_checks b))
    (by_asked (λ d. given (asked_for k d)) [] b (by_rule [] (asked_for k (description b)) refl)))

pub by_value : (code scale offset : ℕ) → ByChecks (value_checks scale offset) (value_of code scale offset)
unfolding value_of
by_value code scale offset = by_rule (value_checks scale offset) (worth_of code scale offset) refl

pub by_gate : (b : List ℕ) (name gate : ℕ) → ByChecks (gate_checks b name gate) (gate_of b name gate)
unfolding gate_of
by_gate b name gate =
    by_named (λ m. gate_in m gate) (λ m. check 21 (leb (gates m) gate) ∷ value_checks m.scale m.offset)
    (λ m.
    by_then (check 21 (leb (gates m) gate) ∷ []) (value_checks m.scale m.offset) (value_of (get_or m.codes gate 0) m.scale
    m.offset) refl
    (by_value (get_or m.codes gate 0) m.scale m.offset)) b name
