-- The walk over a list of whole frames, turn by turn. Assumes nothing.
use Prim.Native.Nat.{ℕ}
use mathlib.Core.Path.{◌≡◌, refl, sym, ap, subst, ◌∙◌}
use mathlib.Core.Logic.{⊎_elim}
use mathlib.Core.List.Memᴰ
use mathlib.Core.List.{List, [], ◌∷◌, ◌++◌, map, flatten, append_assoc, append-nil, Memᴰ}
use native.Mathlib.Omega.{arith}
use lib.ListN.{length, length-append}
use Rattle.wire.specs.Properties.{One}
use Rattle.wire.specs.Checks.{decide, AllHold}
use Rattle.wire.specs.Answers.{Answer, refused, given}
use Rattle.wire.proofs.ListLaws.{same_parts}
use Rattle.wire.proofs.CheckLaws.{never, passed, decide-none, all_hold, none_broken, all_hold_append, all_hold_join}
use Rattle.frame.specs.Session.{after, whole_long}
use Rattle.frame.specs.Walk.{turns, answers}
use Rattle.frame.proofs.WalkLaws.{walked_by, walk-front}
use Rattle.frame.proofs.FrontLaws.{frames_take, whole_same, front, front_joined, front_exact}
use Rattle.set_spec.specs.Segment.{Segment, segment_in, own_checks}
use Rattle.set_spec.specs.Walk.{met_checks, turn_checks, each_frame, walk}
use Rattle.set_spec.specs.Whole.{header_from, Passes}
use Rattle.set_spec.specs.Theorems.{WholeFrames, Frames}
use Rattle.set_spec.proofs.FrameFacts.{Framed, framed}
use Rattle.set_spec.proofs.PrefixLaws.{own_parts, one_turn}

-- what holds of the first and of all others holds of each
pub each_cons : {A : Type 0} (P : A → Type 0) (x : A) (xs : List A) → P x → ((y : A) → Memᴰ y xs → P y) → (y : A)
    → Memᴰ y (x ∷ xs) → P y
each_cons P x xs p q y m = ⊎_elim (λ e. subst P (sym e) p) (λ n. q y n) (Memᴰ.cases_cons m)

-- 10 and 11 of all frames in turn, where gs were met before them
abbrev pub AllMet : List Segment → List (List ℕ) → Type 0
AllMet gs [] = Unit {0}
AllMet gs (f ∷ fs) = AllHold (met_checks gs (header_from f)) × AllMet (gs ++ (segment_in f ∷ [])) fs

-- the two parts of a turn's checks
turn_parts : (gs : List Segment) (rest : List ℕ) → AllHold (turn_checks gs rest)
    → AllHold (own_checks rest) × AllHold (met_checks gs (header_from rest))
turn_parts gs rest a = all_hold_append (own_checks rest) (met_checks gs (header_from rest)) a

-- a turn of a walk that goes to the end
turn_went : (gs gs' : List Segment) (rest : List ℕ) (later : Answer (List Segment)) → decide (turn_checks gs rest) refused later ≡ given gs'
    → (AllHold (own_checks rest) × AllHold (met_checks gs (header_from rest))) × (later ≡ given gs')
turn_went gs gs' rest later e =
    let p = passed (turn_checks gs rest) refused later (given gs') e (λ n q. never (cc q)) in
    (turn_parts gs rest (all_hold (turn_checks gs rest) p.0), p.1)

-- ---- a buffer is one list of whole frames at most
-- two frames at the start of one buffer
front_once : (f g t u : List ℕ) → length f ≡ whole_long f → length g ≡ whole_long g → f ++ t ≡ g ++ u → (f ≡ g) × (t ≡ u)
front_once f g t u ef eg same = same_parts f g t u (sym (whole_same f t ef) ∙ ap whole_long same ∙ whole_same g u eg) same

-- a frame has bytes
not-empty : (f t : List ℕ) → length f ≡ whole_long f → f ++ t ≡ [] → ⊥
not-empty f t exact e = omega (arith, exact, length-append f t, ap length e)

pub frames_once : (each each' : List (List ℕ)) → WholeFrames each → WholeFrames each' → flatten each ≡ flatten each' → each ≡ each'
unfolding flatten
frames_once [] [] w w' e = refl
frames_once [] (g ∷ gs) w w' e = absurd (not-empty g (flatten gs) (w' g (Memᴰ.head refl)) (sym e))
frames_once (f ∷ fs) [] w w' e = absurd (not-empty f (flatten fs) (w f (Memᴰ.head refl)) e)
frames_once (f ∷ fs) (g ∷ gs) w w' e =
    let p = front_once f g (flatten fs) (flatten gs) (w f (Memᴰ.head refl)) (w' g (Memᴰ.head refl)) e in
    λ i. p.0 i ∷ frames_once fs gs (λ x m. w x (Memᴰ.tail m)) (λ x m. w' x (Memᴰ.tail m)) p.1 i

one_list : {rest : List ℕ} (each : List (List ℕ)) → Frames rest each → One (Frames rest)
one_list each f = record { the = each; meets = f; only = λ r g. frames_once r each g.whole f.whole (g.joined ∙ sym f.joined) }

-- ---- and a walk to the end cuts it into one
cut-none : Frames [] []
unfolding flatten
cut-none = record { joined = refl; whole = λ f m. absurd (Memᴰ.not-nil m) }

cut_more : (rest : List ℕ) (each : List (List ℕ)) (g : Framed rest) → Frames (after rest) each → Frames rest (front rest g.whole ∷ each)
unfolding flatten
cut_more rest each g c = record {
  joined = ap (λ (x : List ℕ). front rest g.whole ++ x) c.joined ∙ front_joined rest g.whole;
  whole = each_cons (λ f. length f ≡ whole_long f) (front rest g.whole) each (front_exact rest g.whole) c.whole;
}

pub cut : (gs gs' : List Segment) (rest : List ℕ) → walk gs rest ≡ given gs' → One (Frames rest)
cut gs gs' rest e =
    walked_by (answers each_frame) frames_take (λ gs rest a. a ≡ given gs' → One (Frames rest)) (λ gs e. one_list [] cut-none)
    (λ gs rest later h p e.
    let w = turn_went gs gs' rest later e in
    let g = framed rest (own_parts rest w.0.0).0 in
    let c = p w.1 in
    one_list (front rest g.whole ∷ c.the) (cut_more rest c.the g c.meets))
    gs rest e

-- ---- a walk to the end over whole frames: every one passes, and is met in turn
pub record Ended (gs gs' : List Segment) (each : List (List ℕ)) : Type 0 where
  pub pass : (f : List ℕ) → Memᴰ f each → Passes f
  pub met : AllMet gs each
  pub grown : gs' ≡ gs ++ map segment_in each

-- the turn of a whole frame with others after it
pub front_walk : (gs : List Segment) (f t : List ℕ) → length f ≡ whole_long f
    → walk gs (f ++ t) ≡ decide (turn_checks gs f) refused (walk (gs ++ (segment_in f ∷ [])) t)
front_walk gs f t exact = walk-front each_frame frames_take f (one_turn f exact) gs t

pub ended : (each : List (List ℕ)) (gs gs' : List Segment) → WholeFrames each → walk gs (flatten each) ≡ given gs' → Ended gs gs' each
unfolding flatten turns
ended [] gs gs' w e = record { pass = λ f m. absurd (Memᴰ.not-nil m); met = tt; grown = cc (sym e) ∙ sym (append-nil gs) }
ended (f ∷ fs) gs gs' w e =
    let exact = w f (Memᴰ.head refl) in
    let p = turn_went gs gs' f (walk (gs ++ (segment_in f ∷ [])) (flatten fs)) (sym (front_walk gs f (flatten fs) exact) ∙ e) in
    let i = ended fs (gs ++ (segment_in f ∷ [])) gs' (λ x n. w x (Memᴰ.tail n)) p.1 in
    record {
      pass = each_cons Passes f fs (record { checks = p.0.0; exact = exact }) i.pass;
      met = (p.0.1, i.met);
      grown = i.grown ∙ append_assoc gs (segment_in f ∷ []) (map segment_in fs);
    }

-- and back: frames that pass and are met in turn are walked to the end
pub all_walked : (each : List (List ℕ)) (gs : List Segment) → ((f : List ℕ) → Memᴰ f each → Passes f) → AllMet gs each
    → walk gs (flatten each) ≡ given (gs ++ map segment_in each)
unfolding flatten turns
all_walked [] gs p m = ap given (sym (append-nil gs))
all_walked (f ∷ fs) gs p m =
    let x = p f (Memᴰ.head refl) in
    let held = all_hold_join (own_checks f) (met_checks gs (header_from f)) x.checks m.0 in
    front_walk gs f (flatten fs) x.exact
    ∙ decide-none (turn_checks gs f) refused _ (none_broken (turn_checks gs f) held)
    ∙ all_walked fs (gs ++ (segment_in f ∷ [])) (λ y k. p y (Memᴰ.tail k)) m.1
    ∙ ap given (append_assoc gs (segment_in f ∷ []) (map segment_in fs))
