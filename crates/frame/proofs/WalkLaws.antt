-- Laws of the walk, whatever it carries and answers. Assumes nothing.
use Prim.Native.Nat.{ℕ, zero, suc, ◌≤◌, ◌<◌}
use mathlib.Core.Path.{◌≡◌, refl, sym, ap, subst, ◌∙◌}
use mathlib.Core.Option.{Option, none, some}
use mathlib.Core.List.{List, [], ◌∷◌, ◌++◌, flatten, append_assoc, Memᴰ}
use native.Mathlib.Omega.{arith}
use lib.ListN.{length, drop, length-append, length-drop}
use lib.Seq.{drop_at}
use Rattle.wire.specs.Checks.{first, decide}
use Rattle.wire.specs.Answers.{AnswerOf, refused, onward}
use Rattle.wire.proofs.CheckLaws.{never, decide-none, decide-some, decide-map}
use Rattle.frame.specs.Walk.{Walk, turns, walked, Checked, answers}

-- every turn takes bytes
abbrev pub TakesBytes : {S : Type 0} → (S → List ℕ → ℕ) → Type 0
TakesBytes {S} takes = (s : S) (rest : List ℕ) → 0 < takes s rest

-- the bytes f are what one turn takes and looks at, whatever follows them
pub record OneTurn {S N : Type 0} (c : Checked S N) (f : List ℕ) : Type 0 where
  pub takes : (s : S) (rest : List ℕ) → c.takes s (f ++ rest) ≡ length f
  pub next : (s : S) (rest : List ℕ) → c.next s (f ++ rest) ≡ c.next s f
  pub checks : (s : S) (rest : List ℕ) → c.checks s (f ++ rest) ≡ c.checks s f

module _ {S A : Type 0} (w : Walk S A) (takes : TakesBytes w.takes) where
  -- more turns than bytes change nothing
  pub enough_turns : (n m : ℕ) (s : S) (rest : List ℕ) → length rest ≤ n → length rest ≤ m → turns w n s rest ≡ turns w m s rest
  unfolding turns
  enough_turns zero zero s rest h k = refl
  enough_turns zero (suc m) s [] h k = refl
  enough_turns (suc n) zero s [] h k = refl
  enough_turns (suc n) (suc m) s [] h k = refl
  enough_turns zero (suc m) s (x ∷ rest) h k = absurd (omega arith)
  enough_turns (suc n) zero s (x ∷ rest) h k = absurd (omega arith)
  enough_turns (suc n) (suc m) s (x ∷ rest) h k =
      let b : List ℕ = x ∷ rest in
      let l = length-drop (w.takes s b) b in
      let some = takes s b in
      ap (w.turn s b) (enough_turns n m (w.next s b) (drop (w.takes s b) b) (omega arith) (omega arith))

  -- the end, and a turn with the walk from there on
  pub walked_end : (s : S) (rest : List ℕ) → length rest ≡ 0 → walked w s rest ≡ w.end s
  unfolding turns
  walked_end s [] e = refl
  walked_end s (x ∷ rest) e = absurd (omega arith)

  pub walked_turn : (s : S) (rest : List ℕ) → 0 < length rest
      → walked w s rest ≡ w.turn s rest (walked w (w.next s rest) (drop (w.takes s rest) rest))
  unfolding turns
  walked_turn s [] h = absurd (omega arith)
  walked_turn s (x ∷ rest) h =
      let b : List ℕ = x ∷ rest in
      let after = drop (w.takes s b) b in
      let l = length-drop (w.takes s b) b in
      let some = takes s b in
      ap (w.turn s b) (enough_turns (length rest) (length after) (w.next s b) after (omega arith) (omega arith))

  -- induction over the walk: P holds at the end, and at each place if it holds after its turn
  module _ (P : S → List ℕ → A → Type 0) (end : (s : S) → P s [] (w.end s))
      (turn : (s : S) (rest : List ℕ) (later : A) → 0 < length rest → P (w.next s rest) (drop (w.takes s rest) rest) later
      → P s rest (w.turn s rest later)) where
    by_turns : (n : ℕ) (s : S) (rest : List ℕ) → length rest ≤ n → P s rest (turns w n s rest)
    unfolding turns
    by_turns zero s [] h = end s
    by_turns zero s (x ∷ rest) h = absurd (omega arith)
    by_turns (suc n) s [] h = end s
    by_turns (suc n) s (x ∷ rest) h =
        let b : List ℕ = x ∷ rest in
        let l = length-drop (w.takes s b) b in
        let some = takes s b in
        turn s b (turns w n (w.next s b) (drop (w.takes s b) b)) (omega arith) (by_turns n (w.next s b) (drop (w.takes s b) b)
        (omega arith))

    pub walked_by : (s : S) (rest : List ℕ) → P s rest (walked w s rest)
    walked_by s rest = by_turns (length rest) s rest (omega arith)

-- ---- a walk that checks
module _ {S N : Type 0} (c : Checked S N) (takes : TakesBytes c.takes) where
  -- the first broken check of a place ends it, and where none is broken it goes on
  pub walk_stops : (s : S) (rest : List ℕ) (n : N) → 0 < length rest → first (c.checks s rest) ≡ some n
      → walked (answers c) s rest ≡ refused n
  walk_stops s rest n h e = walked_turn (answers c) takes s rest h ∙ decide-some (c.checks s rest) refused _ n e

  pub walk_goes : (s : S) (rest : List ℕ) → 0 < length rest → first (c.checks s rest) ≡ none
      → walked (answers c) s rest ≡ walked (answers c) (c.next s rest) (drop (c.takes s rest) rest)
  walk_goes s rest h e = walked_turn (answers c) takes s rest h ∙ decide-none (c.checks s rest) refused _ e

  -- bytes that are one turn, and what follows them
  module _ (f : List ℕ) (one : OneTurn c f) where
    pub walk-front : (s : S) (rest : List ℕ)
        → walked (answers c) s (f ++ rest) ≡ decide (c.checks s f) refused (walked (answers c) (c.next s f) rest)
    walk-front s rest =
        let e = one.takes s rest in
        let l = length-append f rest in
        let some = takes s (f ++ rest) in
        walked_turn (answers c) takes s (f ++ rest) (omega arith)
        ∙ rw (one.checks s rest, one.next s rest, drop_at f rest (c.takes s (f ++ rest)) (sym e))

  -- a walk over such bytes one after the other, and on over what follows them
  pub walk_on : (each : List (List ℕ)) → ((f : List ℕ) → Memᴰ f each → OneTurn c f) → (s : S) (rest : List ℕ)
      → walked (answers c) s (flatten each ++ rest)
      ≡ onward (walked (answers c) s (flatten each)) (λ after. walked (answers c) after rest)
  unfolding flatten turns
  walk_on [] one s rest = refl
  walk_on (f ∷ fs) one s rest =
      let front = walk-front f (one f (Memᴰ.head refl)) in
      let go : AnswerOf N S → AnswerOf N S = λ a. onward a (λ after. walked (answers c) after rest) in
      ap (λ (l : List ℕ). walked (answers c) s l) (append_assoc f (flatten fs) rest)
      ∙ front s (flatten fs ++ rest)
      ∙ ap (decide (c.checks s f) refused) (walk_on fs (λ g m. one g (Memᴰ.tail m)) (c.next s f) rest)
      ∙ sym (decide-map go (c.checks s f) refused (walked (answers c) (c.next s f) (flatten fs)))
      ∙ ap go (sym (front s (flatten fs)))

  -- if every broken check carries a number with P, so does every refusal of the walk
  pub walk_refused : (P : N → Type 0) → ((s : S) (rest : List ℕ) (n : N) → first (c.checks s rest) ≡ some n → P n) → (s : S)
      (rest : List ℕ) (n : N) → walked (answers c) s rest ≡ refused n → P n
  walk_refused P each s rest = walked_by (answers c) takes (λ s rest a. (n : N) → a ≡ refused n → P n) (λ s n e. never (cc e)) turn s rest
    where
      turn : (s : S) (rest : List ℕ) (later : AnswerOf N S) → 0 < length rest → ((n : N) → later ≡ refused n → P n)
          → (n : N) → decide (c.checks s rest) refused later ≡ refused n → P n
      turn s rest later h p n e = go (first (c.checks s rest)) refl
        where
          go : (o : Option N) → first (c.checks s rest) ≡ o → P n
          go none q = p n (sym (decide-none (c.checks s rest) refused later q) ∙ e)
          go (some m) q =
              let r : refused m ≡ refused n = sym (decide-some (c.checks s rest) refused later m q) ∙ e in
              subst P (cc r) (each s rest m q)
