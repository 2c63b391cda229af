-- A frame's bytes alone and with more bytes after them, and a frame cut off the front of what is left. Assumes nothing.
use Prim.Native.Nat.{ℕ, ◌+◌, ◌≤◌}
use mathlib.Core.Path.{◌≡◌, sym, ap, ◌∙◌}
use mathlib.Core.List.{List, [], ◌∷◌, ◌++◌}
use native.Mathlib.Omega.{arith}
use lib.Dec.{ltb}
use lib.ListN.{length, take, drop, length-append, length-drop, take-append-drop}
use lib.Seq.{length-take-le, take-append-le, drop-append-le}
use borrow.Author.Tests.{le-ltb}
use Rattle.wire.specs.Checks.{check}
use Rattle.wire.proofs.NumberLaws.{num-append, num-take}
use Rattle.frame.specs.Session.{head_size, last_kind, session_limit, kind_in, size_in, body_in, after, frame_checks, whole_long}
use Rattle.frame.proofs.WalkLaws.{TakesBytes}

-- a frame takes bytes
pub frames_take : {S : Type 0} → TakesBytes {S = S} (λ s rest. whole_long rest)
frames_take s rest = omega arith

-- ---- the bytes f are as many as their own head says; t stands after them
module _ (f t : List ℕ) (exact : length f ≡ whole_long f) where
  pub kind_same : kind_in (f ++ t) ≡ kind_in f
  kind_same = num-append 4 f t 0 (omega arith)

  size_same : (size_in (f ++ t)).0 ≡ (size_in f).0
  size_same = num-append 4 f t 8 (omega arith)

  pub whole_same : whole_long (f ++ t) ≡ length f
  whole_same = ap (λ (n : ℕ). head_size + n) size_same ∙ sym exact

  pub body_same : body_in (f ++ t) ≡ body_in f
  body_same =
      let l = length-drop head_size f in
      rw (size_same, drop-append-le head_size f t (omega arith), take-append-le (size_in f).0 (drop head_size f) t (omega arith))

  pub checks_same : frame_checks (f ++ t) ≡ frame_checks f
  checks_same =
      let long = length-append f t in
      let size = size_same in
      let whole : (n : ℕ) → n ≤ length f → ltb (length (f ++ t)) n ≡ ltb (length f) n =
      λ n h. le-ltb (length (f ++ t)) n (omega arith) ∙ sym (le-ltb (length f) n h)
      in
      λ i. check 1 (whole head_size (omega arith) i)
      ∷ check 2 (ltb last_kind (kind_same i))
      ∷ check 3 (ltb session_limit.0 (size i))
      ∷ check 1 ((ap (λ (n : ℕ). ltb (length (f ++ t)) (head_size + n)) size ∙ whole (whole_long f) (omega arith)) i)
      ∷ []

-- ---- the frame that begins what is left, and what follows it
module _ (rest : List ℕ) (whole : whole_long rest ≤ length rest) where
  abbrev pub front : List ℕ
  front = take (whole_long rest) rest

  pub front_joined : front ++ after rest ≡ rest
  front_joined = take-append-drop (whole_long rest) rest

  pub front_exact : length front ≡ whole_long front
  front_exact =
      let s : (size_in front).0 ≡ (size_in rest).0 = num-take 4 (whole_long rest) rest 8 (omega arith) in
      length-take-le (whole_long rest) rest whole ∙ ap (λ (n : ℕ). head_size + n) (sym s)
