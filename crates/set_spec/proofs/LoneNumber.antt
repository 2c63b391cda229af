-- A set's outcome does not depend on the number of a lone segment. Assumes nothing.
use Prim.Native.Nat.{ℕ, ◌+◌, ◌-◌, ◌≤◌, ◌<◌}
use mathlib.Core.Path.{◌≡◌, refl, sym, ap, ◌∙◌}
use mathlib.Core.Bool.{not}
use mathlib.Core.List.{List, [], ◌∷◌, ◌++◌, flatten}
use native.Mathlib.Omega.{arith}
use lib.Dec.{ltb, eqb}
use lib.ListN.{length, get_or, take, drop, length-append, length-take, length-drop, take-append-drop}
use lib.Seq.{get_or-take, get_or-drop, get_or-append-add, drop-drop, take_at}
use Rattle.wire.specs.Numbers.{num}
use Rattle.wire.specs.Checks.{check, decide}
use Rattle.wire.specs.Answers.{Answer, refused, onward}
use Rattle.wire.proofs.NumberLaws.{num-same}
use Rattle.wire.proofs.ListLaws.{same_bytes, same_rest, drop-take}
use Rattle.frame.specs.Session.{head_size, last_kind, data_kind, session_limit, size_in, body_in, after}
use Rattle.frame.specs.Walk.{answers}
use Rattle.frame.proofs.WalkLaws.{walked_turn, walk_on}
use Rattle.frame.proofs.FrontLaws.{frames_take}
use Rattle.header.specs.Header.{header_size, data_in}
use Rattle.header.specs.Theorems.{number_place, ButTwoBytes}
use Rattle.header.proofs.LoneLaws.{header-same, checks_same}
use Rattle.set_spec.specs.Segment.{Segment, segment_in}
use Rattle.set_spec.specs.Walk.{met_checks, turn_checks, each_frame, walk, finish, set_of}
use Rattle.set_spec.specs.Theorems.{LoneFrame, LoneSegment}
use Rattle.set_spec.proofs.PrefixLaws.{one_turn}

-- a frame that has a body has bytes
some_bytes : (rest : List ℕ) → header_size ≤ (size_in rest).0 → 0 < length rest
unfolding num
some_bytes [] h = absurd (omega arith)
some_bytes (x ∷ rest) h = omega arith

-- ---- the frame of the lone segment
module _ (rest rest' : List ℕ) (f : LoneFrame rest) (but : ButTwoBytes (head_size + number_place) rest rest') where
  head-same : (p : ℕ) → p + 4 ≤ head_size → num 4 rest p ≡ num 4 rest' p
  head-same p h = num-same 4 rest rest' p p (λ i k. sym (but.before (p + i) (omega arith)))

  -- all that follows the header
  rest_same : drop (head_size + header_size) rest ≡ drop (head_size + header_size) rest'
  rest_same = sym (same_rest rest rest' (head_size + header_size) but.long (λ i h. but.after i (omega arith)))

  after_same : after rest ≡ after rest'
  after_same =
      let z = (size_in rest).0 in
      let d : head_size + z ≡ head_size + header_size + (z - header_size) = omega (arith, f.headed) in
      ap (λ (n : ℕ). drop n rest) d
      ∙ sym (drop-drop (z - header_size) (head_size + header_size) rest)
      ∙ ap (λ (x : List ℕ). drop (z - header_size) x) rest_same
      ∙ drop-drop (z - header_size) (head_size + header_size) rest'
      ∙ ap (λ (n : ℕ). drop n rest') (sym d)
      ∙ ap (λ (n : ℕ). drop (head_size + n) rest') (head-same 8 (omega arith))

  data_is : (r : List ℕ) → data_in (body_in r) ≡ take ((size_in r).0 - header_size) (drop (head_size + header_size) r)
  data_is r =
      drop-take header_size (size_in r).0 (drop head_size r)
      ∙ ap (λ (x : List ℕ). take ((size_in r).0 - header_size) x) (drop-drop header_size head_size r)

  data_same : data_in (body_in rest) ≡ data_in (body_in rest')
  data_same = data_is rest ∙ (λ i. take (head-same 8 (omega arith) i - header_size) (rest_same i)) ∙ sym (data_is rest')

  body_long : length (body_in rest) ≡ length (body_in rest')
  body_long = simp (length-take, length-drop, but.long, head-same 8 (omega arith))

  body_before : (i : ℕ) → i < number_place → get_or (body_in rest') i 0 ≡ get_or (body_in rest) i 0
  body_before i h =
      let z : (size_in rest).0 ≡ (size_in rest').0 = head-same 8 (omega arith) in
      get_or-take (size_in rest').0 (drop head_size rest') i 0 (omega (arith, f.headed, z))
      ∙ get_or-drop head_size rest' i 0
      ∙ but.before (head_size + i) (omega arith)
      ∙ sym (get_or-drop head_size rest i 0)
      ∙ sym (get_or-take (size_in rest).0 (drop head_size rest) i 0 (omega (arith, f.headed)))

  segment_same : segment_in rest ≡ segment_in rest'
  segment_same = λ i. record { header = header-same (body_in rest) (body_in rest') f.lone body_before i; content = data_same i }

  -- all that a turn of the walk looks at
  turn_same : (gs : List Segment) → turn_checks gs rest ≡ turn_checks gs rest'
  turn_same gs =
      let long = but.long in
      let kind = head-same 0 (omega arith) in
      let size = head-same 8 (omega arith) in
      let checks = checks_same (body_in rest) (body_in rest') f.lone body_before body_long in
      λ i.
      ((check 1 (ltb (sym long i) head_size)
      ∷ check 2 (ltb last_kind (kind i))
      ∷ check 3 (ltb session_limit.0 (size i))
      ∷ check 1 (ltb (sym long i) (head_size + size i))
      ∷ [])
      ++ (check 9 (not (eqb (kind i) data_kind)) ∷ checks i))
      ++ met_checks gs (segment_same i).header

  walk_lone : (gs : List Segment) → walk gs rest ≡ walk gs rest'
  walk_lone gs =
      let some = some_bytes rest f.headed in
      let long = but.long in
      walked_turn (answers each_frame) frames_take gs rest some
      ∙ (λ i. decide (turn_same gs i) refused (walk (gs ++ (segment_same i ∷ [])) (after_same i)))
      ∙ sym (walked_turn (answers each_frame) frames_take gs rest' (omega arith))

-- ---- the set
pub lone_segment : LoneSegment
unfolding set_of
lone_segment each rest frames' out w f but =
    let n = length (flatten each) in
    let s = flatten each ++ rest in
    let rest' = drop n frames' in
    let start : take n frames' ≡ flatten each =
    same_bytes s frames' 0 n but.long (λ i l h. but.before i (omega arith)) ∙ take_at (flatten each) rest n refl
    in
    let whole : flatten each ++ rest' ≡ frames' = ap (λ (x : List ℕ). x ++ rest') (sym start) ∙ take-append-drop n frames' in
    let long : length rest ≡ length rest' = omega (arith, length-append (flatten each) rest, length-drop n frames', but.long) in
    let later : (i : ℕ) → get_or s (n + i) 0 ≡ get_or rest i 0 = λ i. get_or-append-add (flatten each) rest i 0 in
    let rest-but : ButTwoBytes (head_size + number_place) rest rest' = record {
      long = sym long;
      before = λ i h. get_or-drop n frames' i 0 ∙ but.before (n + i) (omega arith) ∙ later i;
      after = λ i h. get_or-drop n frames' i 0 ∙ but.after (n + i) (omega arith) ∙ later i;
    } in
    let on = walk_on each_frame frames_take each (λ g m. one_turn g (w g m)) [] in
    ap (λ (a : Answer (List Segment)). finish a out)
    (on rest
    ∙ (λ i. onward (walk [] (flatten each)) (λ met. walk_lone rest rest' f rest-but met i))
    ∙ sym (on rest')
    ∙ ap (λ (x : List ℕ). walk [] x) whole)
