-- Any two numbers of a turn can be those of one set in two orders. Assumes nothing.
use Prim.Native.Nat.{ℕ}
use mathlib.Core.Path.{◌≡◌, refl, sym, ap, subst, ◌∙◌}
use mathlib.Core.Bool.{Bool, true, false}
use mathlib.Core.Option.{Option, some}
use mathlib.Core.List.Memᴰ
use mathlib.Core.List.Permᴰ
use mathlib.Core.List.{List, [], ◌∷◌, ◌++◌, map, flatten}
use native.Mathlib.Omega.{arith}
use lib.Dec.{ltb, eqb}
use lib.ListN.{length, length-replicate}
use borrow.Author.Tests.{le-ltb, ltb-true, eqb-true}
use Rattle.wire.specs.Numbers.{num, be}
use Rattle.wire.specs.Properties.{Each}
use Rattle.wire.specs.Checks.{either, among, first}
use Rattle.wire.specs.Answers.{Answer, refused, refusal}
use Rattle.wire.proofs.CheckLaws.{never, decide-some}
use Rattle.wire.proofs.FiniteLaws.{below}
use Rattle.frame.specs.Session.{head_size, whole_long}
use Rattle.header.specs.Header.{stored_in, header_in}
use Rattle.set_spec.specs.Segment.{Segment, segment_in, numbered}
use Rattle.set_spec.specs.Walk.{turn_checks, walk, finish, set_of}
use Rattle.set_spec.specs.Theorems.{WholeFrames}
use Rattle.set_spec.proofs.FrameLists.{each_cons, front_walk}
use Rattle.set_order.specs.Theorems.{InTurn, AnyTwoDiffer}
use Rattle.set_order.specs.Cases.{met, too_long, breaking}

-- a frame is whole, and is refused as n after the frame `met`
abbrev Breaks : ℕ → List ℕ → Type 0
Breaks n f = ◌≡◌ {A = ℕ × Option ℕ} (length f, first (turn_checks (segment_in met ∷ []) f)) (whole_long f, some n)

whole : {n : ℕ} (f : List ℕ) → Breaks n f → length f ≡ whole_long f
whole f b = ap (λ (p : ℕ × Option ℕ). p.0) b

number : {n : ℕ} (f : List ℕ) → Breaks n f → first (turn_checks (segment_in met ∷ []) f) ≡ some n
number f b = ap (λ (p : ℕ × Option ℕ). p.1) b

-- 3, by the size in its head
too_long_lem : length too_long ≡ 1048577
unfolding too_long
too_long_lem = length-replicate {A = ℕ} 1048577 0

breaks-three : Breaks 3 (be 4 2 ++ (be 4 0 ++ (be 4 1048577 ++ too_long)))
unfolding num
breaks-three =
    let f = be 4 2 ++ (be 4 0 ++ (be 4 1048577 ++ too_long)) in
    let head = le-ltb (length f) head_size (omega arith) in
    let whole : length f ≡ whole_long f = omega (arith, too_long_lem) in
    let number : first (turn_checks (segment_in met ∷ []) f) ≡ some 3 = simp head in
    λ i. (whole i, number i)

-- the others, by computation
breaks : Each (λ (p : ℕ × List ℕ). Breaks p.0 p.1) breaking
unfolding num stored_in header_in numbered
breaks = (refl, (breaks-three, (refl, (refl, (refl, (refl, (refl, (refl, (refl, (refl, tt))))))))))

-- the numbers of such a list
abbrev numbers : List (ℕ × List ℕ) → List ℕ
numbers = map (λ (p : ℕ × List ℕ). p.0)

find : (n : ℕ) (l : List (ℕ × List ℕ)) → Each (λ (p : ℕ × List ℕ). Breaks p.0 p.1) l → among n (numbers l) ≡ true
    → (f : List ℕ) × Breaks n f
find n [] b e = never (cc e)
find n (p ∷ l) b e = go (eqb n p.0) refl e (λ r. find n l b.1 r)
  where
    go : (t : Bool) → eqb n p.0 ≡ t → either t (among n (numbers l)) ≡ true
        → (among n (numbers l) ≡ true → (f : List ℕ) × Breaks n f)
        → (f : List ℕ) × Breaks n f
    go true q r later = (p.1, subst (λ (k : ℕ). Breaks k p.1) (sym (eqb-true n p.0 q)) b.0)
    go false q r later = later r

breaker : (n : ℕ) → InTurn n → (f : List ℕ) × Breaks n f
breaker n t = find n breaking breaks (listed (ltb n 2) refl
    (below (λ k. either (ltb k 2) (among k (numbers breaking))) 12 refl n (omega (arith, t.most))))
  where
    listed : (low : Bool) → ltb n 2 ≡ low → either low (among n (numbers breaking)) ≡ true
        → among n (numbers breaking) ≡ true
    listed true q r = absurd (omega (arith, t.least, ltb-true n 2 q))
    listed false q r = r

-- ---- the frame `met`, and two frames after it: the first of them decides
met-first : (t : List ℕ) → walk [] (met ++ t) ≡ walk (segment_in met ∷ []) t
unfolding num stored_in header_in numbered
met-first t = front_walk [] met t refl

stops : (n : ℕ) (f t out : List ℕ) → Breaks n f → set_of (met ++ (f ++ t)) out ≡ refusal out n
unfolding set_of
stops n f t out b =
    ap (λ (a : Answer (List Segment)). finish a out)
    (met-first (f ++ t)
    ∙ front_walk (segment_in met ∷ []) f t (whole f b)
    ∙ decide-some (turn_checks (segment_in met ∷ []) f) refused (walk (segment_in met ∷ segment_in f ∷ []) t) n (number f b))

met-whole : length met ≡ whole_long met
unfolding num
met-whole = refl

pub any_two_differ : AnyTwoDiffer
unfolding flatten
any_two_differ m n s t =
    let x = breaker m s in
    let y = breaker n t in
    let w : WholeFrames (met ∷ x.0 ∷ y.0 ∷ []) =
    each_cons (λ f. length f ≡ whole_long f) met (x.0 ∷ y.0 ∷ []) met-whole
    (each_cons (λ f. length f ≡ whole_long f) x.0 (y.0 ∷ []) (whole x.0 x.1)
    (each_cons (λ f. length f ≡ whole_long f) y.0 [] (whole y.0 y.1) (λ f k. absurd (Memᴰ.not-nil k))))
    in
    record {
      frames = flatten (met ∷ x.0 ∷ y.0 ∷ []);
      frames' = flatten (met ∷ y.0 ∷ x.0 ∷ []);
      rearranged = record {
        each = met ∷ x.0 ∷ y.0 ∷ [];
        each' = met ∷ y.0 ∷ x.0 ∷ [];
        from = record { joined = refl; whole = w };
        order = Permᴰ.cons refl (Permᴰ.swap refl refl);
        joined = refl;
      };
      one = λ out. stops m x.0 (y.0 ++ []) out x.1;
      other = λ out. stops n y.0 (x.0 ++ []) out y.1;
    }
