-- Laws of lists that the toolchain's library lacks. Assumes nothing.
use Prim.Native.Nat.{ℕ, zero, suc, ◌+◌, ◌-◌, ◌≤◌, ◌<◌}
use mathlib.Core.Path.{◌≡◌, refl, sym, ap, ◌∙◌}
use mathlib.Core.List.{List, [], ◌∷◌, ◌++◌, append_assoc, append-nil, flatten}
use native.Mathlib.Omega.{arith}
use native.Mathlib.Numerals.{unary_clauses}
use lib.ListN.{length, get_or, take, drop, length-take, length-drop}
use lib.Seq.{take_all, take-nil, take_at, drop_at, ext_get_or, get_or-take, get_or-drop}

-- the part of a slice from a place on is what is left of its list
pub part_is : (s : List ℕ) (p : ℕ) → take (length s - p) (drop p s) ≡ drop p s
part_is s p = take_all (length s - p) (drop p s) (rw length-drop (omega arith))

-- the n bytes from p on of two lists that are equal there
pub same_bytes : (b b' : List ℕ) (p n : ℕ) → length b' ≡ length b → ((i : ℕ) → p ≤ i → i < p + n → get_or b' i 0 ≡ get_or b i 0)
    → take n (drop p b') ≡ take n (drop p b)
same_bytes b b' p n e f =
    ext_get_or 0 (take n (drop p b')) (take n (drop p b)) (simp (length-take, length-drop, e))
    (λ i h.
    let k : i < n = omega (arith, length-take n (drop p b')) in
    rw (get_or-take n (drop p b') i 0 k, get_or-take n (drop p b) i 0 k, get_or-drop p b' i 0, get_or-drop p b i 0)
    (f (p + i) (omega arith) (omega arith)))

-- all bytes from p on
pub same_rest : (b b' : List ℕ) (p : ℕ) → length b' ≡ length b → ((i : ℕ) → p ≤ i → get_or b' i 0 ≡ get_or b i 0) → drop p b' ≡ drop p b
same_rest b b' p e f =
    ext_get_or 0 (drop p b') (drop p b) (simp (length-drop, e))
    (λ i h. get_or-drop p b' i 0 ∙ f (p + i) (omega arith) ∙ sym (get_or-drop p b i 0))

-- storing an empty part changes nothing
pub none-put : (out last : List ℕ) → length last ≡ 0 → take 0 out ++ (last ++ drop 0 (drop 0 out)) ≡ out
none-put out [] e = refl
none-put out (x ∷ xs) e = absurd (omega arith)

-- what is left of a part is a part of what is left
pub drop-take : {A : Type 0} (n m : ℕ) (l : List A) → drop n (take m l) ≡ take (m - n) (drop n l)
drop-take zero m l = simp unary_clauses
drop-take (suc n) zero l = let z : 0 - suc n ≡ 0 = omega arith in rw z
drop-take (suc n) (suc m) [] = simp (unary_clauses, take-nil)
drop-take (suc n) (suc m) (x ∷ l) = simp unary_clauses (drop-take n m l)

-- ---- lists one after the other
-- two lists that are joined of parts, the first ones as long
pub same_parts : (a b t u : List ℕ) → length a ≡ length b → a ++ t ≡ b ++ u → (a ≡ b) × (t ≡ u)
same_parts a b t u l e = (
  sym (take_at a t (length b) l) ∙ ap (λ (x : List ℕ). take (length b) x) e ∙ take_at b u (length b) refl,
  sym (drop_at a t (length b) l) ∙ ap (λ (x : List ℕ). drop (length b) x) e ∙ drop_at b u (length b) refl,
)

pub flatten-append : (fs gs : List (List ℕ)) → flatten (fs ++ gs) ≡ flatten fs ++ flatten gs
unfolding flatten
flatten-append [] gs = refl
flatten-append (x ∷ fs) gs = ap (λ (l : List ℕ). x ++ l) (flatten-append fs gs) ∙ sym (append_assoc x (flatten fs) (flatten gs))

pub flatten_more : (fs : List (List ℕ)) (f : List ℕ) → flatten (fs ++ (f ∷ [])) ≡ flatten fs ++ f
unfolding flatten
flatten_more fs f = flatten-append fs (f ∷ []) ∙ ap (λ (l : List ℕ). flatten fs ++ l) (append-nil f)
