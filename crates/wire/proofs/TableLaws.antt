-- The two laws between a table's bytes and what they spell, and what they need. Assumes nothing.
use Prim.Native.Nat.{ℕ, zero, suc, ◌+◌, ◌*◌, ◌≤◌}
use native.Mathlib.Nat.{add-zero}
use native.Mathlib.Omega.{arith}
use mathlib.Core.Path.{◌≡◌, refl, sym, ap, ◌∙◌}
use mathlib.Core.List.{List, [], ◌∷◌, ◌++◌, map, append_assoc}
use lib.ListN.{length, take, drop, length-append, take-append-drop}
use lib.Seq.{drop_at, drop-drop, take-add, take-append_seam}
use Rattle.wire.specs.Numbers.{num, nums, be, Octets}
use Rattle.wire.specs.Tables.{Field, field, render, total, Fit, Spells, Holds}
use Rattle.wire.proofs.NumberLaws.{num-drop, num-fits, be-length, num-be, be-num}

pub render-length : (fs : List Field) → length (render fs) ≡ total fs
render-length [] = refl
render-length (f ∷ fs) = simp length-append (omega (arith, be-length f.wide f.value, render-length fs))

-- the bytes that stand at p begin what is left from p on
holds_begins : (b : List ℕ) (p : ℕ) (l : List ℕ) → Holds b p l → drop p b ≡ l ++ drop (length l) (drop p b)
holds_begins b p l h = sym (take-append-drop (length l) (drop p b)) ∙ ap (λ (x : List ℕ). x ++ drop (length l) (drop p b)) h

-- a rendered table is read back
pub spells : (fs : List Field) (b : List ℕ) (p : ℕ) → Fit fs → Holds b p (render fs) → Spells b p fs
spells [] b p fit h = tt
spells (f ∷ fs) b p fit h =
    let v = be f.wide f.value in
    let r = render fs in
    let t = drop (length (v ++ r)) (drop p b) in
    let e : drop p b ≡ v ++ (r ++ t) = holds_begins b p (v ++ r) h ∙ append_assoc v r t in
    let n : num f.wide b p ≡ f.value =
    ap (λ (k : ℕ). num f.wide b k) (sym (add-zero p)) ∙ sym (num-drop f.wide b p 0) ∙ ap (λ (x : List ℕ). num f.wide x 0) e
    ∙ num-be f.wide f.value (r ++ t) fit.0
    in
    let d : drop (p + f.wide) b ≡ r ++ t =
    sym (drop-drop f.wide p b) ∙ ap (λ (x : List ℕ). drop f.wide x) e ∙ drop_at v (r ++ t) f.wide (be-length f.wide f.value)
    in
    (n, spells fs b (p + f.wide) fit.1 (ap (λ (x : List ℕ). take (length r) x) d ∙ take-append_seam r t))

-- the same of a table that begins what is read
pub reads_back : (fs : List Field) (rest : List ℕ) → Fit fs → Spells (render fs ++ rest) 0 fs
reads_back fs rest fit = spells fs (render fs ++ rest) 0 fit (take-append_seam (render fs) rest)

-- and what is read, rendered, is what stood there
pub spelt : (fs : List Field) (b : List ℕ) (p : ℕ) → Octets b → p + total fs ≤ length b → Spells b p fs → Holds b p (render fs)
spelt [] b p o h s = refl
spelt (f ∷ fs) b p o h s =
    let v = be f.wide f.value in
    let e : take f.wide (drop p b) ≡ v = sym (be-num f.wide b p o (omega arith)) ∙ ap (λ (n : ℕ). be f.wide n) s.0 in
    let i : take (length (render fs)) (drop (p + f.wide) b) ≡ render fs = spelt fs b (p + f.wide) o (omega arith) s.1 in
    let l : length (v ++ render fs) ≡ f.wide + length (render fs) =
    length-append v (render fs) ∙ ap (λ (n : ℕ). n + length (render fs)) (be-length f.wide f.value)
    in
    ap (λ (n : ℕ). take n (drop p b)) l
    ∙ take-add f.wide (length (render fs)) (drop p b)
    ∙ ap (λ (x : List ℕ). take f.wide (drop p b) ++ take (length (render fs)) x) (drop-drop f.wide p b)
    ∙ ap (λ (x : List ℕ). x ++ take (length (render fs)) (drop (p + f.wide) b)) e
    ∙ ap (λ (x : List ℕ). v ++ x) i

-- what bytes spell is small enough for its width
pub spells_fit : (fs : List Field) (b : List ℕ) (p : ℕ) → Octets b → Spells b p fs → Fit fs
spells_fit [] b p o s = tt
spells_fit (f ∷ fs) b p o s = (rw (← s.0) (num-fits f.wide b p o), spells_fit fs b (p + f.wide) o s.1)

-- ---- a run of numbers of one width, as a table
pub nums_spell : (w : ℕ) (b : List ℕ) (p n : ℕ) → Spells b p (map (field w) (nums w b p n))
nums_spell w b p zero = tt
nums_spell w b p (suc n) = (refl, nums_spell w b (p + w) n)

pub spell_nums : (w : ℕ) (b : List ℕ) (p : ℕ) (xs : List ℕ) → Spells b p (map (field w) xs) → nums w b p (length xs) ≡ xs
spell_nums w b p [] s = refl
spell_nums w b p (x ∷ xs) s = cc (s.0, spell_nums w b (p + w) xs s.1)

pub total-run : (w : ℕ) (xs : List ℕ) → total (map (field w) xs) ≡ length xs * w
total-run w [] = omega arith
total-run w (x ∷ xs) = omega (arith, total-run w xs)

-- ---- tables one after the other
pub render-append : (fs gs : List Field) → render (fs ++ gs) ≡ render fs ++ render gs
render-append [] gs = refl
render-append (f ∷ fs) gs =
    ap (λ (l : List ℕ). be f.wide f.value ++ l) (render-append fs gs)
    ∙ sym (append_assoc (be f.wide f.value) (render fs) (render gs))
