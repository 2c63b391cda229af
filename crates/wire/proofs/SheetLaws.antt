-- Laws of parts laid into an output one after the other. Assumes nothing.
use Prim.Native.Nat.{ℕ, ◌+◌, ◌-◌, ◌≤◌, ◌<◌}
use native.Mathlib.Nat.{add-zero}
use native.Mathlib.Omega.{arith}
use mathlib.Core.Path.{◌≡◌, refl, sym, ap, ◌∙◌}
use mathlib.Core.List.{List, [], ◌∷◌, ◌++◌, append_assoc, append-nil, flatten}
use lib.ListN.{length, take, drop, length-append, length-drop}
use lib.Seq.{drop-drop, drop_at, take_at, sets, sets-eq}
use borrow.Author.Tests.{le-leb, lt-leb}
use Rattle.wire.specs.Writing.{filled}
use Rattle.wire.specs.Sheets.{laid, Sheet, sheet, lay, onto}

-- ---- one part
-- bytes stored one after the other from a place on, which have room there
pub laid_sets : (vs out : List ℕ) (at : ℕ) → at + length vs ≤ length out → sets out at vs ≡ laid out at vs
laid_sets vs out at h =
    sets-eq vs out at h
    ∙ append_assoc (take at out) vs (drop (at + length vs) out)
    ∙ ap (λ (l : List ℕ). take at out ++ (vs ++ l)) (sym (drop-drop (length vs) at out))

pub lay-room : (part : List ℕ) (long : ℕ) (out : List ℕ) → long + length part ≤ length out
    → lay part (sheet long out) ≡ sheet (long + length part) (laid out long part)
unfolding lay
lay-room part long out h = simp (le-leb (long + length part) (length out) h)

pub lay-none : (part : List ℕ) (long : ℕ) (out : List ℕ) → length out < long + length part
    → lay part (sheet long out) ≡ sheet (long + length part) out
unfolding lay
lay-none part long out h = simp (lt-leb (long + length part) (length out) h)

lay-long : (part : List ℕ) (s : Sheet) → (lay part s).long ≡ s.long + length part
unfolding lay
lay-long part s = refl

-- ---- many
pub onto-append : (ps qs : List (List ℕ)) (s : Sheet) → onto (ps ++ qs) s ≡ onto qs (onto ps s)
onto-append [] qs s = refl
onto-append (p ∷ ps) qs s = onto-append ps qs (lay p s)

pub onto-long : (parts : List (List ℕ)) (s : Sheet) → (onto parts s).long ≡ s.long + length (flatten parts)
unfolding flatten
onto-long [] s = sym (add-zero s.long)
onto-long (p ∷ parts) s =
    let i = onto-long parts (lay p s) in
    let e = lay-long p s in
    let l = length-append p (flatten parts) in
    omega (arith, i, e, l)

-- a part after what was laid before it
pub laid_more : (out before part : List ℕ) → laid (filled before out) (length before) part ≡ filled (before ++ part) out
laid_more out before part =
    let rest = drop (length before) out in
    rw (take_at before rest (length before) refl, drop_at before rest (length before) refl, append_assoc, drop-drop, length-append)

onto_behind : (parts : List (List ℕ)) (before out : List ℕ) → length before + length (flatten parts) ≤ length out
    → onto parts (sheet (length before) (filled before out))
    ≡ sheet (length (before ++ flatten parts)) (filled (before ++ flatten parts) out)
unfolding flatten
onto_behind [] before out h = ap (λ (l : List ℕ). sheet (length l) (filled l out)) (sym (append-nil before))
onto_behind (p ∷ parts) before out h =
    let n : length (p ++ flatten parts) ≡ length p + length (flatten parts) = length-append p (flatten parts) in
    let m : length (before ++ p) ≡ length before + length p = length-append before p in
    let d : length (drop (length before) out) ≡ length out - length before = length-drop (length before) out in
    let l : length (filled before out) ≡ length before + length (drop (length before) out) = length-append before
    (drop (length before) out) in
    ap (onto parts)
    (lay-room p (length before) (filled before out) (omega (arith, h, n, d, l))
    ∙ (λ i. sheet (sym m i) (laid_more out before p i)))
    ∙ onto_behind parts (before ++ p) out (omega (arith, h, n, m))
    ∙ ap (λ (x : List ℕ). sheet (length x) (filled x out)) (append_assoc before p (flatten parts))

-- where there is room for all of them they stand at the output's start, one after the other
pub onto-filled : (parts : List (List ℕ)) (out : List ℕ) → length (flatten parts) ≤ length out
    → onto parts (sheet 0 out) ≡ sheet (length (flatten parts)) (filled (flatten parts) out)
onto-filled parts out h = onto_behind parts [] out (omega (arith, h))
