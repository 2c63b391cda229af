-- Laws of big-endian numbers: what a number depends on, that a fetch gives it, and that the bytes of a number spell it. Assumes nothing.
use Prim.Native.Nat.{ℕ, zero, suc, ◌+◌, ◌*◌, ◌/◌, ◌%◌, ◌^◌, ◌≤◌, ◌<◌}
use native.Mathlib.Nat.{add-zero, zero-add, add-suc, add_assoc, mul-zero, mul-suc, mul_assoc, pow-zero, pow-suc, div-lt_iff_lt-mul}
use native.Mathlib.Omega.{arith}
use mathlib.Core.Path.{◌≡◌, refl, sym, ap, ◌∙◌}
use mathlib.Core.List.{List, [], ◌∷◌, ◌++◌, append_assoc}
use lib.ListN.{length, get_or, take, drop, length-append, length-drop, get_or-append}
use lib.Seq.{get_or-drop, get_or-take, get_or_at, take-suc, length-take-le}
use borrow.Author.Tests.{le-leb, lt-leb}
use Rattle.wire.specs.Numbers.{num, fetched, nums, be, stored, Octets}
use Rattle.wire.specs.Sheets.{laid}

-- ---- a fetch
pub fetched-whole : (w : ℕ) (b : List ℕ) (p : ℕ) → p + w ≤ length b → fetched w b p ≡ num w b p
unfolding fetched
fetched-whole w b p h = simp (le-leb (p + w) (length b) h)

pub fetched_short : (w : ℕ) (b : List ℕ) (p : ℕ) → length b < p + w → fetched w b p ≡ 0
unfolding fetched
fetched_short w b p h = simp (lt-leb (p + w) (length b) h)

-- what a fetch answered is the number there
pub number_is : (w : ℕ) (b : List ℕ) (p r : ℕ) → r ≡ fetched w b p → p + w ≤ length b → num w b p ≡ r
number_is w b p r e h = sym (e ∙ fetched-whole w b p h)

-- ---- a store
pub stored-whole : (w : ℕ) (out : List ℕ) (p n : ℕ) → p + w ≤ length out → stored w out p n ≡ laid out p (be w n)
unfolding stored
stored-whole w out p n h = simp (le-leb (p + w) (length out) h)

pub stored_short : (w : ℕ) (out : List ℕ) (p n : ℕ) → length out < p + w → stored w out p n ≡ out
unfolding stored
stored_short w out p n h = simp (lt-leb (p + w) (length out) h)

-- ---- a number by its bytes
pub num-one : (b : List ℕ) (p : ℕ) → num 1 b p ≡ get_or b p 0
unfolding num
num-one b p = rw add-zero (omega arith)

pub num-two : (b : List ℕ) (p : ℕ) → num 2 b p ≡ get_or b p 0 * 256 + get_or b (p + 1) 0
unfolding num
num-two b p = rw add-zero (omega arith)

pub num-four : (b : List ℕ) (p : ℕ) → num 4 b p ≡ get_or b p 0 * 16777216 + get_or b (p + 1) 0 * 65536 + get_or b (p + 2) 0 * 256 + get_or
    b (p + 3) 0
unfolding num
num-four b p = rw add-zero (omega arith)

-- the number in the v bytes from p on, and the one in the w bytes after them
pub num_beside : (v w : ℕ) (b : List ℕ) (p : ℕ) → num (v + w) b p ≡ num v b p * 256 ^ w + num w b (p + v)
unfolding num
num_beside v zero b p = rw (add-zero v, pow-zero) (omega arith)
num_beside v (suc w) b p =
    let high : num v b p * 256 ^ suc w ≡ num v b p * 256 ^ w * 256 =
    ap (λ (k : ℕ). num v b p * k) (pow-suc 256 w) ∙ sym (mul_assoc (num v b p) (256 ^ w) 256) in
    let last : p + (v + w) ≡ p + v + w = omega arith in
    rw (add-suc v w, last) (omega (arith, num_beside v w b p, high))

-- a number depends on its own bytes alone
pub num-same : (w : ℕ) (b b' : List ℕ) (p p' : ℕ) → ((i : ℕ) → i < w → get_or b (p + i) 0 ≡ get_or b' (p' + i) 0) → num w b p ≡ num w b' p'
unfolding num
num-same zero b b' p p' f = refl
num-same (suc w) b b' p p' f = cc (num-same w b b' p p' (λ i h. f i (omega arith)), f w (omega arith))

pub num-drop : (w : ℕ) (b : List ℕ) (q p : ℕ) → num w (drop q b) p ≡ num w b (q + p)
num-drop w b q p = num-same w (drop q b) b p (q + p) (λ i h. get_or-drop q b (p + i) 0 ∙ ap (λ (k : ℕ). get_or b k 0) (sym (add_assoc q p i)))

pub num-take : (w n : ℕ) (b : List ℕ) (p : ℕ) → p + w ≤ n → num w (take n b) p ≡ num w b p
num-take w n b p h = num-same w (take n b) b p p (λ i k. get_or-take n b (p + i) 0 (omega arith))

-- the number in a part that was cut out of b, and a fetch from there
pub num-cut : (w n : ℕ) (b : List ℕ) (p k : ℕ) → k + w ≤ n → num w (take n (drop p b)) k ≡ num w b (p + k)
num-cut w n b p k h = num-take w n (drop p b) k h ∙ num-drop w b p k

pub cut_is : (w n : ℕ) (b : List ℕ) (p k r : ℕ) → k + w ≤ n → p + n ≤ length b → r ≡ fetched w (take n (drop p b)) k → r ≡ num w b (p + k)
cut_is w n b p k r h i e =
    let long : length (take n (drop p b)) ≡ n = length-take-le n (drop p b) (rw length-drop (omega arith)) in
    e ∙ fetched-whole w (take n (drop p b)) k (rw long h) ∙ num-cut w n b p k h

pub num-append : (w : ℕ) (b t : List ℕ) (p : ℕ) → p + w ≤ length b → num w (b ++ t) p ≡ num w b p
num-append w b t p h = num-same w (b ++ t) b p p (λ i k. get_or-append b t 0 (p + i) (omega arith))

-- what is left of bytes is bytes
pub octets_drop : (n : ℕ) (b : List ℕ) → Octets b → Octets (drop n b)
octets_drop n b o i = rw (get_or-drop n b i 0) (o (n + i))

pub num-fits : (w : ℕ) (b : List ℕ) (p : ℕ) → Octets b → num w b p < 256 ^ w
unfolding num
num-fits zero b p o = rw pow-zero (omega arith)
num-fits (suc w) b p o = rw pow-suc (omega (arith, num-fits w b p o, o (p + w)))

-- ---- a run of numbers of one width
pub nums-length : (w : ℕ) (b : List ℕ) (p n : ℕ) → length (nums w b p n) ≡ n
nums-length w b p zero = refl
nums-length w b p (suc n) = ap suc (nums-length w b (p + w) n)

-- number i of a run: one law for every width
pub nums_at : (w : ℕ) (b : List ℕ) (p n i : ℕ) → i < n → get_or (nums w b p n) i 0 ≡ num w b (p + i * w)
nums_at w b p zero i h = absurd (omega arith)
nums_at w b p (suc n) zero h = let e : p + 0 * w ≡ p = omega arith in rw e
nums_at w b p (suc n) (suc i) h = let e : p + suc i * w ≡ p + w + i * w = omega arith in rw e (nums_at w b (p + w) n i (omega arith))

pub nums_snoc : (w : ℕ) (b : List ℕ) (p n : ℕ) → nums w b p (suc n) ≡ nums w b p n ++ (num w b (p + w * n) ∷ [])
nums_snoc w b p zero = let e : p ≡ p + w * 0 = omega (arith, mul-zero w) in ap (λ (k : ℕ). num w b k ∷ []) e
nums_snoc w b p (suc n) =
    let e : p + w + w * n ≡ p + w * suc n = omega (arith, mul-suc w n) in
    ap (λ (l : List ℕ). num w b p ∷ l) (nums_snoc w b (p + w) n)
    ∙ ap (λ (k : ℕ). num w b p ∷ (nums w b (p + w) n ++ (num w b k ∷ []))) e

-- ---- the bytes of a number
pub be-length : (w n : ℕ) → length (be w n) ≡ w
be-length zero n = refl
be-length (suc w) n = simp length-append (omega (arith, be-length w (n / 256)))

pub num-be : (w n : ℕ) (t : List ℕ) → n < 256 ^ w → num w (be w n ++ t) 0 ≡ n
unfolding num
num-be zero n t h = let k : n < 1 = rw pow-zero at h in omega arith
num-be (suc w) n t h =
    let k : n < 256 ^ w * 256 = rw pow-suc at h in
    let q : n / 256 < 256 ^ w = (div-lt_iff_lt-mul {k = 256} (omega arith)).1 k in
    let e : (be w (n / 256) ++ (n % 256 ∷ [])) ++ t ≡ be w (n / 256) ++ (n % 256 ∷ t) = append_assoc (be w (n / 256)) (n % 256 ∷ []) t in
    rw (e, zero-add w)
    (rw (num-be w (n / 256) (n % 256 ∷ t) q, get_or_at (be w (n / 256)) (n % 256) t 0 w (be-length w (n / 256))) (omega arith))

pub be-num : (w : ℕ) (b : List ℕ) (p : ℕ) → Octets b → p + w ≤ length b → be w (num w b p) ≡ take w (drop p b)
unfolding num
be-num zero b p o h = refl
be-num (suc w) b p o h =
    let x = o (p + w) in
    let q : (num w b p * 256 + get_or b (p + w) 0) / 256 ≡ num w b p = omega arith in
    let r : (num w b p * 256 + get_or b (p + w) 0) % 256 ≡ get_or b (p + w) 0 = omega arith in
    let l : w < length (drop p b) = rw length-drop (omega arith) in
    let i : be w (num w b p) ≡ take w (drop p b) = be-num w b p o (omega arith) in
    simp (q, r, i, take-suc (drop p b) w 0 l, get_or-drop)
