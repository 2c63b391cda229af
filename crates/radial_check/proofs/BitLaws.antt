-- Names by their bits: which name is permitted, and which came before. Assumes nothing.
use Prim.Native.Nat.{ℕ, zero, suc, ◌+◌, ◌*◌, ◌/◌, ◌%◌, ◌^◌, ◌≤◌, ◌<◌, min, max}
use native.Mathlib.Nat.{add-zero, zero-mul, one-mul, mul_assoc, pow-suc, div-one, min-zero}
use native.Mathlib.Numerals.{add-one}
use native.Mathlib.Omega.{arith}
use mathlib.Core.Path.{◌≡◌, refl, sym, ap, ◌∙◌}
use mathlib.Core.Bool.{Bool, true, false, not}
use mathlib.Core.List.{List, [], ◌∷◌, ◌++◌}
use lib.Bits.{bit_and, bit_or, and_step, or_step, or_shr, and_zero_l, and_zero_r, shifted_half, shifted_even}
use lib.Dec.{eqb}
use lib.ListN.{length, get_or, drop}
use lib.Seq.{drop-cons}
use lib.Pow.{pow_pos, shr-shr}
use borrow.Author.Tests.{eqb-true, eq-eqb, ne_eqb}
use Rattle.wire.specs.Numbers.{fetched}
use Rattle.wire.specs.Checks.{pick, either, both, among}
use Rattle.wire.proofs.CheckLaws.{either_false, both_true, never}
use Rattle.wire.proofs.FiniteLaws.{all_below, below, same, same_is}
use Rattle.radial_spec.specs.Description.{permitted}
use Rattle.std.specs.Prelude.{Option, None, Some, Ok, Err}
use Rattle.std.specs.Option.{ok_or}
use Rattle.wire.specs.declared.refusal.Refusal.{Refusal}
use Rattle.radial_check.specs.Steps.{bit_from, bit_of, if_set, marked}

-- ---- a rule for every number of a list, by one test that is computed
abbrev all_of : (ℕ → Bool) → List ℕ → Bool
all_of f [] = true
all_of f (y ∷ ys) = both (f y) (all_of f ys)

among_all : (f : ℕ → Bool) (ys : List ℕ) → all_of f ys ≡ true → (x : ℕ) → among x ys ≡ true → f x ≡ true
among_all f [] e x h = never (cc h)
among_all f (y ∷ ys) e x h = go (eqb x y) refl h (λ q. among_all f ys (both_true (f y) (all_of f ys) e).1 x q)
  where
    go : (t : Bool) → eqb x y ≡ t → either t (among x ys) ≡ true → (among x ys ≡ true → f x ≡ true) → f x ≡ true
    go true p q later = ap f (eqb-true x y p) ∙ (both_true (f y) (all_of f ys) e).0
    go false p q later = later q

-- ---- a name is permitted where it has a bit
above_0 : (k : ℕ) → eqb (2 ^ k) 0 ≡ false
above_0 k = ne_eqb (2 ^ k) 0 (λ e. let z = pow_pos k in omega (arith, z, e))

listed_bit : (k : ℕ) (ns : List ℕ) (n : ℕ) → not (eqb (bit_from k ns n) 0) ≡ among n ns
listed_bit k [] n = refl
listed_bit k (x ∷ ns) n = go (eqb n x) (listed_bit (suc k) ns n)
  where
    go : (t : Bool) → not (eqb (bit_from (suc k) ns n) 0) ≡ among n ns
        → not (eqb (pick t (2 ^ k) (bit_from (suc k) ns n)) 0) ≡ either t (among n ns)
    go true h = ap not (above_0 k)
    go false h = h

pub permitted_bit : (n : ℕ) → not (eqb (bit_of n) 0) ≡ among n permitted
unfolding bit_of
permitted_bit n = listed_bit 0 permitted n

-- ---- a bit as the code gives it
set_some : (n bit : ℕ) → Some bit ≡ if_set n → (bit ≡ n) × (bit ≡ 0 → ⊥)
set_some zero bit e = never (cc e)
set_some (suc n) bit e = let same : bit ≡ suc n = cc e in (same, λ z. omega (arith, z, same))

set_none : (n : ℕ) → None ≡ if_set n → n ≡ 0
set_none zero e = refl
set_none (suc n) e = never (cc e)

some_set : (n : ℕ) → (n ≡ 0 → ⊥) → Some n ≡ if_set n
some_set zero ne = absurd (ne refl)
some_set (suc n) ne = refl

-- and of a bit that is asked for, where none is refused
module _ (n : ℕ) (o : Option ℕ) (is : o ≡ if_set n) (r : Refusal) where
  pub known_bit : (bit : ℕ) → Ok bit ≡ ok_or o r → (bit ≡ n) × (bit ≡ 0 → ⊥)
  known_bit bit e = go o is e
    where
      go : (o : Option ℕ) → o ≡ if_set n → Ok bit ≡ ok_or o r → (bit ≡ n) × (bit ≡ 0 → ⊥)
      go None f e = never (cc e)
      go (Some m) f e = let same : bit ≡ m = cc e in set_some n bit (ap Some same ∙ f)

  pub unknown_bit : (s : Refusal) → Err s ≡ ok_or o r → (s ≡ r) × (0 ≡ n)
  unknown_bit s e = go o is e
    where
      go : (o : Option ℕ) → o ≡ if_set n → Err s ≡ ok_or o r → (s ≡ r) × (0 ≡ n)
      go None f e = (cc e, sym (set_none n f))
      go (Some m) f e = never (cc e)

-- ---- the names in turn: those that are left give the bit that all give
module _ (ns : List ℕ) (i n : ℕ) (more : i < length ns) where
  this_name : bit_from i (drop i ns) n ≡ pick (eqb n (get_or ns i 0)) (2 ^ i) (bit_from (i + 1) (drop (i + 1) ns) n)
  this_name =
      ap (λ (l : List ℕ). bit_from i l n) (drop-cons ns i 0 more)
      ∙ ap (λ (k : ℕ). pick (eqb n (get_or ns i 0)) (2 ^ i) (bit_from k (drop k ns) n)) (sym (add-one i))

-- the code's table: each name by its bytes
abbrev pub named : List (List ℕ)
named = (0x44 ∷ 0x52 ∷ 0x45 ∷ 0x46 ∷ []) ∷ (0x44 ∷ 0x56 ∷ 0x45 ∷ 0x4C ∷ []) ∷ (0x44 ∷ 0x53 ∷ 0x57 ∷ 0x20 ∷ []) ∷ (0x44 ∷ 0x5A ∷ 0x44 ∷ 0x52 ∷ []) ∷ (0x44 ∷ 0x50 ∷ 0x48 ∷ 0x49 ∷ []) ∷ (0x44 ∷ 0x52 ∷ 0x48 ∷ 0x4F ∷ []) ∷ []

-- the walk stands at name i of the code's table, which is the rule's list: by one test that is computed
pub record Seeking (table : List (List ℕ)) (n bit i : ℕ) : Type 0 where
  pub rows : all_below (λ (k : ℕ). eqb (fetched 4 (get_or table k []) 0) (get_or permitted k 0)) (length permitted) ≡ true
  pub below : i ≤ length permitted
  pub power : bit ≡ 2 ^ i
  pub same : bit_from i (drop i permitted) n ≡ bit_of n

module _ (table : List (List ℕ)) (n bit i : ℕ) (s : Seeking table n bit i) where
  module _ (r : ℕ) (more : i < length permitted) (e : r ≡ fetched 4 (get_or table i []) 0) where
    row-name : r ≡ get_or permitted i 0
    row-name =
        let right : ℕ → Bool = λ k. eqb (fetched 4 (get_or table k []) 0) (get_or permitted k 0) in
        e ∙ eqb-true (fetched 4 (get_or table i []) 0) (get_or permitted i 0) (below right (length permitted) s.rows i more)

    found-bit : r ≡ n → bit ≡ bit_of n
    found-bit q = s.power ∙ sym (this_name permitted i n more ∙ simp (eq-eqb n (get_or permitted i 0) (sym q ∙ row-name))) ∙ s.same

    pub seek_found : r ≡ n → Some bit ≡ if_set (bit_of n)
    seek_found q =
        let z = pow_pos i in
        some_set bit (λ e. omega (arith, z, e, s.power)) ∙ ap if_set (found-bit q)

    pub seek-on : (r ≡ n → ⊥) → Seeking table n (bit * 2) (i + 1)
    seek-on ne = record {
      rows = s.rows;
      below = omega arith;
      power = ap (λ (k : ℕ). k * 2) s.power ∙ sym (ap (λ (k : ℕ). 2 ^ k) (add-one i) ∙ pow-suc 2 i);
      same = sym (this_name permitted i n more ∙ simp (ne_eqb n (get_or permitted i 0) (λ q. ne (row-name ∙ sym q)))) ∙ s.same;
    }

-- ---- digits
small : (i j n : ℕ) → i < 2 → j < 2 → eqb ((n * 2 + max i j) % 2) 1 ≡ either (eqb i 1) (eqb j 1)
small zero zero n h k = ne_eqb ((n * 2 + 0) % 2) 1 (λ e. omega (arith, e))
small zero (suc zero) n h k = eq-eqb ((n * 2 + 1) % 2) 1 (omega arith)
small (suc zero) zero n h k = eq-eqb ((n * 2 + 1) % 2) 1 (omega arith)
small (suc zero) (suc zero) n h k = eq-eqb ((n * 2 + 1) % 2) 1 (omega arith)
small zero (suc (suc j)) n h k = absurd (omega arith)
small (suc zero) (suc (suc j)) n h k = absurd (omega arith)
small (suc (suc i)) j n h k = absurd (omega arith)

digit : (u v : ℕ) → eqb (bit_or u v % 2) 1 ≡ either (eqb (u % 2) 1) (eqb (v % 2) 1)
digit u v = ap (λ (k : ℕ). eqb (k % 2) 1) (or_step u v) ∙ small (u % 2) (v % 2) (bit_or (u / 2) (v / 2)) (omega arith) (omega arith)

digit_at : (u v k : ℕ) → eqb (bit_or u v / 2 ^ k % 2) 1 ≡ either (eqb (u / 2 ^ k % 2) 1) (eqb (v / 2 ^ k % 2) 1)
digit_at u v k = ap (λ (n : ℕ). eqb (n % 2) 1) (or_shr u v k) ∙ digit (u / 2 ^ k) (v / 2 ^ k)

-- ---- the bit of a permitted name is a power of two
abbrev power_from : ℕ → List ℕ → ℕ → ℕ
power_from k [] n = k
power_from k (x ∷ ns) n = pick (eqb n x) k (power_from (suc k) ns n)

abbrev power : ℕ → ℕ
power n = power_from 0 permitted n

listed_power : (k : ℕ) (ns : List ℕ) (n : ℕ) → among n ns ≡ true → bit_from k ns n ≡ 2 ^ power_from k ns n
listed_power k [] n h = never (cc h)
listed_power k (x ∷ ns) n h = go (eqb n x) h (λ q. listed_power (suc k) ns n q)
  where
    go : (t : Bool) → either t (among n ns) ≡ true → (among n ns ≡ true → bit_from (suc k) ns n ≡ 2 ^ power_from (suc k) ns n)
        → pick t (2 ^ k) (bit_from (suc k) ns n) ≡ 2 ^ pick t k (power_from (suc k) ns n)
    go true p later = refl
    go false p later = later p

bit_power : (n : ℕ) → among n permitted ≡ true → bit_of n ≡ 2 ^ power n
unfolding bit_of
bit_power n p = listed_power 0 permitted n p

-- the digit that it picks out
and_power : (u k : ℕ) → bit_and u (2 ^ k) ≡ (u / 2 ^ k % 2) * 2 ^ k
and_power u zero =
    and_step u 1
    ∙ ap (λ (n : ℕ). n * 2 + min (u % 2) 1) (and_zero_r (u / 2))
    ∙ one (u % 2) (omega arith)
    ∙ ap (λ (n : ℕ). n % 2 * 1) (sym (div-one u))
  where
    one : (d : ℕ) → d < 2 → 0 * 2 + min d 1 ≡ d * 1
    one zero h = refl
    one (suc zero) h = refl
    one (suc (suc d)) h = absurd (omega arith)
and_power u (suc k) =
    and_step u (2 ^ suc k)
    ∙ (λ i. bit_and (u / 2) (half i) * 2 + min (u % 2) (even i))
    ∙ (λ i. and_power (u / 2) k i * 2 + min-zero (u % 2) i)
    ∙ ap (λ (n : ℕ). (n % 2) * 2 ^ k * 2 + 0) (shr-shr u 1 k ∙ ap (λ (n : ℕ). u / 2 ^ n) next)
    ∙ last (u / 2 ^ suc k % 2)
  where
    half : 2 ^ suc k / 2 ≡ 2 ^ k
    half = ap (λ (n : ℕ). n / 2) (sym (one-mul (2 ^ suc k))) ∙ shifted_half 1 k ∙ one-mul (2 ^ k)

    even : 2 ^ suc k % 2 ≡ 0
    even = ap (λ (n : ℕ). n % 2) (sym (one-mul (2 ^ suc k))) ∙ shifted_even 1 k

    next : 1 + k ≡ suc k
    next = omega arith

    last : (d : ℕ) → d * 2 ^ k * 2 + 0 ≡ d * 2 ^ suc k
    last d = add-zero (d * 2 ^ k * 2) ∙ mul_assoc d (2 ^ k) 2 ∙ ap (λ (m : ℕ). d * m) (sym (pow-suc 2 k))

set : (d k : ℕ) → d < 2 → not (eqb (d * 2 ^ k) 0) ≡ eqb d 1
set zero k h = ap (λ (n : ℕ). not (eqb n 0)) (zero-mul (2 ^ k))
set (suc zero) k h = ap (λ (n : ℕ). not (eqb n 0)) (one-mul (2 ^ k)) ∙ ap not (above_0 k)
set (suc (suc d)) k h = absurd (omega arith)

marked-digit : (seen y : ℕ) → among y permitted ≡ true → marked seen y ≡ eqb (seen / 2 ^ power y % 2) 1
marked-digit seen y p =
    ap (λ (n : ℕ). not (eqb (bit_and seen n) 0)) (bit_power y p)
    ∙ ap (λ (n : ℕ). not (eqb n 0)) (and_power seen (power y))
    ∙ set (seen / 2 ^ power y % 2) (power y) (omega arith)

-- no two permitted names have one bit
abbrev apart : ℕ → ℕ → Bool
apart x y = same (eqb (bit_of x / 2 ^ power y % 2) 1) (eqb y x)

own_bit : (x y : ℕ) → among x permitted ≡ true → among y permitted ≡ true → eqb (bit_of x / 2 ^ power y % 2) 1 ≡ eqb y x
unfolding bit_of
own_bit x y p q =
    same_is (eqb (bit_of x / 2 ^ power y % 2) 1) (eqb y x)
    (among_all (apart x) permitted (among_all (λ (x : ℕ). all_of (apart x) permitted) permitted refl x p) y q)

-- ---- the bits are those of the names met
among_snoc : (y : ℕ) (ns : List ℕ) (x : ℕ) → among y (ns ++ (x ∷ [])) ≡ either (among y ns) (eqb y x)
among_snoc y [] x = either_false (eqb y x)
among_snoc y (n ∷ ns) x = go (eqb y n) (among_snoc y ns x)
  where
    go : (t : Bool) → among y (ns ++ (x ∷ [])) ≡ either (among y ns) (eqb y x)
        → either t (among y (ns ++ (x ∷ []))) ≡ either (either t (among y ns)) (eqb y x)
    go true h = refl
    go false h = h

abbrev pub Marks : ℕ → List ℕ → Type 0
Marks seen names = (y : ℕ) → among y permitted ≡ true → marked seen y ≡ among y names

pub marks_none : Marks 0 []
marks_none y p = ap (λ (n : ℕ). not (eqb n 0)) (and_zero_l (bit_of y))

pub marks_more : (seen : ℕ) (names : List ℕ) (x : ℕ) → Marks seen names → among x permitted ≡ true
    → Marks (bit_or seen (bit_of x)) (names ++ (x ∷ []))
marks_more seen names x m p y q =
    marked-digit (bit_or seen (bit_of x)) y q
    ∙ digit_at seen (bit_of x) (power y)
    ∙ ap (λ (t : Bool). either t (eqb (bit_of x / 2 ^ power y % 2) 1)) (sym (marked-digit seen y q) ∙ m y q)
    ∙ ap (λ (t : Bool). either (among y names) t) (own_bit x y p q)
    ∙ sym (among_snoc y names x)
