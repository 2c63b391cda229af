-- Bodies by a table of ranges: what is read of one is its table, and reading and writing undo each other. Assumes nothing.
use Prim.Native.Nat.{ℕ, zero, suc, ◌+◌, ◌*◌, ◌^◌, ◌≤◌, ◌<◌}
use native.Mathlib.Omega.{arith}
use mathlib.Core.Path.{◌≡◌, refl, sym, ap, ◌∙◌, subst}
use mathlib.Core.Bool.{Bool, false, not}
use mathlib.Core.List.{List, [], ◌∷◌, ◌++◌, append-nil, append_assoc, map}
use borrow.Author.Tests.{eqb-true, eq-eqb, not-false, le-ltb}
use lib.Dec.{ltb}
use lib.ListN.{length, get_or, take, drop, length-append}
use lib.Seq.{take_all, drop-drop, drop_at, get_or-drop}
use Rattle.wire.specs.Properties.{Each}
use Rattle.wire.specs.Numbers.{num, nums, Octets}
use Rattle.wire.specs.Tables.{Field, field, render, total, Fit, Spells}
use Rattle.wire.specs.Checks.{pick, either, Check, check, decide, some_broken, AllHold}
use Rattle.wire.specs.Answers.{refused, given}
use Rattle.wire.specs.Writing.{wrote}
use Rattle.form_spec.specs.Forms.{within, outside, Row, times, long, numbers_at, table_by, field_checks, Form, rows_of, count_of, form_checks, count_in, numbers_in, body_checks, read_by, list_checks, body_by, written_by}
use Rattle.wire.specs.declared.Bytes.{Bytes}
use Rattle.wire.proofs.EachLaws.{each_append}
use Rattle.wire.proofs.CheckLaws.{AllNumbered, decide-none, decide-append, decide-same, some_broken-append, none_broken, all_hold, all_hold_append, all_hold_join}
use Rattle.wire.proofs.AnswerLaws.{rule_given}
use Rattle.wire.proofs.TableLaws.{render-length, reads_back, spelt}
use Rattle.wire.proofs.WriteLaws.{accepted, wrote_all}

-- ---- ranges
pub outside_from : (x least most : ℕ) → least ≤ x → outside (within least most) x ≡ ltb most x
unfolding outside
outside_from x least most h = simp (le-ltb x least h)

-- ---- rows
-- every field's number of refusal is 24
pub fields_24 : (rs : List Row) (list : List ℕ) → AllNumbered 24 (field_checks rs list)
fields_24 [] list = tt
fields_24 (r ∷ rs) list = (refl, fields_24 rs (drop 1 list))

-- rows after rows
pub fields-append : (rs ss : List Row) (list : List ℕ)
    → field_checks (rs ++ ss) list ≡ field_checks rs list ++ field_checks ss (drop (length rs) list)
fields-append [] ss list = refl
fields-append (r ∷ rs) ss list =
    let e : 1 + length rs ≡ suc (length rs) = omega arith in
    ap (λ (ks : List Check). check 24 (outside r.range (get_or list 0 0)) ∷ ks)
    (fields-append rs ss (drop 1 list)
    ∙ ap (λ (l : List ℕ). field_checks rs (drop 1 list) ++ field_checks ss l)
    (drop-drop (length rs) 1 list ∙ ap (λ (k : ℕ). drop k list) e))

long-append : (rs ss : List Row) → long (rs ++ ss) ≡ long rs + long ss
long-append [] ss = omega arith
long-append (r ∷ rs) ss = omega (arith, long-append rs ss)

long-take : (k : ℕ) (rs : List Row) → long (take k rs) ≤ long rs
long-take zero rs = omega arith
long-take (suc k) [] = omega arith
long-take (suc k) (r ∷ rs) = omega (arith, long-take k rs)

pub times_long : (n : ℕ) (rows : List Row) → long (times n rows) ≡ n * long rows
times_long zero rows = omega arith
times_long (suc n) rows = omega (arith, long-append rows (times n rows), times_long n rows)

pub numbers-count : (rs : List Row) (b : List ℕ) (p : ℕ) → length (numbers_at rs b p) ≡ length rs
numbers-count [] b p = refl
numbers-count (r ∷ rs) b p = ap suc (numbers-count rs b (p + r.wide))

-- the numbers of the first rows do not depend on the rows after them
pub numbers-first : (rs ss : List Row) (b : List ℕ) (p k : ℕ) → k < length rs
    → get_or (numbers_at (rs ++ ss) b p) k 0 ≡ get_or (numbers_at rs b p) k 0
numbers-first [] ss b p k h = absurd (omega arith)
numbers-first (r ∷ rs) ss b p zero h = refl
numbers-first (r ∷ rs) ss b p (suc k) h = numbers-first rs ss b (p + r.wide) k (omega arith)

-- numbers past the rows say nothing
pub fields_alone : (rs : List Row) (l t : List ℕ) → length rs ≤ length l → field_checks rs (l ++ t) ≡ field_checks rs l
fields_alone [] l t h = refl
fields_alone (r ∷ rs) [] t h = absurd (omega arith)
fields_alone (r ∷ rs) (x ∷ l) t h = ap (λ (ks : List Check). check 24 (outside r.range x) ∷ ks) (fields_alone rs l t (omega arith))

-- rows once more: those of the first numbers, and those after them
pub times-next : (rows : List Row) (n : ℕ) (x rest : List ℕ) → length x ≡ length rows
    → some_broken (field_checks (times (suc n) rows) (x ++ rest))
    ≡ either (some_broken (field_checks rows x)) (some_broken (field_checks (times n rows) rest))
times-next rows n x rest h =
    ap some_broken
    (fields-append rows (times n rows) (x ++ rest)
    ∙ ap (λ (l : List ℕ). field_checks rows (x ++ rest) ++ field_checks (times n rows) l) (drop_at x rest (length rows) h)
    ∙ ap (λ (ks : List Check). ks ++ field_checks (times n rows) rest) (fields_alone rows x rest (omega arith)))
    ∙ some_broken-append (field_checks rows x) (field_checks (times n rows) rest)

pub times-count : (n : ℕ) (rows : List Row) → length (times n rows) ≡ n * length rows
times-count zero rows = omega arith
times-count (suc n) rows = omega (arith, length-append rows (times n rows), times-count n rows)

-- rows of one width
abbrev pub AllWide : ℕ → List Row → Type 0
AllWide w rs = Each (λ (r : Row). r.wide ≡ w) rs

pub times-wide : (w n : ℕ) (rows : List Row) → AllWide w rows → AllWide w (times n rows)
times-wide w zero rows a = tt
times-wide w (suc n) rows a = each_append (λ (r : Row). r.wide ≡ w) rows (times n rows) a (times-wide w n rows a)

pub numbers-wide : (w : ℕ) (rs : List Row) (b : List ℕ) (p : ℕ) → AllWide w rs → numbers_at rs b p ≡ nums w b p (length rs)
numbers-wide w [] b p a = refl
numbers-wide w (r ∷ rs) b p a = rw a.0 (ap (λ (l : List ℕ). num w b p ∷ l) (numbers-wide w rs b (p + w) a.1))

-- ---- as tables
pub table-wide : (w : ℕ) (rs : List Row) (list : List ℕ) → AllWide w rs → length list ≡ length rs → table_by rs list ≡ map (field w) list
table-wide w [] [] a e = refl
table-wide w [] (x ∷ list) a e = absurd (omega arith)
table-wide w (r ∷ rs) [] a e = absurd (omega arith)
table-wide w (r ∷ rs) (x ∷ list) a e = rw a.0 (ap (λ (fs : List Field). field w x ∷ fs) (table-wide w rs list a.1 (omega arith)))

table-total : (rs : List Row) (list : List ℕ) → total (table_by rs list) ≡ long rs
table-total [] list = refl
table-total (r ∷ rs) list = ap (λ (k : ℕ). r.wide + k) (table-total rs (drop 1 list))

pub body_long : (rs : List Row) (list : List ℕ) → length (render (table_by rs list)) ≡ long rs
body_long rs list = render-length (table_by rs list) ∙ table-total rs list

-- numbers that are small enough for one width fit a table of it
pub table_fits : (w : ℕ) (rs : List Row) (list : List ℕ) → AllWide w rs → ((i : ℕ) → get_or list i 0 < 256 ^ w) → Fit (table_by rs list)
table_fits w [] list a h = tt
table_fits w (r ∷ rs) list a h =
    (rw a.0 (h 0), table_fits w rs (drop 1 list) a.1 (λ i. rw (get_or-drop 1 list i 0) (h (1 + i))))

-- numbers that were read, and numbers that a table spells
numbers_spell : (rs : List Row) (b : List ℕ) (p : ℕ) → Spells b p (table_by rs (numbers_at rs b p))
numbers_spell [] b p = tt
numbers_spell (r ∷ rs) b p = (refl, numbers_spell rs b (p + r.wide))

spell_numbers : (rs : List Row) (b : List ℕ) (p : ℕ) (list : List ℕ) → length list ≡ length rs → Spells b p (table_by rs list)
    → numbers_at rs b p ≡ list
spell_numbers [] b p [] e s = refl
spell_numbers [] b p (x ∷ list) e s = absurd (omega arith)
spell_numbers (r ∷ rs) b p [] e s = absurd (omega arith)
spell_numbers (r ∷ rs) b p (x ∷ list) e s = cc (s.0, spell_numbers rs b (p + r.wide) list (omega arith) s.1)

-- a body of just those bytes is the table of its numbers
rendered : (rs : List Row) (b : List ℕ) → Octets b → length b ≡ long rs → b ≡ render (table_by rs (numbers_at rs b 0))
rendered rs b o e =
    let fs = table_by rs (numbers_at rs b 0) in
    let t : total fs ≡ long rs = table-total rs (numbers_at rs b 0) in
    sym (take_all (length (render fs)) b (omega (arith, render-length fs)))
    ∙ spelt fs b 0 o (omega arith) (numbers_spell rs b 0)

-- ---- bodies
-- the ways to be refused, in turn, and then the checks `rest`
pub form_decide : {X : Type 0} (f : Form) (a m : Bool) (list : List ℕ) (rest : List Check) (g : ℕ → X) (ok : X)
    → decide (form_checks f a m list ++ rest) g ok
    ≡ pick a (g 23) (decide (f.early (count_of f list)) g
    (pick m (g 23) (pick (some_broken (field_checks (rows_of f (count_of f list)) list)) (g 24) (decide rest g ok))))
form_decide {X} f a m list rest g ok =
    let early = f.early (count_of f list) in
    let fields = field_checks (rows_of f (count_of f list)) list in
    ap (λ (x : X). pick a (g 23) x)
    (ap (λ (ks : List Check). decide ks g ok) (append_assoc early (check 23 m ∷ fields) rest)
    ∙ decide-append early (check 23 m ∷ (fields ++ rest)) g ok
    ∙ ap (λ (x : X). decide early g (pick m (g 23) x)) (decide-same 24 fields rest g ok (fields_24 (rows_of f (count_of f list)) list)))

module _ (f : Form) (there : f.counter < length f.front) where
  -- the count of a body is the count of its numbers
  counted : (body : List ℕ) (n : ℕ) → get_or (numbers_at (rows_of f n) body 0) f.counter 0 ≡ count_in f body
  counted body n = numbers-first f.front (f.rest n) body 0 f.counter there

  -- checks that hold, where the count is absent or not and the length another or not
  fits : (a m : Bool) (list : List ℕ) → AllHold (form_checks f a m list) → m ≡ false
  fits a m list h = (all_hold_append (f.early (count_of f list)) (check 23 m ∷ field_checks (rows_of f (count_of f list)) list) h.1).1.0

  hold_as : (a m a' m' : Bool) (l list : List ℕ) → l ≡ list → AllHold (form_checks f a m l) → a' ≡ false → m' ≡ false
      → AllHold (form_checks f a' m' list)
  hold_as a m a' m' l list e h p q =
      let early = f.early (count_of f list) in
      let rest = field_checks (rows_of f (count_of f list)) list in
      let s = all_hold_append early (check 23 m ∷ rest) (subst (λ (x : List ℕ). AllHold (form_checks f a m x)) e h).1 in
      (p, all_hold_join early (check 23 m' ∷ rest) s.0 (q, s.1.1))

  -- a body that is accepted: its numbers, its length, and that it is their table
  pub read-long : (body list : List ℕ) → read_by f body ≡ given list → length body ≡ long (rows_of f (count_in f body))
  read-long body list e =
      let p = rule_given (body_checks f body) (numbers_in f body) list e in
      eqb-true (length body) (long (rows_of f (count_in f body)))
      (not-false _ (fits _ _ (numbers_in f body) (all_hold (body_checks f body) p.0)))

  pub read_is_table : (body list : List ℕ) → Octets body → read_by f body ≡ given list → body ≡ body_by f list
  read_is_table body list o e =
      let p = rule_given (body_checks f body) (numbers_in f body) list e in
      let n : count_in f body ≡ count_of f list = sym (counted body (count_in f body)) ∙ ap (count_of f) p.1 in
      rendered (rows_of f (count_in f body)) body o (read-long body list e)
      ∙ ap (λ (k : ℕ). render (table_by (rows_of f k) (numbers_in f body))) n
      ∙ ap (λ (l : List ℕ). render (table_by (rows_of f (count_of f list)) l)) p.1

  -- ---- what is written is read
  module _ (list : List ℕ) (h : AllHold (list_checks f list)) (fit : Fit (table_by (rows_of f (count_of f list)) list)) where
    abbrev rows : List Row
    rows = rows_of f (count_of f list)

    list-long : length list ≡ length rows
    list-long = eqb-true (length list) (length rows) (not-false _ (fits _ _ list h))

    body-numbers : numbers_at rows (body_by f list) 0 ≡ list
    body-numbers =
        spell_numbers rows (body_by f list) 0 list list-long
        (subst (λ (b : List ℕ). Spells b 0 (table_by rows list)) (append-nil (body_by f list)) (reads_back (table_by rows list) [] fit))

    body-count : count_in f (body_by f list) ≡ count_of f list
    body-count = sym (counted (body_by f list) (count_of f list)) ∙ ap (count_of f) body-numbers

    pub body-is-read : read_by f (body_by f list) ≡ given list
    body-is-read =
        let body = body_by f list in
        let n : numbers_in f body ≡ list = ap (λ (k : ℕ). numbers_at (rows_of f k) body 0) body-count ∙ body-numbers in
        let l : length body ≡ long (rows_of f (count_in f body)) = body_long rows list ∙ ap (λ (k : ℕ). long (rows_of f k)) (sym body-count) in
        let a : long (take (suc f.counter) f.front) ≤ length body
        = omega (arith, body_long rows list, long-take (suc f.counter) f.front, long-append f.front (f.rest (count_of f list))) in
        let k : AllHold (body_checks f body)
        = hold_as _ _ _ _ list (numbers_in f body) (sym n) h (le-ltb (length body) _ a)
        (ap not (eq-eqb (length body) _ l)) in
        decide-none (body_checks f body) refused (given (numbers_in f body)) (none_broken (body_checks f body) k) ∙ ap given n

  pub written_is_read : (list out : List ℕ) (size : Bytes) → Fit (table_by (rows_of f (count_of f list)) list)
      → (written_by f list out).answer ≡ given size → read_by f (take size.0 (written_by f list out).output) ≡ given list
  written_is_read list out size fit e =
      let a = accepted (list_checks f list) (body_by f list) out size e in
      ap (read_by f) a.1 ∙ body-is-read list a.0 fit

  -- ---- what is read is written
  pub read_is_written : (body list out : List ℕ) → Octets body → read_by f body ≡ given list → length body ≤ length out
      → written_by f list out ≡ wrote body out
  read_is_written body list out o e room =
      let p = rule_given (body_checks f body) (numbers_in f body) list e in
      let n : count_in f body ≡ count_of f list = sym (counted body (count_in f body)) ∙ ap (count_of f) p.1 in
      let c : length list ≡ length (rows_of f (count_of f list))
      = ap length (sym p.1) ∙ numbers-count (rows_of f (count_in f body)) body 0 ∙ ap (λ (k : ℕ). length (rows_of f k)) n in
      let d : suc f.counter ≤ length list = omega (arith, there, length-append f.front (f.rest (count_of f list))) in
      let k : AllHold (list_checks f list)
      = hold_as _ _ _ _ (numbers_in f body) list p.1 (all_hold (body_checks f body) p.0)
      (le-ltb (length list) _ d) (ap not (eq-eqb (length list) _ c)) in
      wrote_all (list_checks f list) (body_by f list) out k (rw (← read_is_table body list o e) room)
      ∙ ap (λ (b : List ℕ). wrote b out) (sym (read_is_table body list o e))
