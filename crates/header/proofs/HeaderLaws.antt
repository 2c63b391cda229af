-- Laws of the header's checks, and what a message answers by them. Assumes nothing.
use Prim.Native.Nat.{ℕ, ◌≤◌, ◌<◌}
use mathlib.Core.Path.{◌≡◌, refl, sym, ap, ◌∙◌}
use mathlib.Core.Bool.{Bool, true, false, not}
use mathlib.Core.List.{List, [], ◌∷◌, ◌++◌}
use native.Mathlib.Omega.{arith}
use lib.Dec.{ltb, eqb}
use lib.ListN.{length}
use borrow.Author.Tests.{lt-ltb, le-ltb, ne_eqb, ltb-false, eqb-true}
use Rattle.wire.specs.Numbers.{fetched}
use Rattle.wire.specs.Checks.{pick, both, Check, check, decide, some_broken}
use Rattle.wire.specs.Answers.{refused, given}
use Rattle.wire.specs.Sizes.{halfwords, halved}
use Rattle.wire.proofs.CheckLaws.{never, pick_same, both_true, AllAbove0, AllNumbered, decide-same, decide_number}
use Rattle.wire.proofs.EachLaws.{each_append}
use Rattle.wire.proofs.NumberLaws.{fetched-whole}
use Rattle.header_rule.proofs.RuleLaws.{by_form, marked_large, number_twice}
use Rattle.header.specs.declared.Header.{Header}
use Rattle.header.specs.declared.Stored.{Stored}
use Rattle.header_rule.specs.Rules.{marked, length_in, reported_number, size_checks, not_permitted, segment_checks, time_checks}
use Rattle.header.specs.Header.{header_size, channel_place, sequence_place, count_place, number_place, stored_in, is_long, size_of, count_of, as_reported}
use Rattle.header.specs.Header.{header_in, header_of, form_checks_of, later_checks, header_checks}
use Rattle.header.specs.Steps.{stored_or0, refusal_of, accepted_short, reported_short}

-- the checks of a message of `long` bytes with the stored values s, one test for each number
module _ (s : Stored) (long : ℕ) where
  abbrev forms : List Check
  forms = form_checks_of s long

  abbrev segs : List Check
  segs = segment_checks (size_of s) s.kind (count_of s) (reported_number (count_of s) s.number)

  abbrev times : List Check
  times = time_checks s.date s.milliseconds

  all_five : AllNumbered 5 forms
  all_five =
      by_form (AllNumbered 5) s.size s.kind s.segments s.number long (refl, (refl, (refl, (refl, tt)))) tt
      (refl, (refl, (refl, (refl, tt))))

  pub header-decides {ℓ} : {X : Type ℓ} (f : ℕ → X) (ok : X)
      → decide (check 4 (ltb long header_size) ∷ forms ++ later_checks (as_reported s)) f ok
      ≡ pick (ltb long header_size) (f 4)
      (pick (some_broken forms) (f 5)
      (pick (not_permitted s.kind) (f 6) (pick (some_broken segs) (f 7) (pick (some_broken times) (f 8) ok))))
  header-decides {X} f ok =
      let t : decide times f ok ≡ pick (some_broken times) (f 8) ok = decide-same 8 times [] f ok (refl, (refl, tt)) in
      let g : decide (segs ++ times) f ok ≡ pick (some_broken segs) (f 7) (decide times f ok) =
      decide-same 7 segs times f ok (refl, (refl, (refl, (refl, (refl, (refl, tt))))))
      in
      let z = decide-same 5 forms (later_checks (as_reported s)) f ok all_five in
      ap (λ (x : X). pick (ltb long header_size) (f 4) x)
      (z ∙ ap (λ (x : X). pick (some_broken forms) (f 5) (pick (not_permitted s.kind) (f 6) x))
      (g ∙ ap (λ (x : X). pick (some_broken segs) (f 7) x) t))

  -- the number of refusal, by one test for each number
  refusal_is : refusal_of s long
      ≡ pick (ltb long header_size) 4
      (pick (some_broken forms) 5 (pick (not_permitted s.kind) 6 (pick (some_broken segs) 7 (pick (some_broken times) 8 0))))
  unfolding refusal_of
  refusal_is = header-decides (λ (n : ℕ). n) 0

  -- by the header reported, whose number is the one reported already
  pub refusal_by : (h : Header) → h ≡ as_reported s → (n : ℕ)
      → n ≡ pick (ltb long header_size) 4
      (pick (some_broken forms) 5
      (pick (not_permitted h.kind) 6
      (pick (some_broken (segment_checks h.size h.kind h.segments (reported_number h.segments h.number))) 7
      (pick (some_broken (time_checks h.date h.milliseconds)) 8 0))))
      → n ≡ refusal_of s long
  refusal_by h is n e = rw (is, number_twice) at e ∙ sym refusal_is

  -- whether it is accepted in the short form, by the short form's tests
  abbrev sizes : List Check
  sizes = size_checks s.size long

  abbrev short-segs : List Check
  short-segs = segment_checks s.size s.kind s.segments (reported_number s.segments s.number)

  abbrev short-tests : Bool
  short-tests =
      pick (ltb long header_size) false
      (pick (some_broken sizes) false
      (pick (not_permitted s.kind) false (pick (some_broken short-segs) false (pick (some_broken times) false true))))

  pub short_by : (r : Bool) → r ≡ short-tests → r ≡ accepted_short s long
  unfolding accepted_short
  short_by r e = e ∙ go (marked s.size) refl
    where
      tests : (a b c d e : Bool)
          → pick a false (pick b false (pick c false (pick d false (pick e false true))))
          ≡ eqb (pick a 4 (pick b 5 (pick c 6 (pick d 7 (pick e 8 0))))) 0
      tests true b c d e = refl
      tests false true c d e = refl
      tests false false true d e = refl
      tests false false false true e = refl
      tests false false false false true = refl
      tests false false false false false = refl

      go : (t : Bool) → marked s.size ≡ t → short-tests ≡ both (not (marked s.size)) (eqb (refusal_of s long) 0)
      go true m = simp (marked_large s.size long m, m, pick_same)
      go false m =
          tests (ltb long header_size) (some_broken sizes) (not_permitted s.kind) (some_broken short-segs) (some_broken times)
          ∙ rw (refusal_is, m)

  -- none of these numbers is 0
  checks_above_0 : AllAbove0 (check 4 (ltb long header_size) ∷ forms ++ later_checks (as_reported s))
  checks_above_0 = (
    refl,
    each_append (λ (k : Check). eqb k.number 0 ≡ false) forms (later_checks (as_reported s))
        (by_form AllAbove0 s.size s.kind s.segments s.number long (refl, (refl, (refl, (refl, tt)))) tt
        (refl, (refl, (refl, (refl, tt))))) (refl, (refl, (refl, (refl, (refl, (refl, (refl, (refl, (refl, tt))))))))),
  )

-- what is reported of values that are not of the long form
pub short_shape : (s : Stored) → is_long s ≡ false
    → as_reported s
    ≡ record {
      size = s.size;
      channel = s.channel;
      kind = s.kind;
      sequence = s.sequence;
      date = s.date;
      milliseconds = s.milliseconds;
      segments = s.segments;
      number = reported_number s.segments s.number;
    }
short_shape s e = simp e

-- and of those that are
pub long_shape : (s : Stored) → is_long s ≡ true
    → as_reported s
    ≡ record {
      size = halved (length_in s.segments s.number);
      channel = s.channel;
      kind = s.kind;
      sequence = s.sequence;
      date = s.date;
      milliseconds = s.milliseconds;
      segments = 1;
      number = 1;
    }
long_shape s e = simp e

-- what is looked at: of a message that is too short for a header the values of no bytes, else its own
pub stored_short : (b : List ℕ) (s : Stored) → length b < header_size → s ≡ stored_in [] → s ≡ stored_or0 b
unfolding stored_or0
stored_short b s h e = simp (lt-ltb (length b) header_size h) e

pub stored-whole : (b : List ℕ) → ltb (length b) header_size ≡ false → stored_or0 b ≡ stored_in b
unfolding stored_or0
stored-whole b e = simp e

-- and each of these is the one that is fetched
pub stored-fetched : (b : List ℕ) (s : Stored) → header_size ≤ length b → s.size.0 ≡ fetched 2 b 0 → s.channel ≡ fetched 1 b 2
    → s.kind ≡ fetched 1 b 3 → s.sequence ≡ fetched 2 b 4 → s.date ≡ fetched 2 b 6 → s.milliseconds ≡ fetched 4 b 8
    → s.segments ≡ fetched 2 b count_place → s.number ≡ fetched 2 b number_place → s ≡ stored_or0 b
unfolding stored_in
stored-fetched b s long size channel kind sequence date milliseconds segments number =
    (λ i. record {
      size = halfwords ((size ∙ fetched-whole 2 b 0 (omega arith)) i);
      channel = (channel ∙ fetched-whole 1 b 2 (omega arith)) i;
      kind = (kind ∙ fetched-whole 1 b 3 (omega arith)) i;
      sequence = (sequence ∙ fetched-whole 2 b 4 (omega arith)) i;
      date = (date ∙ fetched-whole 2 b 6 (omega arith)) i;
      milliseconds = (milliseconds ∙ fetched-whole 4 b 8 (omega arith)) i;
      segments = (segments ∙ fetched-whole 2 b count_place (omega arith)) i;
      number = (number ∙ fetched-whole 2 b number_place (omega arith)) i;
    }) ∙ sym (stored-whole b (le-ltb (length b) header_size long))

-- the values s that were looked at, and their number n: what the message answers goes by it
module _ (b : List ℕ) (s : Stored) (n : ℕ) (looked : s ≡ stored_or0 b) (told : n ≡ refusal_of s (length b)) where
  too_short : ltb (length b) header_size ≡ true → (header_of b ≡ refused n) × (n ≡ 4)
  unfolding header_of refusal_of
  too_short e = let four : n ≡ 4 = told ∙ simp e in (rw four (simp e), four)

  whole : ltb (length b) header_size ≡ false → header_of b ≡ pick (eqb n 0) (given (as_reported s)) (refused n)
  unfolding header_of header_in refusal_of
  whole e =
      decide_number (header_checks b) refused (given (header_in b)) (checks_above_0 (stored_in b) (length b))
      ∙ ap (λ (x : Stored). pick (eqb (refusal_of x (length b)) 0) (given (as_reported x)) (refused (refusal_of x (length b))))
      (sym (looked ∙ stored-whole b e))
      ∙ ap (λ (k : ℕ). pick (eqb k 0) (given (as_reported s)) (refused k)) (sym told)

  pub header_read : (r : Header) → r ≡ as_reported s → n ≡ 0 → header_of b ≡ given r
  header_read r q e = go (ltb (length b) header_size) refl
    where
      go : (t : Bool) → ltb (length b) header_size ≡ t → header_of b ≡ given r
      go true l = never (cc (sym (too_short l).1 ∙ e))
      go false l = whole l ∙ simp e (ap given (sym q))

  pub header_refused : 0 < n → header_of b ≡ refused n
  header_refused above = go (ltb (length b) header_size) refl
    where
      go : (t : Bool) → ltb (length b) header_size ≡ t → header_of b ≡ refused n
      go true l = (too_short l).0
      go false l = whole l ∙ simp (ne_eqb n 0 (λ e. omega (arith, above, e)))

-- a message that is accepted in the short form answers what is reported of it
module _ (b : List ℕ) (s : Stored) (t : Bool) (looked : s ≡ stored_or0 b) (told : t ≡ accepted_short s (length b)) (yes : t ≡ true) where
  accepted : (marked s.size ≡ false) × (refusal_of s (length b) ≡ 0)
  unfolding accepted_short
  accepted =
      let p = both_true (not (marked s.size)) (eqb (refusal_of s (length b)) 0) (sym told ∙ yes) in
      (unmarked (marked s.size) p.0, eqb-true (refusal_of s (length b)) 0 p.1)
    where
      unmarked : (m : Bool) → not m ≡ true → m ≡ false
      unmarked true e = never (cc e)
      unmarked false e = refl

  enough : header_size ≤ length b
  unfolding refusal_of
  enough = go (ltb (length b) header_size) refl
    where
      go : (l : Bool) → ltb (length b) header_size ≡ l → header_size ≤ length b
      go true e = let four : 4 ≡ refusal_of s (length b) = simp e in never (cc (four ∙ accepted.1))
      go false e = ltb-false (length b) header_size e

  from_message : reported_short b s ≡ as_reported s
  unfolding stored_in
  from_message =
      let is : s ≡ stored_in b = looked ∙ stored-whole b (le-ltb (length b) header_size enough) in
      (λ i. record {
        size = s.size;
        channel = (fetched-whole 1 b channel_place (omega (arith, enough)) ∙ ap (λ (x : Stored). x.channel) (sym is)) i;
        kind = s.kind;
        sequence = (fetched-whole 2 b sequence_place (omega (arith, enough)) ∙ ap (λ (x : Stored). x.sequence) (sym is)) i;
        date = s.date;
        milliseconds = s.milliseconds;
        segments = s.segments;
        number =
            reported_number s.segments
            ((fetched-whole 2 b number_place (omega (arith, enough)) ∙ ap (λ (x : Stored). x.number) (sym is)) i);
      }) ∙ sym (short_shape s (rw accepted.0))

  pub short_read : (r : Header) → r ≡ reported_short b s → header_of b ≡ given r
  short_read r q = header_read b s (refusal_of s (length b)) looked refl r (q ∙ from_message) accepted.1
