-- The proofs of what is stated of the long form. Assumes nothing.
use Prim.Native.Nat.{ℕ, ◌+◌, ◌-◌, ◌/◌, ◌≤◌, ◌<◌}
use native.Mathlib.Omega.{arith}
use mathlib.Core.Path.{◌≡◌, refl, sym, ap, ◌∙◌}
use mathlib.Core.Bool.{Bool, true, false}
use mathlib.Core.List.{List}
use lib.Dec.{ltb, eqb}
use lib.ListN.{length, get_or, take, drop}
use lib.Seq.{get_or-take, get_or-drop}
use borrow.Author.Tests.{lt-ltb, le-ltb, ltb-true, ltb-false, eq-eqb, ne_eqb, eqb-true, not-false}
use Rattle.wire.specs.Numbers.{num, be}
use Rattle.wire.specs.Checks.{pick, Check, some_broken}
use Rattle.wire.specs.Answers.{Answer, refused, given}
use Rattle.wire.specs.Sizes.{longest_message}
use Rattle.wire.specs.declared.Bytes.{Bytes}
use Rattle.wire.proofs.CheckLaws.{never, either_true, all_hold, first-none, hold_none}
use Rattle.wire.proofs.AnswerLaws.{rule_given}
use Rattle.wire.proofs.NumberLaws.{num-same, be-num}
use Rattle.wire.proofs.ListLaws.{same_rest}
use Rattle.header.specs.declared.Header.{Header}
use Rattle.header.specs.declared.Stored.{Stored}
use Rattle.header_rule.specs.Rules.{long_mark, marked, least_length, length_in, length_checks, not_permitted, radial_type, segment_size, segment_checks}
use Rattle.header_rule.specs.Rules.{last_millisecond, time_checks, reported_number}
use Rattle.header.specs.Header.{header_size, count_place, stored_in, is_long, size_of, count_of, header_in, header_of, form_checks_of, header_checks}
use Rattle.header_form.specs.Theorems.{Long, LengthHolds, TimeHolds, CountsAsOne, LongAnswer, LongExactly, NoFreedom, MarkedOther}
use Rattle.header_rule.proofs.RuleLaws.{form_long, radial_alone, even_holds, even_from}
use Rattle.header.proofs.HeaderLaws.{header-decides, long_shape}
use Rattle.header_form.proofs.WrittenLaws.{halves}

-- what a message with a whole header answers, by one test for each number
by_tests : (b : List ℕ) → header_size ≤ length b
    → header_of b
    ≡ pick (some_broken (form_checks_of (stored_in b) (length b))) (refused 5)
    (pick (not_permitted (stored_in b).kind) (refused 6)
    (pick (some_broken (segment_checks (size_of (stored_in b)) (stored_in b).kind (count_of (stored_in b))
    (reported_number (count_of (stored_in b)) (stored_in b).number))) (refused 7)
    (pick (some_broken (time_checks (stored_in b).date (stored_in b).milliseconds)) (refused 8) (given (header_in b)))))
unfolding header_of header_in
by_tests b long = header-decides (stored_in b) (length b) refused (given (header_in b)) ∙ rw (le-ltb (length b) header_size long)

-- ---- a message of the long form
module _ (b : List ℕ) (l : Long b) where
  abbrev s : Stored
  s = stored_in b

  abbrev z : Bytes
  z = length_in s.segments s.number

  abbrev lengths : List Check
  lengths = length_checks z (length b)

  abbrev times : List Check
  times = time_checks s.date s.milliseconds

  is_long_lem : is_long s ≡ true
  unfolding stored_in
  is_long_lem = rw (eq-eqb (num 2 b 0) long_mark.0 l.mark, eq-eqb (num 1 b 3) radial_type l.radial)

  pub counts_once : count_of s ≡ 1
  counts_once = rw is_long_lem

  kind_is : s.kind ≡ radial_type
  unfolding stored_in
  kind_is = l.radial

  -- the length and the time decide
  decides : header_of b ≡ pick (some_broken lengths) (refused 5) (pick (some_broken times) (refused 8) (given (header_in b)))
  decides =
      let forms : some_broken (form_checks_of s (length b)) ≡ some_broken lengths =
      ap (λ (ks : List Check). some_broken ks) (form_long s.size s.kind s.segments s.number (length b) is_long_lem)
      in
      let alone : some_broken (segment_checks (size_of s) s.kind (count_of s) (reported_number (count_of s) s.number)) ≡ false =
      radial_alone (size_of s) s.kind (count_of s) s.number kind_is ∙ rw counts_once
      in
      by_tests b l.headed ∙ rw (forms, permitted, alone)
    where
      permitted : not_permitted s.kind ≡ false
      permitted = rw kind_is

  -- what they say
  length_told : z.0 ≡ num 4 b count_place
  unfolding stored_in
  length_told = halves b

  length_from : some_broken lengths ≡ false → LengthHolds b
  length_from e =
      let h = all_hold lengths (first-none lengths e) in
      let is : z.0 ≡ length b = eqb-true z.0 (length b) (not-false _ h.1.1.1.0) in
      record {
        told = sym length_told ∙ is;
        even = omega (arith, is, even_from z.0 h.0);
        least = omega (arith, is, ltb-false z.0 least_length.0 h.1.0);
        most = omega (arith, is, ltb-false longest_message.0 z.0 h.1.1.0);
      }

  length_to : LengthHolds b → some_broken lengths ≡ false
  length_to h =
      let is : z.0 ≡ length b = length_told ∙ h.told in
      hold_none lengths (
        even_holds z.0 (omega (arith, is, h.even)),
        (
          le-ltb z.0 least_length.0 (omega (arith, is, h.least)),
          (le-ltb longest_message.0 z.0 (omega (arith, is, h.most)), (simp (eq-eqb z.0 (length b) is), tt)),
        ),
      )

  time_from : some_broken times ≡ false → TimeHolds b
  unfolding stored_in
  time_from e =
      let h = all_hold times (first-none times e) in
      (ltb-false (num 2 b 6) 1 h.0, ltb-false last_millisecond (num 4 b 8) h.1.0)

  time_to : TimeHolds b → some_broken times ≡ false
  unfolding stored_in
  time_to h = hold_none times (le-ltb (num 2 b 6) 1 h.0, (le-ltb last_millisecond (num 4 b 8) h.1, tt))

  counts : LengthHolds b → CountsAsOne b (header_in b)
  unfolding header_in
  counts h =
      let shape = long_shape s is_long_lem in
      let size : (header_in b).size.0 ≡ z.0 / 2 = ap (λ (x : Header). x.size.0) shape in
      record {
        size = omega (arith, size, length_told, h.told, h.even);
        segments = ap (λ (x : Header). x.segments) shape;
        number = ap (λ (x : Header). x.number) shape;
      }

  answer : LongAnswer b
  answer = record {
    accepted = (take-both, λ h. decides ∙ rw (length_to h.0, time_to h.1));
    counts = counts;
    wrong_length = λ wrong. decides ∙ refuse (some_broken lengths) refl wrong;
    wrong_time = λ h wrong. decides ∙ rw (length_to h) (late (some_broken times) refl wrong);
  }
    where
      take-both : header_of b ≡ given (header_in b) → LengthHolds b × TimeHolds b
      take-both e = go (some_broken lengths) refl (some_broken times) refl (sym decides ∙ e)
        where
          go : (t : Bool) → some_broken lengths ≡ t → (u : Bool) → some_broken times ≡ u
              → ◌≡◌ {A = Answer Header} (pick t (refused 5) (pick u (refused 8) (given (header_in b)))) (given (header_in b))
              → LengthHolds b × TimeHolds b
          go true p u q e = never (cc e)
          go false p true q e = never (cc e)
          go false p false q e = (length_from p, time_from q)

      refuse : (t : Bool) → some_broken lengths ≡ t → (LengthHolds b → ⊥)
          → ◌≡◌ {A = Answer Header} (pick t (refused 5) (pick (some_broken times) (refused 8) (given (header_in b)))) (refused 5)
      refuse true p wrong = refl
      refuse false p wrong = absurd (wrong (length_from p))

      late : (t : Bool) → some_broken times ≡ t → (TimeHolds b → ⊥)
          → ◌≡◌ {A = Answer Header} (pick t (refused 8) (given (header_in b))) (refused 8)
      late true p wrong = refl
      late false p wrong = absurd (wrong (time_from p))

pub long_exactly : LongExactly
long_exactly = answer

-- ---- two of the four bytes changed
accepted_in : (b : List ℕ) (h : Header) → header_of b ≡ given h → header_of b ≡ given (header_in b)
unfolding header_of
accepted_in b h e = e ∙ ap given (sym (rule_given (header_checks b) (header_in b) h e).1)

pub no_freedom : NoFreedom
no_freedom b b' h place o o' l e from to but other =
    (answer b' l').wrong_length (λ h'. other (sym (same_rest b b' 0 but.long (λ i low. same h' i))))
  where
    before : (w p : ℕ) → p + w ≤ count_place → num w b' p ≡ num w b p
    before w p f = num-same w b' b p p (λ i k. but.before (p + i) (omega (arith, from)))

    l' : Long b'
    l' = record {
      headed = omega (arith, l.headed, but.long);
      mark = before 2 0 (omega arith) ∙ l.mark;
      radial = before 1 3 (omega arith) ∙ l.radial;
    }

    holds : LengthHolds b
    holds = ((answer b l).accepted.0 (accepted_in b h e)).0

    four : LengthHolds b' → take 4 (drop count_place b') ≡ take 4 (drop count_place b)
    four h' =
        sym (be-num 4 b' count_place o' l'.headed)
        ∙ ap (λ (n : ℕ). be 4 n) (h'.told ∙ but.long ∙ sym holds.told)
        ∙ be-num 4 b count_place o l.headed

    -- a byte of the four
    inside : LengthHolds b' → (i : ℕ) → count_place ≤ i → i < header_size → get_or b' i 0 ≡ get_or b i 0
    inside h' i low high =
        let at : (x : List ℕ) → get_or x i 0 ≡ get_or (take 4 (drop count_place x)) (i - count_place) 0 =
        λ x. ap (λ (k : ℕ). get_or x k 0) (omega (arith, low)) ∙ sym (get_or-drop count_place x (i - count_place) 0)
        ∙ sym (get_or-take 4 (drop count_place x) (i - count_place) 0 (omega (arith, low, high)))
        in
        at b' ∙ ap (λ (x : List ℕ). get_or x (i - count_place) 0) (four h') ∙ sym (at b)

    same : LengthHolds b' → (i : ℕ) → get_or b' i 0 ≡ get_or b i 0
    same h' i = go (ltb i count_place) refl (ltb i header_size) refl
      where
        go : (t : Bool) → ltb i count_place ≡ t → (u : Bool) → ltb i header_size ≡ u → get_or b' i 0 ≡ get_or b i 0
        go true p u q = but.before i (omega (arith, from, ltb-true i count_place p))
        go false p true q = inside h' i (ltb-false i count_place p) (ltb-true i header_size q)
        go false p false q = but.after i (omega (arith, to, ltb-false i header_size q))

-- ---- size 65,535 of another type
module _ (b : List ℕ) (mark : num 2 b 0 ≡ long_mark.0) (other : num 1 b 3 ≡ radial_type → ⊥) where
  abbrev m : Stored
  m = stored_in b

  is_marked : marked m.size ≡ true
  unfolding stored_in
  is_marked = eq-eqb (num 2 b 0) long_mark.0 mark

  no_radial : eqb m.kind radial_type ≡ false
  unfolding stored_in
  no_radial = ne_eqb (num 1 b 3) radial_type other

  -- 5 is not tested, and the size is too large for a segment
  no_five : some_broken (form_checks_of m (length b)) ≡ false
  no_five = rw (is_marked, no_radial)

  above : ltb segment_size.0 m.size.0 ≡ true
  unfolding stored_in
  above = lt-ltb segment_size.0 (num 2 b 0) (omega (arith, mark))

  seven : some_broken (segment_checks (size_of m) m.kind (count_of m) (reported_number (count_of m) m.number)) ≡ true
  seven = simp (is_marked, no_radial, above, either_true)

  six_or_seven : header_size ≤ length b → header_of b ≡ refused (pick (not_permitted (num 1 b 3)) 6 7)
  unfolding stored_in
  six_or_seven long = by_tests b long ∙ rw (no_five, seven) (go (not_permitted (num 1 b 3)))
    where
      go : (t : Bool) → ◌≡◌ {A = Answer Header} (pick t (refused 6) (refused 7)) (refused (pick t 6 7))
      go true = refl
      go false = refl

pub marked_other : MarkedOther
marked_other b long mark other = six_or_seven b mark other long
