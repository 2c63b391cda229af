-- The proofs of what is stated of the header's rules; `LongLaws` has what is asked of the long form. Assumes nothing.
use Prim.Native.Nat.{ℕ, ◌*◌, ◌/◌, ◌%◌, ◌≤◌, ◌<◌}
use native.Mathlib.Omega.{arith}
use mathlib.Core.Path.{◌≡◌, refl, sym, ap, ◌∙◌, subst}
use mathlib.Core.Logic.{◌⊎◌, ⊎_elim}
use mathlib.Core.Bool.{Bool, true, false, not}
use mathlib.Core.List.{List, [], ◌∷◌, ◌++◌, append_assoc}
use lib.Dec.{ltb, eqb}
use lib.ListN.{length}
use borrow.Author.Tests.{lt-ltb, le-ltb, ltb-false, eq-eqb, eqb-true}
use Rattle.wire.specs.Numbers.{num, Octets}
use Rattle.wire.specs.Tables.{render, Holds}
use Rattle.wire.specs.Checks.{pick, either, both, Check, check, AllHold, some_broken, decide}
use Rattle.wire.specs.Answers.{Answer, refused, given}
use Rattle.wire.specs.Sizes.{doubled}
use Rattle.wire.proofs.CheckLaws.{either_true, both_true, decide-none, decide-append, decide-same, all_hold, none_broken, some_broken-append}
use Rattle.wire.proofs.CheckLaws.{all_hold_append, all_hold_join}
use Rattle.wire.proofs.AnswerLaws.{rule_given}
use Rattle.wire.proofs.TableLaws.{spelt}
use Rattle.header.specs.declared.Header.{Header}
use Rattle.header.specs.declared.Stored.{Stored}
use Rattle.header_rule.specs.Rules.{reported_number, radial_type, most_segments, count_checks, number_checks, radial_cut, segment_too_large, kind_checks, time_checks}
use Rattle.header_rule.specs.Rules.{most_size, too_large, size_checks, long_mark, marked, least_length, length_in, not_permitted}
use Rattle.header.specs.Header.{short_table, long_table, header_table, header_size, count_place, number_place, stored_in, is_long, count_of, with_number}
use Rattle.header.specs.Header.{header_in, form_checks_of, later_checks, header_checks, header_of}
use Rattle.header_form.specs.Theorems.{Stands, HeaderStands, before_segment, lone_checks, LoneByOtherChecks, NumberOutside, FormBySize}
use Rattle.header_form.specs.Theorems.{SizeIsTrue}
use Rattle.header_rule.proofs.RuleLaws.{number_lone, number_other, form_other, even_from}
use Rattle.header.specs.Theorems.{Lone}
use Rattle.header.proofs.HeaderLaws.{short_shape, long_shape}
use Rattle.header.proofs.HeldLaws.{length_holds, size_holds, true_size}
use Rattle.header_form.proofs.WrittenLaws.{halves}

-- what an accepted header's checks say
module _ (b : List ℕ) (a : AllHold (header_checks b)) where
  abbrev s : Stored
  s = stored_in b

  -- so the form goes by the size that is reported
  form_by_size : too_large (header_in b).size ≡ is_long s
  unfolding header_in
  form_by_size = go (is_long s) refl
    where
      go : (t : Bool) → is_long s ≡ t → too_large (header_in b).size ≡ is_long s
      go true e =
          let z = length_in s.segments s.number in
          let least : least_length.0 ≤ z.0 = ltb-false z.0 least_length.0 (length_holds b a e).1.0 in
          let above : most_size.0 < z.0 / 2 = omega (arith, least) in
          ap (λ (h : Header). too_large h.size) (long_shape s e) ∙ lt-ltb most_size.0 (z.0 / 2) above ∙ sym e
      go false e = ap (λ (h : Header). too_large h.size) (short_shape s e) ∙ (size_holds b a e).1.0 ∙ sym e

  -- a message with a whole header begins with the table of its values
  module _ (o : Octets b) where
    abbrev with-stored : Header
    with-stored = with_number (header_in b) (num 2 b number_place)

    enough : header_size ≤ length b
    enough = ltb-false (length b) header_size a.0

    short-stands : is_long s ≡ false → Holds b 0 (render (short_table with-stored))
    unfolding header_in stored_in
    short-stands e =
        let shape = short_shape s e in
        let size : num 2 b 0 ≡ (header_in b).size.0 = sym (ap (λ (h : Header). h.size.0) shape) in
        let count : num 2 b count_place ≡ (header_in b).segments = sym (ap (λ (h : Header). h.segments) shape) in
        spelt (short_table with-stored) b 0 o enough (size, (refl, (refl, (refl, (refl, (refl, (count, (refl, tt))))))))

    pub long-stands : is_long s ≡ true → Holds b 0 (render (long_table (header_in b)))
    unfolding header_in stored_in
    long-stands e =
        let z = length_in (num 2 b count_place) (num 2 b number_place) in
        let mark : num 2 b 0 ≡ long_mark.0 =
        eqb-true (num 2 b 0) long_mark.0 (both_true (marked s.size) (eqb s.kind radial_type) e).0
        in
        let even : z.0 % 2 ≡ 0 = even_from z.0 (length_holds b a e).0 in
        let size : (header_in b).size.0 ≡ z.0 / 2 = ap (λ (h : Header). h.size.0) (long_shape s e) in
        let told : num 4 b count_place ≡ (doubled (header_in b).size).0 = omega (arith, halves b, even, size) in
        spelt (long_table (header_in b)) b 0 o enough (mark, (refl, (refl, (refl, (refl, (refl, (told, tt)))))))

    table-stands : Holds b 0 (render (header_table with-stored))
    table-stands = subst (λ (t : Bool). Holds b 0 (render (pick t (long_table with-stored) (short_table with-stored)))) (sym form_by_size)
        (go (is_long s) refl)
      where
        go : (t : Bool) → is_long s ≡ t → Holds b 0 (render (pick t (long_table with-stored) (short_table with-stored)))
        go true e = long-stands e
        go false e = short-stands e

    number-stored : ((header_in b).segments ≡ 1 → ⊥) → (header_in b).number ≡ num 2 b number_place
    unfolding header_in stored_in
    number-stored n = number_other (count_of s) (num 2 b number_place) n

    whole-stands : Stands b (header_in b)
    whole-stands = record {
      table = table-stands;
      others = λ n. subst (λ (h : Header). Holds b 0 (render (header_table h)))
          (ap (λ (k : ℕ). with_number (header_in b) k) (sym (number-stored n))) table-stands;
      long = λ e. long-stands (sym form_by_size ∙ e);
    }

pub header-stands : HeaderStands
unfolding header_of
header-stands b h o e =
    let p = rule_given (header_checks b) (header_in b) h e in
    subst (λ (x : Header). Stands b x) p.1 (whole-stands b (all_hold (header_checks b) p.0) o)

pub by_size : FormBySize
unfolding header_of
by_size b h e =
    let p = rule_given (header_checks b) (header_in b) h e in
    sym (ap (λ (x : Header). too_large x.size) p.1) ∙ form_by_size b (all_hold (header_checks b) p.0)

pub size_is_true : SizeIsTrue
unfolding header_of
size_is_true b h e =
    let p = rule_given (header_checks b) (header_in b) h e in
    subst (λ (x : Header). x.size.0 * 2 ≡ length b) p.1 (true_size b (all_hold (header_checks b) p.0))

-- ---- the checks of segments, among the others
module _ (b : List ℕ) where
  abbrev n : ℕ
  n = (stored_in b).segments

  abbrev k : ℕ
  k = (stored_in b).number

  abbrev sized : List Check
  sized = pick (marked (stored_in b).size) [] (size_checks (stored_in b).size (length b))

  abbrev before : List Check
  before = before_segment (stored_in b) (length b)

  abbrev numbered : List Check
  numbered = number_checks n (reported_number n k)

  abbrev kinds : List Check
  kinds = kind_checks (stored_in b).size (stored_in b).kind n

  abbrev segments : List Check
  segments = count_checks n ++ (numbered ++ kinds)

  abbrev times : List Check
  times = time_checks (stored_in b).date (stored_in b).milliseconds

  -- 1,208, date and time
  abbrev rest : List Check
  rest = check 7 (segment_too_large (stored_in b).size (stored_in b).kind) ∷ times

  -- the checks of a message that is not of the long form
  short_checks : is_long (stored_in b) ≡ false → header_checks b ≡ before ++ (segments ++ times)
  unfolding header_in
  short_checks e =
      (λ i. check 4 (ltb (length b) header_size) ∷ forms i ++ later_checks (short_shape (stored_in b) e i)) ∙ joined
    where
      forms : form_checks_of (stored_in b) (length b) ≡ sized
      forms = form_other (stored_in b).size (stored_in b).kind n k (length b) e

      typed : Check
      typed = check 6 (not_permitted (stored_in b).kind)

      joined : check 4 (ltb (length b) header_size) ∷ sized ++ (typed ∷ segments ++ times) ≡ before ++ (segments ++ times)
      joined =
          ap (λ (ks : List Check). check 4 (ltb (length b) header_size) ∷ ks) (sym (append_assoc sized (typed ∷ []) (segments ++ times)))

  -- of one segment N's own checks hold, those of the number, and that of a radial
  lone_counted : Lone b → AllHold (count_checks n)
  lone_counted lone = (le-ltb n 1 (omega (arith, lone.one)), (le-ltb most_segments n (omega (arith, lone.one)), tt))

  lone_numbered : Lone b → AllHold numbered
  lone_numbered lone =
      let one : reported_number n k ≡ 1 = number_lone n k lone.one in
      (le-ltb (reported_number n k) 1 (omega (arith, one)), (le-ltb n (reported_number n k) (omega (arith, one, lone.one)), tt))

  lone_cut : Lone b → radial_cut (stored_in b).kind n ≡ false
  lone_cut lone = go (eqb (stored_in b).kind radial_type)
    where
      go : (t : Bool) → both t (not (eqb n 1)) ≡ false
      go true = simp (eq-eqb n 1 lone.one)
      go false = refl

  accepted_others : Lone b → header_of b ≡ given (header_in b) → AllHold (lone_checks (stored_in b) (length b))
  unfolding header_of
  accepted_others lone e =
      let all = all_hold (header_checks b) (rule_given (header_checks b) (header_in b) (header_in b) e).0 in
      let p = all_hold_append before (segments ++ times) (subst (λ (ks : List Check). AllHold ks) (short_checks lone.short) all) in
      let q = all_hold_append segments times p.1 in
      let kind = (all_hold_append numbered kinds (all_hold_append (count_checks n) (numbered ++ kinds) q.0).1).1 in
      all_hold_join before rest p.0 (kind.1.0, q.1)

  others_accepted : Lone b → AllHold (lone_checks (stored_in b) (length b)) → header_of b ≡ given (header_in b)
  unfolding header_of
  others_accepted lone h =
      let p = all_hold_append before rest h in
      let kind : AllHold kinds = (lone_cut lone, (p.1.0, tt)) in
      let all : AllHold (header_checks b) =
      subst (λ (ks : List Check). AllHold ks) (sym (short_checks lone.short))
      (all_hold_join before (segments ++ times) p.0
      (all_hold_join segments times
      (all_hold_join (count_checks n) (numbered ++ kinds) (lone_counted lone) (all_hold_join numbered kinds (lone_numbered lone)
      kind)) p.1.1))
      in
      decide-none (header_checks b) refused (given (header_in b)) (none_broken (header_checks b) all)

  -- of another N the number is asked as stored
  other_broken : (n ≡ 1 → ⊥) → (k ≡ 0) ⊎ (n < k) → some_broken numbered ≡ true
  other_broken other out = ap (λ (x : ℕ). some_broken (number_checks n x)) (number_other n k other) ∙ ⊎_elim low high out
    where
      low : k ≡ 0 → some_broken (number_checks n k) ≡ true
      low e = simp (lt-ltb k 1 (omega (arith, e)))

      high : n < k → some_broken (number_checks n k) ≡ true
      high h = simp (lt-ltb n k h, either_true)

  segments_broken : some_broken numbered ≡ true → some_broken segments ≡ true
  segments_broken e =
      some_broken-append (count_checks n) (numbered ++ kinds)
      ∙ ap (λ (t : Bool). either (some_broken (count_checks n)) t)
      (some_broken-append numbered kinds ∙ ap (λ (t : Bool). either t (some_broken kinds)) e)
      ∙ either_true (some_broken (count_checks n))

  outside-refused : is_long (stored_in b) ≡ false → AllHold before → some_broken segments ≡ true → header_of b ≡ refused 7
  unfolding header_of
  outside-refused e h broken =
      let v : Answer Header = given (header_in b) in
      ap (λ (ks : List Check). decide ks refused v) (short_checks e)
      ∙ decide-append before (segments ++ times) refused v
      ∙ decide-none before refused (decide (segments ++ times) refused v) (none_broken before h)
      ∙ decide-same 7 segments times refused v (refl, (refl, (refl, (refl, (refl, (refl, tt))))))
      ∙ ap (λ (t : Bool). pick t (refused 7) (decide times refused v)) broken

pub lone_by_other_checks : LoneByOtherChecks
lone_by_other_checks b lone = (accepted_others b lone, others_accepted b lone)

pub number_outside : NumberOutside
number_outside b short other h out = outside-refused b short h (segments_broken b (other_broken b other out))
