-- The number of a lone segment means nothing. Assumes nothing.
use Prim.Native.Nat.{ℕ, ◌+◌, ◌≤◌, ◌<◌}
use mathlib.Core.Path.{◌≡◌, sym, ◌∙◌}
use mathlib.Core.Bool.{false}
use mathlib.Core.List.{List, [], ◌∷◌, ◌++◌}
use native.Mathlib.Omega.{arith}
use lib.Dec.{ltb}
use lib.ListN.{length, get_or}
use Rattle.wire.specs.Numbers.{num}
use Rattle.wire.specs.Checks.{pick, check}
use Rattle.wire.specs.Answers.{rule}
use Rattle.wire.specs.Sizes.{halfwords}
use Rattle.wire.proofs.NumberLaws.{num-same}
use Rattle.header_rule.specs.Rules.{marked, long_form, size_checks, reported_number}
use Rattle.header_rule.proofs.RuleLaws.{number_lone, form_other}
use Rattle.header.specs.Header.{header_size, count_place, number_place, stored_in, is_long, header_in, form_checks_of, later_checks, header_checks, header_of}
use Rattle.header.specs.Theorems.{Lone, LoneHeader}
use Rattle.header.proofs.HeaderLaws.{short_shape}

-- two messages that are the same up to the number, of one segment
module _ (b b' : List ℕ) (lone : Lone b) (before : (i : ℕ) → i < number_place → get_or b' i 0 ≡ get_or b i 0) where
  value_same : (w p : ℕ) → p + w ≤ number_place → num w b p ≡ num w b' p
  value_same w p h = num-same w b b' p p (λ i k. sym (before (p + i) (omega arith)))

  abbrev size : num 2 b 0 ≡ num 2 b' 0
  size = value_same 2 0 (omega arith)

  abbrev kind : num 1 b 3 ≡ num 1 b' 3
  kind = value_same 1 3 (omega arith)

  short' : is_long (stored_in b') ≡ false
  unfolding stored_in
  short' = (λ i. long_form (halfwords (sym size i)) (sym kind i)) ∙ lone.short

  number_same : reported_number (num 2 b count_place) (num 2 b number_place) ≡ reported_number (num 2 b' count_place) (num 2 b' number_place)
  unfolding stored_in
  number_same = number_lone (num 2 b count_place) (num 2 b number_place) lone.one
      ∙ sym (number_lone (num 2 b' count_place) (num 2 b' number_place) (sym (value_same 2 count_place (omega arith)) ∙ lone.one))

  pub header-same : header_in b ≡ header_in b'
  unfolding header_in stored_in
  header-same =
      short_shape (stored_in b) lone.short
      ∙ (λ i. record {
        size = halfwords (size i);
        channel = value_same 1 2 (omega arith) i;
        kind = kind i;
        sequence = value_same 2 4 (omega arith) i;
        date = value_same 2 6 (omega arith) i;
        milliseconds = value_same 4 8 (omega arith) i;
        segments = value_same 2 count_place (omega arith) i;
        number = number_same i;
      })
      ∙ sym (short_shape (stored_in b') short')

  form_same : length b ≡ length b' → form_checks_of (stored_in b) (length b) ≡ form_checks_of (stored_in b') (length b')
  unfolding stored_in
  form_same long =
      form_other (halfwords (num 2 b 0)) (num 1 b 3) (num 2 b count_place) (num 2 b number_place) (length b) lone.short
      ∙ (λ i. pick (marked (halfwords (size i))) [] (size_checks (halfwords (size i)) (long i)))
      ∙ sym (form_other (halfwords (num 2 b' 0)) (num 1 b' 3) (num 2 b' count_place) (num 2 b' number_place) (length b') short')

  pub checks_same : length b ≡ length b' → header_checks b ≡ header_checks b'
  checks_same long = λ i. check 4 (ltb (long i) header_size) ∷ form_same long i ++ later_checks (header-same i)

pub lone_header : LoneHeader
unfolding header_of
lone_header b b' lone but =
    let before : (i : ℕ) → i < number_place → get_or b' i 0 ≡ get_or b i 0 = λ i h. but.before i (omega arith) in
    λ i. rule (checks_same b b' lone before (sym but.long) i) (header-same b b' lone before i)
