-- A written header is read back, in the form that its size asks for, and passes the size's checks. Assumes nothing.
use Prim.Native.Nat.{ℕ, ◌*◌, ◌/◌, ◌%◌, ◌≤◌, ◌<◌}
use mathlib.Core.Path.{◌≡◌, refl, sym, ap, subst, ◌∙◌}
use mathlib.Core.Bool.{Bool, true, false}
use mathlib.Core.List.{List, ◌++◌}
use native.Mathlib.Omega.{arith}
use lib.ListN.{length}
use borrow.Author.Tests.{le-ltb, eq-eqb, ne_eqb, ltb-true, ltb-false}
use Rattle.wire.specs.Numbers.{num}
use Rattle.wire.specs.Checks.{pick, Check, AllHold}
use Rattle.wire.specs.Tables.{render, Fit}
use Rattle.wire.specs.Sizes.{halved, doubled, longest_message}
use Rattle.wire.proofs.NumberLaws.{num-two, num-four}
use Rattle.wire.proofs.TableLaws.{reads_back}
use Rattle.header_rule.specs.Rules.{least_size, most_size, too_large, size_checks, long_mark, marked, least_length, length_in, length_checks, radial_type}
use Rattle.header_rule.specs.Rules.{reported_number}
use Rattle.header_rule.proofs.RuleLaws.{number_kept, form_short, form_long, even_holds}
use Rattle.header.specs.declared.Header.{Header}
use Rattle.header.specs.Header.{short_table, long_table, header_table, header_size, count_place, number_place, stored_in, is_long, with_number}
use Rattle.header.specs.Header.{header_in, form_checks_of}
use Rattle.header.proofs.HeaderLaws.{short_shape, long_shape}

-- a number of four bytes is its two halves, "high half first"
pub halves : (b : List ℕ) → (length_in (num 2 b count_place) (num 2 b number_place)).0 ≡ num 4 b count_place
halves b = omega (arith, num-two b count_place, num-two b number_place, num-four b count_place)

-- both forms have 16 bytes
pub header-long : (h : Header) → length (render (header_table h)) ≡ header_size
header-long h = go (too_large h.size)
  where
    go : (t : Bool) → length (render (pick t (long_table h) (short_table h))) ≡ header_size
    go true = refl
    go false = refl

-- ---- the short form
module _ (h : Header) (rest : List ℕ) (fit : Fit (short_table h)) (fits : too_large h.size ≡ false) where
  abbrev short : List ℕ
  short = render (short_table h) ++ rest

  short_unmarked : marked (stored_in short).size ≡ false
  unfolding stored_in
  short_unmarked =
      let s = reads_back (short_table h) rest fit in
      let most : h.size.0 ≤ most_size.0 = ltb-false most_size.0 h.size.0 fits in
      ne_eqb (num 2 short 0) long_mark.0 (λ e. absurd (omega (arith, s.0, most, e)))

  short_is : 1 ≤ h.number → h.number ≤ h.segments → header_in short ≡ h
  unfolding header_in stored_in
  short_is low high =
      let s = reads_back (short_table h) rest fit in
      short_shape (stored_in short) (rw short_unmarked)
      ∙ (λ i. record {
        size = record { 0 = s.0 i };
        channel = s.1.0 i;
        kind = s.1.1.0 i;
        sequence = s.1.1.1.0 i;
        date = s.1.1.1.1.0 i;
        milliseconds = s.1.1.1.1.1.0 i;
        segments = s.1.1.1.1.1.1.0 i;
        number = reported_number (s.1.1.1.1.1.1.0 i) (s.1.1.1.1.1.1.1.0 i);
      })
      ∙ ap (λ (k : ℕ). with_number h k) (number_kept h.segments h.number low high)

  short_back : (long : ℕ) → least_size.0 * 2 ≤ long → long % 2 ≡ 0 → h.size.0 ≡ long / 2 → AllHold (form_checks_of (stored_in short) long)
  unfolding stored_in
  short_back long least even half =
      let s = reads_back (short_table h) rest fit in
      let is : num 2 short 0 ≡ long / 2 = s.0 ∙ half in
      let most : h.size.0 ≤ most_size.0 = ltb-false most_size.0 h.size.0 fits in
      let sizes : AllHold (size_checks (stored_in short).size long) = (
        le-ltb (num 2 short 0) least_size.0 (omega (arith, is, least)),
        (
          le-ltb most_size.0 (num 2 short 0) (omega (arith, s.0, most)),
          (even_holds long even, (simp (eq-eqb (long / 2) (num 2 short 0) (sym is)), tt)),
        ),
      ) in
      let v = stored_in short in
      subst (λ (ks : List Check). AllHold ks)
      (sym (form_short v.size v.kind v.segments v.number long short_unmarked)) sizes

-- ---- the long form
module _ (h : Header) (rest : List ℕ) (fit : Fit (long_table h)) (radial : h.kind ≡ radial_type) where
  abbrev long : List ℕ
  long = render (long_table h) ++ rest

  long-marked : is_long (stored_in long) ≡ true
  unfolding stored_in
  long-marked =
      let s = reads_back (long_table h) rest fit in
      rw (eq-eqb (num 2 long 0) long_mark.0 s.0, eq-eqb (num 1 long 3) radial_type (s.1.1.0 ∙ radial))

  told : (length_in (stored_in long).segments (stored_in long).number).0 ≡ (doubled h.size).0
  unfolding stored_in
  told = halves long ∙ (reads_back (long_table h) rest fit).1.1.1.1.1.1.0

  long_is : h.segments ≡ 1 → h.number ≡ 1 → header_in long ≡ h
  unfolding header_in stored_in
  long_is one first =
      let s = reads_back (long_table h) rest fit in
      let half : (halved (length_in (num 2 long count_place) (num 2 long number_place))).0 ≡ h.size.0 = omega (arith, told) in
      long_shape (stored_in long) long-marked
      ∙ (λ i. record {
        size = record { 0 = half i };
        channel = s.1.0 i;
        kind = s.1.1.0 i;
        sequence = s.1.1.1.0 i;
        date = s.1.1.1.1.0 i;
        milliseconds = s.1.1.1.1.1.0 i;
        segments = sym one i;
        number = sym first i;
      })

  long_back : (n : ℕ) → least_length.0 ≤ n → n ≤ longest_message.0 → n % 2 ≡ 0 → h.size.0 ≡ n / 2
      → AllHold (form_checks_of (stored_in long) n)
  long_back n least most even half =
      let z = length_in (stored_in long).segments (stored_in long).number in
      let is : z.0 ≡ n = told ∙ omega (arith, half, even) in
      let lengths : AllHold (length_checks z n) = (
        even_holds z.0 (omega (arith, is, even)),
        (
          le-ltb z.0 least_length.0 (omega (arith, is)),
          (le-ltb longest_message.0 z.0 (omega (arith, is)), (simp (eq-eqb z.0 n is), tt)),
        ),
      ) in
      subst (λ (ks : List Check). AllHold ks)
      (sym (form_long (stored_in long).size (stored_in long).kind (stored_in long).segments (stored_in long).number n long-marked)) lengths

-- ---- either form: what a writer says of the header that it puts before its data
pub record Fitting (h : Header) : Type 0 where
  pub fit : Fit (header_table h)
  pub low : 1 ≤ h.number
  pub high : h.number ≤ h.segments
  pub long : too_large h.size ≡ true → (h.kind ≡ radial_type) × (h.segments ≡ 1)

module _ (h : Header) (rest : List ℕ) (f : Fitting h) where
  -- it is read back, whatever follows
  pub header_is : header_in (render (header_table h) ++ rest) ≡ h
  header_is = go (too_large h.size) refl f.fit
    where
      go : (t : Bool) → too_large h.size ≡ t → Fit (pick t (long_table h) (short_table h))
          → header_in (render (pick t (long_table h) (short_table h)) ++ rest) ≡ h
      go true e fit =
          let alone = f.long e in
          long_is h rest fit alone.0 alone.1 (omega (arith, f.low, f.high, alone.1))
      go false e fit = short_is h rest fit e f.low f.high

  -- and passes the size's checks in a message of that even length
  pub form_back : (n : ℕ) → header_size ≤ n → n ≤ longest_message.0 → n % 2 ≡ 0 → h.size.0 ≡ n / 2
      → AllHold (form_checks_of (stored_in (render (header_table h) ++ rest)) n)
  form_back n least most even half = go (too_large h.size) refl f.fit
    where
      go : (t : Bool) → too_large h.size ≡ t → Fit (pick t (long_table h) (short_table h))
          → AllHold (form_checks_of (stored_in (render (pick t (long_table h) (short_table h)) ++ rest)) n)
      go true e fit =
          let above : most_size.0 < h.size.0 = ltb-true most_size.0 h.size.0 e in
          long_back h rest fit (f.long e).0 n (omega (arith, above, half)) most even half
      go false e fit = short_back h rest fit e n least even half
