-- The header's tests and a moment's, one after the other, in the rule's own checks. Assumes nothing.
use Prim.Native.Nat.{ℕ, ◌+◌, ◌≤◌, ◌<◌}
use mathlib.Core.Path.{◌≡◌, sym, ap, ◌∙◌}
use mathlib.Core.Bool.{true, false, not}
use mathlib.Core.List.{List, []}
use native.Mathlib.Omega.{arith}
use lib.Bits.{bit_and}
use lib.Dec.{eqb}
use lib.ListN.{length, drop}
use borrow.Author.Tests.{lt-ltb, le-ltb, eq-eqb, ne_eqb}
use Rattle.wire.specs.Numbers.{num, fetched}
use Rattle.wire.specs.Checks.{among}
use Rattle.wire.specs.Answers.{Answer, refused, given, rule}
use Rattle.wire.proofs.NumberLaws.{number_is}
use Rattle.radial_spec.specs.Description.{header_size, size_place, count_place, fewest_blocks, most_blocks, permitted, most_gates, word_sizes}
use Rattle.radial_spec.specs.Description.{moment_bytes, compression_place}
use Rattle.radial_spec.specs.Refusal.{size_in, count_in, header_checks}
use Rattle.radial_head.specs.declared.Key.{Key}
use Rattle.radial_check.specs.Steps.{bit_of, marked, start_of, moment_part, moment_in}
use Rattle.radial_check.proofs.BitLaws.{permitted_bit}

-- ---- 14 to 17, by what was fetched
module _ (b : List ℕ) where
  -- the checks after the first k decide, where these hold
  abbrev left : ℕ → Answer (ℕ × ℕ)
  left k = rule (drop k (header_checks b [])) (size_in b, count_in b)

  module _ (long : header_size ≤ length b) (x : ℕ) (e : x ≡ fetched 1 b compression_place) where
    compression : num 1 b compression_place ≡ x
    compression = number_is 1 b compression_place x e (omega arith)

    after-14 : left 1 ≡ start_of b
    after-14 = simp (le-ltb (length b) header_size long)

    pub compressed : (x ≡ 0 → ⊥) → refused 15 ≡ start_of b
    compressed h = let r : refused 15 ≡ left 1 = simp (compression, ne_eqb x 0 h) in r ∙ after-14

    module _ (plain : x ≡ 0) (z : ℕ) (f : z ≡ fetched 2 b size_place) where
      size : size_in b ≡ z
      size = number_is 2 b size_place z f (omega arith)

      after-15 : left 2 ≡ start_of b
      after-15 = let r : left 2 ≡ left 1 = simp (compression, eq-eqb x 0 plain) in r ∙ after-14

      pub short-radial : z < header_size → refused 16 ≡ start_of b
      short-radial h = let r : refused 16 ≡ left 2 = simp (size, lt-ltb z header_size h) in r ∙ after-15

      module _ (least : header_size ≤ z) where
        least-held : left 3 ≡ start_of b
        least-held = let r : left 3 ≡ left 2 = simp (size, le-ltb z header_size least) in r ∙ after-15

        pub long-radial : length b < z → refused 16 ≡ start_of b
        long-radial h = let r : refused 16 ≡ left 3 = simp (size, lt-ltb (length b) z h) in r ∙ least-held

        module _ (most : z ≤ length b) (n : ℕ) (g : n ≡ fetched 2 b count_place) where
          count : count_in b ≡ n
          count = number_is 2 b count_place n g (omega arith)

          after-16 : left 4 ≡ start_of b
          after-16 = let r : left 4 ≡ left 3 = simp (size, le-ltb (length b) z most) in r ∙ least-held

          pub few-blocks : n < fewest_blocks → refused 17 ≡ start_of b
          few-blocks h = let r : refused 17 ≡ left 4 = simp (count, lt-ltb n fewest_blocks h) in r ∙ after-16

          module _ (some : fewest_blocks ≤ n) where
            some-held : left 5 ≡ start_of b
            some-held = let r : left 5 ≡ left 4 = simp (count, le-ltb n fewest_blocks some) in r ∙ after-16

            pub many-blocks : most_blocks < n → refused 17 ≡ start_of b
            many-blocks h = let r : refused 17 ≡ left 5 = simp (count, lt-ltb most_blocks n h) in r ∙ some-held

            pub good_start : n ≤ most_blocks → given (z, n) ≡ start_of b
            good_start h = let r : given (z, n) ≡ left 5 = simp (size, count, le-ltb most_blocks n h) in r ∙ some-held

-- ---- 19 and 20 of a moment at p in a radial of z bytes, by what is asked of its head and the bit of its name
module _ (z p : ℕ) (h : Key) (seen bit : ℕ) (is : bit ≡ bit_of h.name) where
  abbrev rest : ℕ → Answer (ℕ × ℕ)
  rest k = rule (drop k (moment_part z p h seen)) (bit_of h.name, p + moment_bytes h.gates h.word)

  permits : among h.name permitted ≡ not (eqb bit 0)
  permits = sym (ap (λ (n : ℕ). not (eqb n 0)) is ∙ permitted_bit h.name)

  marks : marked seen h.name ≡ not (eqb (bit_and seen bit) 0)
  marks = ap (λ (n : ℕ). not (eqb (bit_and seen n) 0)) (sym is)

  pub unknown_name : bit ≡ 0 → refused 19 ≡ moment_in z p h seen
  unknown_name e = simp (permits ∙ ap not (eq-eqb bit 0 e))

  module _ (some : bit ≡ 0 → ⊥) where
    known : rest 1 ≡ moment_in z p h seen
    known = simp (permits ∙ ap not (ne_eqb bit 0 some))

    module _ (new : bit_and seen bit ≡ 0) where
      after-19 : rest 2 ≡ moment_in z p h seen
      after-19 = let r : rest 2 ≡ rest 1 = simp (marks ∙ ap not (eq-eqb (bit_and seen bit) 0 new)) in r ∙ known

      pub many-gates : most_gates < h.gates → refused 20 ≡ moment_in z p h seen
      many-gates k = let r : refused 20 ≡ rest 2 = simp (lt-ltb most_gates h.gates k) in r ∙ after-19

      module _ (few : h.gates ≤ most_gates) where
        gates-held : rest 3 ≡ moment_in z p h seen
        gates-held = let r : rest 3 ≡ rest 2 = simp (le-ltb most_gates h.gates few) in r ∙ after-19

        pub odd-word : false ≡ among h.word word_sizes → refused 20 ≡ moment_in z p h seen
        odd-word w = let r : refused 20 ≡ rest 3 = simp (sym w) in r ∙ gates-held

        module _ (fit : true ≡ among h.word word_sizes) (long : ℕ) (says : long ≡ moment_bytes h.gates h.word) where
          word_held : rest 4 ≡ moment_in z p h seen
          word_held = let r : rest 4 ≡ rest 3 = simp (sym fit) in r ∙ gates-held

          pub past-radial : z < p + long → refused 20 ≡ moment_in z p h seen
          past-radial k = let r : refused 20 ≡ rest 4 = simp (sym says, lt-ltb z (p + long) k) in r ∙ word_held

          pub good-moment : p + long ≤ z → given (bit, p + long) ≡ moment_in z p h seen
          good-moment k = let r : given (bit, p + long) ≡ rest 4 = simp (sym says, le-ltb z (p + long) k, is) in r ∙ word_held
