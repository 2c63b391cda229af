-- What is proved of the header's rules in both forms: that what is read is what the table says, what K1 asks of a message of one segment,
-- and what K11 asks of the long form.
use Rattle.std.specs.Prelude.{ℕ, ◌*◌, ◌%◌, ◌≤◌, ◌<◌, ◌≡◌, ◌⊎◌, ◌↔◌, true, false, List, [], ◌∷◌, ◌++◌, ltb, length}
use Rattle.wire.specs.Numbers.{num, Octets}
use Rattle.wire.specs.Tables.{render, Holds}
use Rattle.wire.specs.Checks.{pick, Check, check, AllHold}
use Rattle.wire.specs.Answers.{refused, given}
use Rattle.wire.specs.Sizes.{longest_message}
use Rattle.header.specs.declared.Header.{Header}
use Rattle.header.specs.declared.Stored.{Stored}
use Rattle.header_rule.specs.Rules.{too_large, size_checks, long_mark, marked, least_length, not_permitted, radial_type, segment_too_large, last_millisecond}
use Rattle.header_rule.specs.Rules.{time_checks}
use Rattle.header.specs.Header.{header_table, long_table, header_size, count_place, number_place, stored_in, is_long, with_number, header_in, header_of}
use Rattle.header.specs.Theorems.{Lone, ButTwoBytes}

-- "What is read .. is what the interface document .. defines": the table of the header h stands at the start of b
pub record Stands (b : List ℕ) (h : Header) : Type 0 where
  -- with the stored number in it, whatever that is: of a lone segment 1 is reported
  pub table : Holds b 0 (render (header_table (with_number h (num 2 b number_place))))
  -- and as it is reported where N is not 1, and in the long form
  pub others : (h.segments ≡ 1 → ⊥) → Holds b 0 (render (header_table h))
  pub long : too_large h.size ≡ true → Holds b 0 (render (long_table h))

abbrev pub HeaderStands : Type 0
HeaderStands = (b : List ℕ) (h : Header) → Octets b → header_of b ≡ given h → Stands b h

-- ---- K1: "Where N is 1, any segment number is accepted and reported as 1"

-- the checks before those of the segments: 4, the size, the type. The message has `long` bytes and the stored values s, and is not of the
-- long form: at size 65,535 the size is not tested
abbrev pub before_segment : Stored → ℕ → List Check
before_segment s long =
    check 4 (ltb long header_size) ∷ pick (marked s.size) [] (size_checks s.size long) ++ (check 6 (not_permitted s.kind) ∷ [])

-- the checks of a message of one segment: those, 1,208, date and time. None of them uses N or the number
abbrev pub lone_checks : Stored → ℕ → List Check
lone_checks s long = before_segment s long ++ (check 7 (segment_too_large s.size s.kind) ∷ time_checks s.date s.milliseconds)

-- "any segment number is accepted": a message of one segment is accepted exactly if all other checks hold
abbrev pub LoneByOtherChecks : Type 0
LoneByOtherChecks = (b : List ℕ) → Lone b → (header_of b ≡ given (header_in b)) ↔ AllHold (lone_checks (stored_in b) (length b))

-- "number 7 loses that cause for N = 1 only": for any other N, a stored number of 0 or above N is refused as 7
abbrev pub NumberOutside : Type 0
NumberOutside = (b : List ℕ) → is_long (stored_in b) ≡ false → ((stored_in b).segments ≡ 1 → ⊥)
    → AllHold (before_segment (stored_in b) (length b)) → ((stored_in b).number ≡ 0) ⊎ ((stored_in b).segments < (stored_in b).number)
    → header_of b ≡ refused 7

-- ---- K11: "Size 65,535 now means that the two segment fields together, high half first, hold the length in bytes"

-- a message of the long form, with a whole header
pub record Long (b : List ℕ) : Type 0 where
  pub headed : header_size ≤ length b
  pub mark : num 2 b 0 ≡ long_mark.0
  pub radial : num 1 b 3 ≡ radial_type

-- "even, 131,070 to 1,048,576, equal to the frame's body"
pub record LengthHolds (b : List ℕ) : Type 0 where
  pub told : num 4 b count_place ≡ length b
  pub even : length b % 2 ≡ 0
  pub least : least_length.0 ≤ length b
  pub most : length b ≤ longest_message.0

abbrev pub TimeHolds : List ℕ → Type 0
TimeHolds b = (1 ≤ num 2 b 6) × (num 4 b 8 ≤ last_millisecond)

-- "It counts as N = 1, number 1, .., and its size is reported as the true length in halfwords."
pub record CountsAsOne (b : List ℕ) (h : Header) : Type 0 where
  pub size : h.size.0 * 2 ≡ length b
  pub segments : h.segments ≡ 1
  pub number : h.number ≡ 1

-- a message of the long form is accepted exactly if its length and its time hold; otherwise it is refused as 5, or where the length holds
-- as 8
pub record LongAnswer (b : List ℕ) : Type 0 where
  pub accepted : (header_of b ≡ given (header_in b)) ↔ (LengthHolds b × TimeHolds b)
  pub counts : LengthHolds b → CountsAsOne b (header_in b)
  pub wrong_length : (LengthHolds b → ⊥) → header_of b ≡ refused 5
  pub wrong_time : LengthHolds b → (TimeHolds b → ⊥) → header_of b ≡ refused 8

abbrev pub LongExactly : Type 0
LongExactly = (b : List ℕ) → Long b → LongAnswer b

-- "without K1's freedom": another number in any two of the four bytes that hold the length is refused as 5
abbrev pub NoFreedom : Type 0
NoFreedom = (b b' : List ℕ) (h : Header) (place : ℕ) → Octets b → Octets b' → Long b → header_of b ≡ given h
    → count_place ≤ place → place ≤ number_place → ButTwoBytes place b b' → (b ≡ b' → ⊥) → header_of b' ≡ refused 5

-- "Only type 31 may use it: a type not permitted still gets 6, any other type with size 65,535 gets 7"
abbrev pub MarkedOther : Type 0
MarkedOther = (b : List ℕ) → header_size ≤ length b → num 2 b 0 ≡ long_mark.0 → (num 1 b 3 ≡ radial_type → ⊥)
    → header_of b ≡ refused (pick (not_permitted (num 1 b 3)) 6 7)

-- an accepted header is of the long form exactly if its size is above the most that the short form holds
abbrev pub FormBySize : Type 0
FormBySize = (b : List ℕ) (h : Header) → header_of b ≡ given h → too_large h.size ≡ is_long (stored_in b)

-- "its size is reported as the true length in halfwords": so it is in both forms
abbrev pub SizeIsTrue : Type 0
SizeIsTrue = (b : List ℕ) (h : Header) → header_of b ≡ given h → h.size.0 * 2 ≡ length b
