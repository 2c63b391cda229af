-- "The message header": the rules of its values, 5 to 8.
use Rattle.std.specs.Prelude.{ℕ, ◌+◌, ◌*◌, Bool, not, List, [], ◌∷◌, ◌++◌, ltb, eqb}
use Rattle.wire.specs.Checks.{pick, both, among, Check, check}
use Rattle.wire.specs.Sizes.{bytes, halfwords, halved, longest_message, odd}
use Rattle.wire.specs.declared.Bytes.{Bytes}
use Rattle.wire.specs.declared.Halfwords.{Halfwords}

-- "Size is 8 to 65,534,"
abbrev pub least_size : Halfwords
least_size = halfwords 8

abbrev pub most_size : Halfwords
most_size = halfwords 65534

abbrev pub too_small : Halfwords → Bool
too_small size = ltb size.0 least_size.0

abbrev pub too_large : Halfwords → Bool
too_large size = ltb most_size.0 size.0

-- "and the frame's body is exactly twice that in bytes": it has an even number of bytes, and half of it is the size
abbrev pub not_the_body : Halfwords → ℕ → Bool
not_the_body size long = not (eqb (halved (bytes long)).0 size.0)

abbrev pub size_checks : Halfwords → ℕ → List Check
size_checks size long = check 5 (too_small size) ∷ check 5 (too_large size) ∷ check 5 (odd long) ∷ check 5 (not_the_body size long) ∷ []

-- "Size 65,535 now means that the two segment fields together, high half first, hold the length in bytes with the 16-byte header:" (K11)
abbrev pub long_mark : Halfwords
long_mark = halfwords 65535

abbrev pub marked : Halfwords → Bool
marked size = eqb size.0 long_mark.0

abbrev pub length_in : ℕ → ℕ → Bytes
length_in high low = bytes (high * 65536 + low)

-- "even, 131,070 to 1,048,576, equal to the frame's body, otherwise 5."
abbrev pub least_length : Bytes
least_length = bytes 131070

abbrev pub length_too_small : Bytes → Bool
length_too_small told = ltb told.0 least_length.0

abbrev pub length_too_large : Bytes → Bool
length_too_large told = ltb longest_message.0 told.0

abbrev pub length_not_the_body : Bytes → ℕ → Bool
length_not_the_body told long = not (eqb told.0 long)

abbrev pub length_checks : Bytes → ℕ → List Check
length_checks told long =
    check 5 (odd told.0)
    ∷ check 5 (length_too_small told)
    ∷ check 5 (length_too_large told)
    ∷ check 5 (length_not_the_body told long)
    ∷ []

-- "Types permitted: 1 to 13, 15, 18, 31.": the last of those in a row, the filter map's, the adaptation data's and the radial's
abbrev pub last_in_row : ℕ
last_in_row = 13

abbrev pub filter_map_type : ℕ
filter_map_type = 15

abbrev pub adaptation_type : ℕ
adaptation_type = 18

abbrev pub radial_type : ℕ
radial_type = 31

abbrev pub permitted_types : List ℕ
permitted_types = 1 ∷ 2 ∷ 3 ∷ 4 ∷ 5 ∷ 6 ∷ 7 ∷ 8 ∷ 9 ∷ 10 ∷ 11 ∷ 12 ∷ last_in_row ∷ filter_map_type ∷ adaptation_type ∷ radial_type ∷ []

abbrev pub not_permitted : ℕ → Bool
not_permitted kind = not (among kind permitted_types)

-- "Only type 31 may use it: .. any other type .., and 5 isn't tested for them." (K11): the checks of the size, by the form. The message has
-- `long` bytes, `high` and `low` in its two segment fields
abbrev pub long_form : Halfwords → ℕ → Bool
long_form size kind = both (marked size) (eqb kind radial_type)

abbrev pub form_checks : Halfwords → ℕ → ℕ → ℕ → ℕ → List Check
form_checks size kind high low long =
    pick (marked size) (pick (eqb kind radial_type) (length_checks (length_in high low) long) []) (size_checks size long)

-- "It counts as N = 1, number 1, without K1's freedom, and its size is reported as the true length in halfwords." (K11): the size and the N
-- that the rules below are asked of, and that are reported. The number is then 1 as of every N of 1
abbrev pub reported_size : Halfwords → ℕ → ℕ → ℕ → Halfwords
reported_size size kind high low = pick (long_form size kind) (halved (length_in high low)) size

abbrev pub reported_count : Halfwords → ℕ → ℕ → ℕ
reported_count size kind n = pick (long_form size kind) 1 n

-- "N is 1 to 128;"
abbrev pub most_segments : ℕ
most_segments = 128

abbrev pub no_segments : ℕ → Bool
no_segments n = ltb n 1

abbrev pub too_many_segments : ℕ → Bool
too_many_segments n = ltb most_segments n

abbrev pub count_checks : ℕ → List Check
count_checks n = check 7 (no_segments n) ∷ check 7 (too_many_segments n) ∷ []

-- "Where N is 1, any segment number is accepted and reported as 1" (K1): what the rules below are asked of, and what is reported
abbrev pub reported_number : ℕ → ℕ → ℕ
reported_number n k = pick (eqb n 1) 1 k

-- "the segment number is 1 to N."
abbrev pub number_too_low : ℕ → Bool
number_too_low k = ltb k 1

abbrev pub number_too_high : ℕ → ℕ → Bool
number_too_high n k = ltb n k

abbrev pub number_checks : ℕ → ℕ → List Check
number_checks n k = check 7 (number_too_low k) ∷ check 7 (number_too_high n k) ∷ []

-- "Type 31 has N = 1."
abbrev pub radial_cut : ℕ → ℕ → Bool
radial_cut kind n = both (eqb kind radial_type) (not (eqb n 1))

-- "For any other type the size is at most 1,208."; "any other type with size 65,535 gets 7" (K11) by the same rule
abbrev pub segment_size : Halfwords
segment_size = halfwords 1208

abbrev pub segment_too_large : Halfwords → ℕ → Bool
segment_too_large size kind = both (not (eqb kind radial_type)) (ltb segment_size.0 size.0)

abbrev pub kind_checks : Halfwords → ℕ → ℕ → List Check
kind_checks size kind n = check 7 (radial_cut kind n) ∷ check 7 (segment_too_large size kind) ∷ []

abbrev pub segment_checks : Halfwords → ℕ → ℕ → ℕ → List Check
segment_checks size kind n k = count_checks n ++ (number_checks n k ++ kind_checks size kind n)

-- "Date is at least 1; milliseconds at most 86,399,999."
abbrev pub date_too_low : ℕ → Bool
date_too_low date = ltb date 1

abbrev pub last_millisecond : ℕ
last_millisecond = 86399999

abbrev pub time_too_high : ℕ → Bool
time_too_high milliseconds = ltb last_millisecond milliseconds

abbrev pub time_checks : ℕ → ℕ → List Check
time_checks date milliseconds = check 8 (date_too_low date) ∷ check 8 (time_too_high milliseconds) ∷ []
