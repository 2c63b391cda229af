-- "The message header": its table, its checks in their order, and what is read of it. The rules of its values stand in `header_rule`.
use Rattle.std.specs.Prelude.{ℕ, Bool, List, [], ◌∷◌, ◌++◌, ltb, length, drop}
use Rattle.wire.specs.Numbers.{num}
use Rattle.wire.specs.Tables.{Field, field}
use Rattle.wire.specs.Checks.{pick, Check, check}
use Rattle.wire.specs.Answers.{Answer, rule}
use Rattle.wire.specs.Sizes.{halfwords, doubled}
use Rattle.wire.specs.declared.Halfwords.{Halfwords}
use Rattle.header_rule.specs.Rules.{too_large, long_mark, long_form, form_checks, not_permitted, segment_checks, time_checks}
use Rattle.header_rule.specs.Rules.{reported_size, reported_count, reported_number}
use Rattle.header.specs.declared.Header.{Header}
use Rattle.header.specs.declared.Stored.{Stored}

-- what stands in both forms between the size and the two segment fields
abbrev pub between : Header → List Field
between h =
    field 1 h.channel ∷ field 1 h.kind ∷ field 2 h.sequence ∷ field 2 h.date ∷ field 4 h.milliseconds ∷ []

-- "16 bytes, in order: size in halfwords with the header included (2 bytes), channel (1), type (1), sequence number (2), date (2),
-- milliseconds of the day (4), number of segments N (2), segment number (2)."
abbrev pub short_table : Header → List Field
short_table h = field 2 h.size.0 ∷ between h ++ (field 2 h.segments ∷ field 2 h.number ∷ [])

-- "Size 65,535 now means that the two segment fields together, high half first, hold the length in bytes with the 16-byte header" (K11)
abbrev pub long_table : Header → List Field
long_table h = field 2 long_mark.0 ∷ between h ++ (field 4 (doubled h.size).0 ∷ [])

-- the form of a header with its true size: "the long form exactly when the short one can't hold the length" (K11)
abbrev pub header_table : Header → List Field
header_table h = pick (too_large h.size) (long_table h) (short_table h)

abbrev pub header_size : ℕ
header_size = 16

-- where the channel, the sequence number, N and the segment number begin
abbrev pub channel_place : ℕ
channel_place = 2

abbrev pub sequence_place : ℕ
sequence_place = 4

abbrev pub count_place : ℕ
count_place = 12

abbrev pub number_place : ℕ
number_place = 14

-- the values that a message begins with, as stored
unfoldable pub stored_in : List ℕ → Stored
stored_in b = record {
  size = halfwords (num 2 b 0);
  channel = num 1 b channel_place;
  kind = num 1 b 3;
  sequence = num 2 b sequence_place;
  date = num 2 b 6;
  milliseconds = num 4 b 8;
  segments = num 2 b count_place;
  number = num 2 b number_place;
}

-- the values h, taken as stored ones
abbrev pub as_stored : Header → Stored
as_stored h = record {
  size = h.size;
  channel = h.channel;
  kind = h.kind;
  sequence = h.sequence;
  date = h.date;
  milliseconds = h.milliseconds;
  segments = h.segments;
  number = h.number;
}

-- the size and the N that are reported of stored values, and whether they are of the long form
abbrev pub is_long : Stored → Bool
is_long s = long_form s.size s.kind

abbrev pub size_of : Stored → Halfwords
size_of s = reported_size s.size s.kind s.segments s.number

abbrev pub count_of : Stored → ℕ
count_of s = reported_count s.size s.kind s.segments

-- all other values count, and are reported, as stored
abbrev pub as_reported : Stored → Header
as_reported s = record {
  size = size_of s;
  channel = s.channel;
  kind = s.kind;
  sequence = s.sequence;
  date = s.date;
  milliseconds = s.milliseconds;
  segments = count_of s;
  number = reported_number (count_of s) s.number;
}

-- the header h with the number k
abbrev pub with_number : Header → ℕ → Header
with_number h k = record {
  size = h.size;
  channel = h.channel;
  kind = h.kind;
  sequence = h.sequence;
  date = h.date;
  milliseconds = h.milliseconds;
  segments = h.segments;
  number = k;
}

-- the header that a message begins with
unfoldable pub header_in : List ℕ → Header
header_in b = as_reported (stored_in b)

-- the data of a message: what follows its header
abbrev pub data_in : List ℕ → List ℕ
data_in b = drop header_size b

-- the checks of a header's values, 5 to 8: 5 of the stored values s in a message of `long` bytes, by their form
abbrev pub form_checks_of : Stored → ℕ → List Check
form_checks_of s long = form_checks s.size s.kind s.segments s.number long

-- and 6 to 8 of the values as they count
abbrev pub later_checks : Header → List Check
later_checks h =
    check 6 (not_permitted h.kind)
    ∷ segment_checks h.size h.kind h.segments h.number
    ++ time_checks h.date h.milliseconds

-- "Header: 4 to 8 rising."
abbrev pub header_checks : List ℕ → List Check
header_checks b = check 4 (ltb (length b) header_size) ∷ form_checks_of (stored_in b) (length b) ++ later_checks (header_in b)

-- what a message, a data frame's body, answers: its header
unfoldable pub header_of : List ℕ → Answer Header
header_of b = rule (header_checks b) (header_in b)
