-- What each step of reading a header answers: the stored values, the number of refusal, the header reported.
use Rattle.std.specs.Prelude.{ℕ, Bool, not, List, [], ◌∷◌, ◌++◌, ltb, eqb, length}
use Rattle.wire.specs.Numbers.{fetched}
use Rattle.wire.specs.Checks.{pick, both, check, decide}
use Rattle.header.specs.declared.Header.{Header}
use Rattle.header.specs.declared.Stored.{Stored}
use Rattle.header_rule.specs.Rules.{marked, reported_number}
use Rattle.header.specs.Header.{header_size, channel_place, sequence_place, number_place, stored_in, as_reported, form_checks_of, later_checks}

-- the stored values of a message before the checks, or all 0 where it is too short for a header
unfoldable pub stored_or0 : List ℕ → Stored
stored_or0 b = pick (ltb (length b) header_size) (stored_in []) (stored_in b)

-- the number of refusal of a message of `long` bytes with the stored values s, or 0
unfoldable pub refusal_of : Stored → ℕ → ℕ
refusal_of s long =
    decide (check 4 (ltb long header_size) ∷ form_checks_of s long ++ later_checks (as_reported s)) (λ (n : ℕ). n) 0

-- such a message is accepted, and its size is not 65,535
unfoldable pub accepted_short : Stored → ℕ → Bool
accepted_short s long = both (not (marked s.size)) (eqb (refusal_of s long) 0)

-- the reported header of the short form: the stored values s that are checked, and from the message what is not: channel, sequence number
-- and, where N is not 1, the segment number
abbrev pub reported_short : List ℕ → Stored → Header
reported_short b s = record {
  size = s.size;
  channel = fetched 1 b channel_place;
  kind = s.kind;
  sequence = fetched 2 b sequence_place;
  date = s.date;
  milliseconds = s.milliseconds;
  segments = s.segments;
  number = reported_number s.segments (fetched 2 b number_place);
}
