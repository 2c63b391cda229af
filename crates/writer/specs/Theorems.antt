-- What is proved of the frames that the writer writes.
use Rattle.std.specs.Prelude.{ℕ, ◌+◌, ◌≤◌, ◌<◌, ◌≡◌, ◌↔◌, List, length}
use Rattle.wire.specs.Numbers.{num}
use Rattle.wire.specs.Answers.{given}
use Rattle.wire.specs.declared.Bytes.{Bytes}
use Rattle.frame.specs.Session.{head_size}
use Rattle.header_rule.specs.Rules.{long_mark, least_length, radial_type}
use Rattle.header.specs.Header.{header_size}
use Rattle.header.specs.Theorems.{count_place, number_place}
use Rattle.writer_head.specs.declared.Given.{Given}
use Rattle.writer.specs.Writing.{segments_of, write_of}

-- "frames are written in order from number 1 to N": where N is 1 the two bytes of the number spell 1, though a reader takes any (K1). So it
-- is of a body that the short form holds
abbrev pub LoneNumber : Type 0
LoneNumber = (g : Given) (body out : List ℕ) (size : Bytes) → (write_of g body out).answer ≡ given size
    → length (segments_of g.kind body) ≡ 1
    → header_size + length body < least_length.0
    → num 2 (write_of g body out).output (head_size + number_place) ≡ 1

-- "the writer uses the long form exactly when the short one can't hold the length" (K11): what a radial is written as
pub record RadialForm (body written : List ℕ) : Type 0 where
  pub exactly : (num 2 written head_size ≡ long_mark.0) ↔ (least_length.0 ≤ header_size + length body)
  pub told : least_length.0 ≤ header_size + length body → num 4 written (head_size + count_place) ≡ header_size + length body

abbrev pub FormWritten : Type 0
FormWritten = (g : Given) (body out : List ℕ) (size : Bytes) → (write_of g body out).answer ≡ given size → g.kind ≡ radial_type
    → RadialForm body (write_of g body out).output
