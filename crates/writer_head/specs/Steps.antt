-- What each step of writing a header answers: the three fields that go by the form.
use Rattle.std.specs.Prelude.{ℕ, ◌/◌, ◌%◌}
use Rattle.wire.specs.Checks.{pick}
use Rattle.wire.specs.Sizes.{doubled}
use Rattle.wire.specs.declared.Halfwords.{Halfwords}
use Rattle.header_rule.specs.Rules.{too_large, long_mark}

-- the size, or the mark
abbrev pub size_written : Halfwords → ℕ
size_written size = pick (too_large size) long_mark.0 size.0

-- N and the number, or the two halves of the length
abbrev pub high_written : ℕ → Halfwords → ℕ
high_written n size = pick (too_large size) ((doubled size).0 / 65536) n

abbrev pub low_written : ℕ → Halfwords → ℕ
low_written k size = pick (too_large size) ((doubled size).0 % 65536) k
