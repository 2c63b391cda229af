-- "Writing": the head of each frame that a message is written as, and the header of its segment.
use Rattle.std.specs.Prelude.{ℕ, ◌+◌, List, ◌++◌}
use Rattle.wire.specs.Tables.{render}
use Rattle.wire.specs.Sizes.{halved}
use Rattle.wire.specs.declared.Bytes.{Bytes}
use Rattle.frame.specs.Session.{head_table, head_size, data_kind}
use Rattle.header.specs.Header.{header_table, header_size}
use Rattle.header.specs.declared.Header.{Header}
use Rattle.writer_head.specs.declared.Given.{Given}

-- "every segment repeats the given channel, type, sequence number, date and milliseconds": the header of number k of n in a message of that
-- size
abbrev pub header_for : Given → ℕ → ℕ → Bytes → Header
header_for given n k size = record {
  size = halved size;
  channel = given.channel;
  kind = given.kind;
  sequence = given.sequence;
  date = given.date;
  milliseconds = given.milliseconds;
  segments = n;
  number = k;
}

-- the session's bytes before a body, and the header's before the data
abbrev pub heads_size : ℕ
heads_size = head_size + header_size

-- "The session's second number is 0": what stands before the segment's data
unfoldable pub heads : Given → ℕ → ℕ → Bytes → List ℕ
heads given n k size = render (head_table data_kind 0 size) ++ render (header_table (header_for given n k size))
