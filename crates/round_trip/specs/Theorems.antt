-- Demand 2: the frames that were written are read back as the message that was given.
use Rattle.std.specs.Prelude.{ℕ, ◌+◌, ◌^◌, ◌≤◌, ◌<◌, ◌≡◌, List, [], ◌∷◌, length, take}
use Rattle.wire.specs.Answers.{given}
use Rattle.wire.specs.Sizes.{bytes, halved}
use Rattle.wire.specs.declared.Bytes.{Bytes}
use Rattle.header.specs.Header.{header_size}
use Rattle.header.specs.declared.Header.{Header}
use Rattle.set_spec.specs.Walk.{set_of}
use Rattle.set_spec.specs.Theorems.{accepted}
use Rattle.writer.specs.Writing.{segments_of, write_of}
use Rattle.writer_head.specs.declared.Given.{Given}

-- every value given is one of its type: 8 bits for channel and type, 16 for sequence number and date, 32 for milliseconds
pub record Fits (g : Given) : Type 0 where
  pub channel : g.channel < 2 ^ 8
  pub kind : g.kind < 2 ^ 8
  pub sequence : g.sequence < 2 ^ 16
  pub date : g.date < 2 ^ 16
  pub milliseconds : g.milliseconds < 2 ^ 32

-- the data of the first segment
abbrev pub first_of : List (List ℕ) → List ℕ
first_of [] = []
first_of (part ∷ parts) = part

-- the header that comes back: the channel, type, sequence number, date and milliseconds given, N, and number 1
abbrev pub header_back : Given → List ℕ → Header
header_back g body = record {
  size = halved (bytes (header_size + length (first_of (segments_of g.kind body))));
  channel = g.channel;
  kind = g.kind;
  sequence = g.sequence;
  date = g.date;
  milliseconds = g.milliseconds;
  segments = length (segments_of g.kind body);
  number = 1;
}

-- for every type, body and number of segments: what an accepted write wrote, read as a set into an output with enough room,
-- gives that header and the body, and leaves the rest of the output as it was
abbrev pub RoundTrip : Type 0
RoundTrip = (g : Given) (body out room : List ℕ) (size : Bytes) → Fits g → (write_of g body out).answer ≡ given size
    → length body ≤ length room
    → set_of (take size.0 (write_of g body out).output) room ≡ accepted (header_back g body) body room
