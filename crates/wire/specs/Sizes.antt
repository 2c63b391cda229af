-- "A count of halfwords and a count of bytes are different things and are kept apart throughout; a halfword is 2 bytes."
use Rattle.std.specs.Prelude.{ℕ, ◌*◌, ◌/◌, ◌%◌, Bool, not, eqb}
use Rattle.wire.specs.declared.Bytes.{Bytes}
use Rattle.wire.specs.declared.Halfwords.{Halfwords}

abbrev pub bytes : ℕ → Bytes
bytes n = record { 0 = n }

abbrev pub halfwords : ℕ → Halfwords
halfwords n = record { 0 = n }

-- the one conversion
abbrev pub halved : Bytes → Halfwords
halved b = halfwords (b.0 / 2)

-- the bytes of so many halfwords
abbrev pub doubled : Halfwords → Bytes
doubled h = bytes (h.0 * 2)

-- the most bytes of a message, which are also the most of a session's body
abbrev pub longest_message : Bytes
longest_message = bytes 1048576

-- a count of bytes that is odd
abbrev pub odd : ℕ → Bool
odd n = not (eqb (n % 2) 0)
