-- A name that C passes as one number is the number of its four bytes. Assumes nothing.
use Prim.Native.Nat.{ℕ, ◌<◌}
use mathlib.Core.Path.{◌≡◌}
use native.Mathlib.Omega.{arith}
use Rattle.std.specs.Int.{to_be_bytes, w32}
use Rattle.wire.specs.Numbers.{num}

pub name_back : (n : ℕ) → n < 4294967296 → num 4 (to_be_bytes w32 n) 0 ≡ n
unfolding num
name_back n h = omega arith
