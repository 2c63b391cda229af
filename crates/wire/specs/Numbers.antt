-- "All numbers are big-endian."
use Rattle.std.specs.Prelude.{ℕ, zero, suc, ◌+◌, ◌*◌, ◌/◌, ◌%◌, ◌<◌, List, [], ◌∷◌, ◌++◌, leb, length, get_or}
use Rattle.wire.specs.Checks.{pick}
use Rattle.wire.specs.Sheets.{laid}

-- the number in the w bytes from p on, the highest first
unfoldable pub num : ℕ → List ℕ → ℕ → ℕ
num zero b p = 0
num (suc w) b p = num w b p * 256 + get_or b (p + w) 0

-- the same if all w bytes are there, else 0: the answer of a fetch at any place
unfoldable pub fetched : ℕ → List ℕ → ℕ → ℕ
fetched w b p = pick (leb (p + w) (length b)) (num w b p) 0

-- n numbers of w bytes each, one after the other from p on
abbrev pub nums : ℕ → List ℕ → ℕ → ℕ → List ℕ
nums w b p zero = []
nums w b p (suc n) = num w b p ∷ nums w b (p + w) n

-- n as w bytes, the highest first
abbrev pub be : ℕ → ℕ → List ℕ
be zero n = []
be (suc w) n = be w (n / 256) ++ (n % 256 ∷ [])

-- the contents of an output that held `out`, after n was stored as w bytes from p on; nothing is stored without room for all of them
unfoldable pub stored : ℕ → List ℕ → ℕ → ℕ → List ℕ
stored w out p n = pick (leb (p + w) (length out)) (laid out p (be w n)) out

-- every element is a byte
abbrev pub Octets : List ℕ → Type 0
Octets b = (i : ℕ) → get_or b i 0 < 256

-- a 32-bit float: the bits of an infinity without the sign, above which are those of NaN, and the value of the sign bit
abbrev pub infinite : ℕ
infinite = 2139095040

abbrev pub sign : ℕ
sign = 2147483648
