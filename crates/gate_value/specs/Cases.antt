-- The end values of Table XVII-I, codes 2 and 255. The starred case stands in `demands`.
use Rattle.std.specs.Prelude.{ℕ, ◌≡◌, List, [], ◌∷◌}
use Rattle.wire.specs.Properties.{Each}
use Rattle.wire.specs.Answers.{given}
use Rattle.gate_value.specs.Value.{float, Worth, worth, value_of}

pub record Case : Type 0 where
  pub code : ℕ
  pub scale : ℕ
  pub offset : ℕ
  pub right : Worth

abbrev pub case : ℕ → ℕ → ℕ → Worth → Case
case c s o w = record { code = c; scale = s; offset = o; right = w }

abbrev pub Worthy : Case → Type 0
Worthy c = value_of c.code c.scale c.offset ≡ given c.right

-- floats by their 32 bits: scales 1, 2 and 16, offsets 66, 128 and 129
abbrev pub one : ℕ
one = 0x3F800000

abbrev pub two : ℕ
two = 0x40000000

abbrev pub sixteen : ℕ
sixteen = 0x41800000

abbrev pub sixty_six : ℕ
sixty_six = 0x42840000

abbrev pub one_twenty_eight : ℕ
one_twenty_eight = 0x43000000

abbrev pub one_twenty_nine : ℕ
one_twenty_nine = 0x43010000

abbrev pub table_cases : List Case
table_cases =
    -- REF: -32.0 and 94.5
    case 2 two sixty_six (worth (float 0xC2000000))
    ∷ case 255 two sixty_six (worth (float 0x42BD0000))
    -- VEL at scale 2, and SW: -63.5 and 63.0
    ∷ case 2 two one_twenty_nine (worth (float 0xC27E0000))
    ∷ case 255 two one_twenty_nine (worth (float 0x427C0000))
    -- VEL at scale 1: -127 and 126
    ∷ case 2 one one_twenty_nine (worth (float 0xC2FE0000))
    ∷ case 255 one one_twenty_nine (worth (float 0x42FC0000))
    -- ZDR: -7.875 and 7.9375
    ∷ case 2 sixteen one_twenty_eight (worth (float 0xC0FC0000))
    ∷ case 255 sixteen one_twenty_eight (worth (float 0x40FE0000))
    ∷ []

abbrev pub Table : Type 0
Table = Each Worthy table_cases
