-- The limits of the radial on either side, and what the rule answers to them. The starred cases stand in `demands`.
use Rattle.std.specs.Prelude.{ℕ, ◌-◌, ◌*◌, ◌/◌, ◌≡◌, List, [], ◌∷◌, ◌++◌, length, get_or, drop, replicate}
use Rattle.std.proofs.Math.Option.{Option, none, some}
use Rattle.wire.specs.Properties.{Each}
use Rattle.wire.specs.Numbers.{be}
use Rattle.wire.specs.Answers.{Answer, refused, given}
use Rattle.radial_spec.specs.Description.{Description, RVOL, RELV, RRAD, constant_head, permitted}
use Rattle.radial_spec.specs.Refusal.{radial_of}

-- ---- bodies: every byte that a case leaves open is 0
abbrev pub zeros : ℕ → List ℕ
zeros n = replicate n 0

abbrev pub words : List ℕ → List ℕ
words [] = []
words (p ∷ ps) = be 4 p ++ words ps

-- a header with the compression, the radial length, the block count and the pointers
abbrev pub headed : ℕ → ℕ → ℕ → List ℕ → List ℕ
headed compression size count ps =
    zeros 16 ++ (compression ∷ (0 ∷ (be 2 size ++ (zeros 10 ++ (be 2 count ++ (words ps ++ zeros (36 - 4 * length ps)))))))

abbrev pub header : ℕ → List ℕ → List ℕ
header size ps = headed 0 size (length ps) ps

abbrev pub constant : ℕ → ℕ → List ℕ
constant name size = be 4 name ++ (be 2 size ++ zeros (size - constant_head))

-- the three constant blocks, with these lengths
abbrev pub constant_blocks : ℕ → ℕ → ℕ → List ℕ
constant_blocks volume elevation radial = constant RVOL volume ++ (constant RELV elevation ++ constant RRAD radial)

abbrev pub moment : ℕ → ℕ → ℕ → List ℕ
moment name gates word = be 4 name ++ (zeros 4 ++ (be 2 gates ++ (zeros 9 ++ (word ∷ (zeros 8 ++ zeros (gates * (word / 8)))))))

-- the first of the permitted names, "DREF"
abbrev pub REF : ℕ
REF = get_or permitted 0 0

-- ---- a case: a body, and the number that refuses it, or none
pub record Case : Type 0 where
  pub body : List ℕ
  pub number : Option ℕ

abbrev pub case : List ℕ → Option ℕ → Case
case b n = record { body = b; number = n }

abbrev pub number_of : Answer Description → Option ℕ
number_of (refused n) = some n
number_of (given d) = none

abbrev pub Answered : Case → Type 0
Answered c = number_of (radial_of c.body) ≡ c.number

-- three constant blocks and a moment with no gates, one after the other from 68 on
abbrev pub places : List ℕ
places = 68 ∷ 112 ∷ 124 ∷ 144 ∷ []

abbrev pub three : List ℕ
three = constant_blocks 44 12 20

abbrev pub blocks : List ℕ
blocks = three ++ moment REF 0 8

-- ---- each limit on either side
-- a moment of each of these names, with no gates
abbrev pub moments_of : List ℕ → List ℕ
moments_of [] = []
moments_of (n ∷ ns) = moment n 0 8 ++ moments_of ns

-- the permitted names in another order: the first last
abbrev pub turned : List ℕ
turned = drop 1 permitted ++ (REF ∷ [])

-- a body of 67 bytes, and of 68; compression 1; radial length 67, and above the body
abbrev pub header_cases : List Case
header_cases =
    case (zeros 67) (some 14)
    ∷ case (zeros 68) (some 16)
    ∷ case (headed 1 172 4 places ++ blocks) (some 15)
    ∷ case (header 67 places ++ blocks) (some 16)
    ∷ case (header 68 places ++ blocks) (some 18)
    ∷ case (header 173 places ++ blocks) (some 16)
    ∷ []

-- 3 blocks, and 10; 9 with every permitted name
abbrev pub count_cases : List Case
count_cases =
    case (header 144 (68 ∷ 112 ∷ 124 ∷ []) ++ three) (some 17)
    ∷ case (headed 0 172 10 places ++ blocks) (some 17)
    ∷ case (header 312 (places ++ (172 ∷ 200 ∷ 228 ∷ 256 ∷ 284 ∷ [])) ++ (three ++ moments_of turned)) none
    ∷ []

-- the first block at 67, the second and the third before the end of the one before; 5 bytes left, and 6; RVOL for RELV, and a moment "DCFP"
abbrev pub place_cases : List Case
place_cases =
    case (header 172 (67 ∷ 112 ∷ 124 ∷ 144 ∷ []) ++ blocks) (some 18)
    ∷ case (header 172 (68 ∷ 111 ∷ 124 ∷ 144 ∷ []) ++ blocks) (some 18)
    ∷ case (header 172 (68 ∷ 112 ∷ 123 ∷ 144 ∷ []) ++ blocks) (some 18)
    ∷ case (header 73 places ++ blocks) (some 18)
    ∷ case (header 74 places ++ blocks) (some 20)
    ∷ case (header 172 places ++ (constant RVOL 44 ++ (constant RVOL 12 ++ (constant RRAD 20 ++ moment REF 0 8)))) (some 19)
    ∷ case (header 172 places ++ (three ++ moment 0x44434650 0 8)) (some 19)
    ∷ []

-- block lengths 43, 11 and 19, and a longer one; 1,840 gates, and 1,841; words of 12 bits; a word of 16 bits that ends past the radial
-- length, and within
abbrev pub size_cases : List Case
size_cases =
    case (header 171 (68 ∷ 111 ∷ 123 ∷ 143 ∷ []) ++ (constant_blocks 43 12 20 ++ moment REF 0 8)) (some 20)
    ∷ case (header 171 (68 ∷ 112 ∷ 123 ∷ 143 ∷ []) ++ (constant_blocks 44 11 20 ++ moment REF 0 8)) (some 20)
    ∷ case (header 171 (68 ∷ 112 ∷ 124 ∷ 143 ∷ []) ++ (constant_blocks 44 12 19 ++ moment REF 0 8)) (some 20)
    ∷ case (header 180 (68 ∷ 112 ∷ 124 ∷ 152 ∷ []) ++ (constant_blocks 44 12 28 ++ moment REF 0 8)) none
    ∷ case (header 2012 places ++ (three ++ moment REF 1840 8)) none
    ∷ case (header 2013 places ++ (three ++ moment REF 1841 8)) (some 20)
    ∷ case (header 172 places ++ (three ++ moment REF 0 12)) (some 20)
    ∷ case (header 173 places ++ (three ++ moment REF 1 16)) (some 20)
    ∷ case (header 174 places ++ (three ++ moment REF 1 16)) none
    ∷ []

abbrev pub Limits : Type 0
Limits = Each Answered (header_cases ++ (count_cases ++ (place_cases ++ size_cases)))
