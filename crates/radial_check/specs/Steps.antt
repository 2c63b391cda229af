-- What the private functions promise each other, in the rule's own checks. No public promise cites this file.
use Rattle.std.specs.Prelude.{ℕ, zero, suc, ◌+◌, ◌^◌, Bool, not, List, [], ◌∷◌, ltb, eqb, Result, Option, None, Some}
use Rattle.std.specs.Int.Bits.{bit_and}
use Rattle.wire.specs.Numbers.{fetched}
use Rattle.wire.specs.Checks.{Check, check, among, pick, decide}
use Rattle.wire.specs.Answers.{Answer, rule}
use Rattle.wire.specs.Refusals.{tell}
use Rattle.wire.specs.declared.refusal.Refusal.{Refusal}
use Rattle.radial_spec.specs.Description.{permitted, most_gates, word_sizes, moment_head, moment_pointer, radial_pointer, moment_bytes, length_place}
use Rattle.radial_spec.specs.Refusal.{size_in, count_in, pointer, part, block_says, header_checks, block_checks, moments_checks, end_at}
use Rattle.radial_spec.specs.Refusal.{constants_checks, head_in}
use Rattle.radial_head.specs.declared.Key.{Key}
use Rattle.radial_head.specs.Told.{key_of}
use Rattle.radial_check.specs.declared.Start.{Start}
use Rattle.radial_check.specs.declared.Got.{Got}

-- ---- each answer, told as the rule's
abbrev pub tell_start : Result Start Refusal → Answer (ℕ × ℕ)
tell_start = tell (λ s. (s.size, s.count))

abbrev pub tell_found : Result ℕ Refusal → Answer ℕ
tell_found = tell (λ end. end)

abbrev pub tell_got : Result Got Refusal → Answer (ℕ × ℕ)
tell_got = tell (λ m. (m.bit, m.end))

-- ---- names by their bits
-- 2 to the power of a name's index in a list, where the first index is k; 0 for a name that is not in it
abbrev pub bit_from : ℕ → List ℕ → ℕ → ℕ
bit_from k [] name = 0
bit_from k (n ∷ ns) name = pick (eqb name n) (2 ^ k) (bit_from (suc k) ns name)

unfoldable pub bit_of : ℕ → ℕ
bit_of name = bit_from 0 permitted name

-- a bit as the code gives it: none where it is 0
abbrev pub if_set : ℕ → Option ℕ
if_set zero = None
if_set (suc n) = Some (suc n)

-- the bit of the name is set in `seen`
abbrev pub marked : ℕ → ℕ → Bool
marked seen name = not (eqb (bit_and seen (bit_of name)) 0)

-- ---- a block at p in a radial of z bytes: a constant one that is named and says so, and a moment by what
-- is asked of its head
abbrev pub constant_part : ℕ → ℕ → ℕ → ℕ → ℕ → ℕ → List Check
constant_part z p named says name least =
    check 19 (not (eqb named name)) ∷ check 20 (ltb says least) ∷ check 20 (ltb z (p + says)) ∷ []

abbrev pub moment_part : ℕ → ℕ → Key → ℕ → List Check
moment_part z p h seen =
    check 19 (not (among h.name permitted))
    ∷ check 19 (marked seen h.name)
    ∷ check 20 (ltb most_gates h.gates)
    ∷ check 20 (not (among h.word word_sizes))
    ∷ check 20 (ltb z (p + moment_bytes h.gates h.word))
    ∷ []

-- ---- what each step of the check answers: of a block, where it ends
abbrev pub start_of : List ℕ → Answer (ℕ × ℕ)
start_of b = rule (header_checks b []) (size_in b, count_in b)

abbrev pub constant_in : ℕ → ℕ → ℕ → ℕ → ℕ → ℕ → Answer ℕ
constant_in z p named says name least = rule (constant_part z p named says name least) (p + says)

-- by the first bytes l of the block
abbrev pub constant_by : ℕ → ℕ → List ℕ → ℕ → ℕ → Answer ℕ
constant_by z p l name least = constant_in z p (fetched 4 l 0) (fetched 2 l length_place) name least

abbrev pub constant_step : ℕ → ℕ → ℕ → ℕ → List ℕ → ℕ → ℕ → Answer ℕ
constant_step q z from p l name least = rule (block_checks q z from p l name least []) (p + block_says l)

abbrev pub constant_at : List ℕ → ℕ → ℕ → ℕ → ℕ → ℕ → Answer ℕ
constant_at b z from q name least = constant_step q z from (pointer b q) (part b q) name least

abbrev pub constants_of : List ℕ → ℕ → Answer ℕ
constants_of b from = rule (constants_checks b from []) (end_at b radial_pointer)

abbrev pub moment_in : ℕ → ℕ → Key → ℕ → Answer (ℕ × ℕ)
moment_in z p h seen = rule (moment_part z p h seen) (bit_of h.name, p + moment_bytes h.gates h.word)

abbrev pub moment_step : ℕ → ℕ → ℕ → Key → ℕ → Answer (ℕ × ℕ)
moment_step z from p h seen =
    rule (check 18 (ltb p from) ∷ check 18 (ltb z (p + moment_head)) ∷ moment_part z p h seen)
    (bit_of h.name, p + moment_bytes h.gates h.word)

abbrev pub moment_next : List ℕ → ℕ → ℕ → ℕ → ℕ → Answer (ℕ × ℕ)
moment_next b z from q seen = moment_step z from (pointer b q) (key_of (head_in (part b q))) seen

-- the number of the first broken check of all moments, or 0
abbrev pub moments_of : List ℕ → ℕ → ℕ → ℕ → ℕ
moments_of b z from n = decide (moments_checks z b from moment_pointer [] n) (λ k. k) 0
