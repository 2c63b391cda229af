use Prim.Native.Nat.{ℕ, ◌/◌, ◌+◌, ◌*◌}
use native.Mathlib.Nat.{mul-one}
use mathlib.Core.Logic.{⊎_elim}
use mathlib.Core.Path.{◌≡◌, refl, ap, sym}
use Rattle.radial_spec.specs.Description.{Member, word_sizes}
use Rattle.radial.proofs.CodeLaws.{fetched-code}
use Rattle.radial.proofs.code_in.Goals as goal

-- a wide word has two bytes
two_bytes : (w : ℕ) → w ≡ 16 → w / 8 ≡ 2
two_bytes w e = ap (λ (x : ℕ). x / 8) e

-- any other word has one byte
one_byte : (w : ℕ) → Member w word_sizes → (w ≡ 16 → ⊥) → w / 8 ≡ 1
one_byte w m narrow = ap (λ (x : ℕ). x / 8) (⊎_elim (λ p. p) (λ p. ⊎_elim (λ q. absurd (narrow q)) (λ q. absurd q) p) m)

pub returns-then-word-eq-WIDE_WORD : goal.returns-then-word-eq-WIDE_WORD
returns-then-word-eq-WIDE_WORD c =
    let a = c.args in
    let e = two_bytes a.word c.if-word-eq-WIDE_WORD.true in
    fetched-code 2 a.body.now a.place a.word a.gate (a.place + (28 + a.gate * 2)) _ e refl (rw e at c.requires.within)
    c.fetch.ensures

pub returns : goal.returns
returns c =
    let a = c.args in
    let e = one_byte a.word c.requires.sized c.if-word-eq-WIDE_WORD.false in
    fetched-code 1 a.body.now a.place a.word a.gate (a.place + (28 + a.gate)) _ e
    (ap (λ (x : ℕ). a.place + (28 + x)) (sym (mul-one a.gate))) (rw e at c.requires.within) c.fetch-2.ensures
