-- What `put` and `list` lay into an output, and what then stands in it. Assumes nothing.
use Prim.Native.Nat.{ℕ, ◌+◌, ◌*◌, ◌-◌, ◌≤◌, ◌<◌}
use mathlib.Core.Path.{◌≡◌, sym, ap, subst, ◌∙◌}
use mathlib.Core.List.{List, [], ◌∷◌, ◌++◌, map, flatten}
use native.Mathlib.Nat.{zero-add}
use native.Mathlib.Numerals.{add-one}
use native.Mathlib.Omega.{arith}
use lib.ListN.{length, take, drop, set, length-drop}
use lib.Seq.{length-take-le}
use Rattle.wire.specs.Writing.{filled}
use Rattle.copy.specs.Copying.{copied}
use Rattle.wire.specs.Sheets.{Sheet, sheet, lay, onto}
use Rattle.copy.proofs.CopyLaws.{copied-same}
use Rattle.wire.proofs.SheetLaws.{laid_sets, lay-room, lay-none, onto-long, onto-filled}
use Rattle.salvage_spec.specs.Walk.{Run, run}
use Rattle.salvage_spec.specs.Salvage.{two_of}
use Rattle.salvage_spec.proofs.RunLaws.{run_none, run-some}

-- all parts laid: so much is counted, and it stands in the output if there was room for it
module _ (parts : List (List ℕ)) (whole out₀ : List ℕ) (long : ℕ) (out : List ℕ) (is : flatten parts ≡ whole) (s : sheet long out
    ≡ onto parts (sheet 0 out₀)) where
  pub all_counted : long ≡ length whole
  all_counted = ap (λ (s : Sheet). s.long) s ∙ onto-long parts (sheet 0 out₀) ∙ zero-add (length (flatten parts)) ∙ ap length is

  pub all_laid : length whole ≤ length out₀ → out ≡ filled whole out₀
  all_laid room =
      ap (λ (s : Sheet). s.out) (s ∙ onto-filled parts out₀ (subst (λ (l : List ℕ). length l ≤ length out₀) (sym is) room))
      ∙ ap (λ (l : List ℕ). filled l out₀) is

-- bytes, as `put` copies them
pub put-laid : (out bytes : List ℕ) (long n : ℕ) (ys : List ℕ) → n ≡ length bytes → long + length bytes ≤ length out
    → ys ≡ copied bytes (take n (drop long out))
    → sheet (long + length bytes) (take long out ++ (ys ++ drop n (drop long out))) ≡ lay bytes (sheet long out)
put-laid out bytes long n ys e h c =
    let l : length (drop long out) ≡ length out - long = length-drop long out in
    let m : length bytes ≡ length (take n (drop long out)) = sym e ∙ sym (length-take-le n (drop long out) (omega (arith, e))) in
    rw (c ∙ copied-same bytes (take n (drop long out)) m, e) (sym (lay-room bytes long out h))

-- ---- a run, as `list` lists it
module _ (runs : List ℕ) (count first next : ℕ) where
  abbrev Listed : ℕ → List ℕ → Type 0
  Listed count' runs' = sheet (2 * count') runs' ≡ onto (map two_of (run first next)) (sheet (2 * count) runs)

  pub list_nothing : first ≡ next → Listed count runs
  list_nothing e = sym (ap (λ (rs : List Run). onto (map two_of rs) (sheet (2 * count) runs)) (ap (run first) (sym e) ∙ run_none first))

  module _ (ne : first ≡ next → ⊥) where
    abbrev two : List ℕ
    two = first ∷ (next - first) ∷ []

    -- the sheet with one run more
    more : (runs' : List ℕ) → lay two (sheet (2 * count) runs) ≡ sheet (2 * count + 2) runs' → Listed (count + 1) runs'
    more runs' e =
        let n : 2 * (count + 1) ≡ 2 * count + 2 = omega arith in
        ap (λ (n : ℕ). sheet n runs') n ∙ sym e ∙ sym (ap (λ (rs : List Run). onto (map two_of rs) (sheet (2 * count) runs))
        (run-some first next ne))

    pub list_counted : length runs < 2 * count + 2 → Listed (count + 1) runs
    list_counted h = more runs (lay-none two (2 * count) runs h)

    pub list-laid : 2 * count + 2 ≤ length runs → Listed (count + 1) (set (set runs (2 * count) first) (2 * count + 1) (next - first))
    list-laid h =
        more (set (set runs (2 * count) first) (2 * count + 1) (next - first))
        (lay-room two (2 * count) runs h
        ∙ ap (λ (l : List ℕ). sheet (2 * count + 2) l)
        (sym (ap (λ (k : ℕ). set (set runs (2 * count) first) k (next - first)) (add-one (2 * count)) ∙ laid_sets two runs (2 * count) h)))
