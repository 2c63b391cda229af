-- Halfwords one after the other: read into an array, and written as bytes. Assumes nothing.
use Prim.Native.Nat.{ℕ, suc, ◌+◌, ◌*◌, ◌-◌, ◌≤◌, ◌<◌}
use native.Mathlib.Omega.{arith}
use native.Mathlib.Numerals.{add-one}
use mathlib.Core.Path.{◌≡◌, sym, ap, ◌∙◌}
use mathlib.Core.List.{List, [], ◌∷◌, ◌++◌, map, map-append}
use lib.ListN.{length, get_or, take, set, replicate}
use lib.Seq.{take-suc, set_at, append_snoc, length-take-le}
use Rattle.wire.specs.Numbers.{num, nums, fetched, be, stored}
use Rattle.wire.specs.Sheets.{laid}
use Rattle.wire.specs.Tables.{field, render, run}
use Rattle.wire.specs.Writing.{filled}
use Rattle.wire.proofs.NumberLaws.{number_is, nums-length, nums_snoc, stored-whole}
use Rattle.wire.proofs.SheetLaws.{laid_more}
use Rattle.wire.proofs.TableLaws.{render-length, total-run, render-append}

-- one number more in an array of `room` places
pub read_more : (b held : List ℕ) (room i x : ℕ) → i < room → 2 + 2 * i + 2 ≤ length b → held ≡ nums 2 b 2 i ++ replicate (room - i) 0
    → x ≡ fetched 2 b (2 + 2 * i) → set held i x ≡ nums 2 b 2 (i + 1) ++ replicate (room - (i + 1)) 0
read_more b held room i x h there e read =
    let r : List ℕ = replicate (room - (i + 1)) 0 in
    let m : room - i ≡ suc (room - (i + 1)) = omega arith in
    let v : x ≡ num 2 b (2 + 2 * i) = sym (number_is 2 b (2 + 2 * i) x read there) in
    ap (λ (l : List ℕ). set l i x) (e ∙ ap (λ (k : ℕ). nums 2 b 2 i ++ replicate k 0) m)
    ∙ set_at (nums 2 b 2 i) 0 r x i (nums-length 2 b 2 i)
    ∙ sym (append_snoc (nums 2 b 2 i) x r)
    ∙ ap (λ (y : ℕ). (nums 2 b 2 i ++ (y ∷ [])) ++ r) v
    ∙ ap (λ (l : List ℕ). l ++ r) (sym (nums_snoc 2 b 2 i) ∙ ap (λ (k : ℕ). nums 2 b 2 k) (sym (add-one i)))

-- ---- numbers as halfwords
pub run_long : (l : List ℕ) → length (run 2 l) ≡ 2 * length l
run_long l = omega (arith, render-length (map (field 2) l), total-run 2 l)

run-append : (l m : List ℕ) → run 2 (l ++ m) ≡ run 2 l ++ run 2 m
run-append l m = ap render (map-append (field 2) l m) ∙ render-append (map (field 2) l) (map (field 2) m)

-- one number more in the output
pub written_more : (list before out : List ℕ) (i : ℕ) → i < length list → 2 * length list ≤ length before
    → out ≡ filled (run 2 (take i list)) before → length out ≡ length before
    → stored 2 out (2 * i) (get_or list i 0) ≡ filled (run 2 (take (i + 1) list)) before
written_more list before out i h room e long =
    let v = get_or list i 0 in
    let done = run 2 (take i list) in
    let l : length done ≡ 2 * i = run_long (take i list) ∙ ap (λ (k : ℕ). 2 * k) (length-take-le i list (omega arith)) in
    let s : done ++ be 2 v ≡ run 2 (take (i + 1) list)
    = sym (run-append (take i list) (v ∷ []))
    ∙ ap (run 2) (sym (take-suc list i 0 h) ∙ ap (λ (k : ℕ). take k list) (sym (add-one i))) in
    stored-whole 2 out (2 * i) v (omega arith)
    ∙ ap (λ (o : List ℕ). laid o (2 * i) (be 2 v)) e
    ∙ ap (λ (k : ℕ). laid (filled done before) k (be 2 v)) (sym l)
    ∙ laid_more before done (be 2 v)
    ∙ ap (λ (x : List ℕ). filled x before) s
