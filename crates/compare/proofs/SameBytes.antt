-- Two parts that begin with bytes that are the same: four bytes more, the azimuth that lies in them, and what is left after it. Assumes
-- nothing.
use Prim.Native.Nat.{ℕ, zero, suc, ◌+◌, ◌*◌, ◌-◌, ◌≤◌, ◌<◌}
use native.Mathlib.Omega.{arith}
use mathlib.Core.Path.{◌≡◌, refl, sym, ap, ◌∙◌}
use mathlib.Core.Bool.{Bool, true, false}
use mathlib.Core.List.{List, ◌∷◌}
use lib.Dec.{ltb}
use lib.ListN.{length, get_or, take, drop}
use lib.Seq.{get_or-take, get_or-drop}
use borrow.Author.Tests.{ltb-true, ltb-false}
use Rattle.wire.specs.Numbers.{num, be, Octets}
use Rattle.wire.proofs.NumberLaws.{num-same, be-num}
use Rattle.map_spec.specs.Map.{field_size, zone_size}
use Rattle.map_spec.specs.Reading.{value, after, zones_in, azimuth_part}
use Rattle.compare.specs.Steps.{Same}

-- ---- four bytes more, by their number
module _ (old new : List ℕ) (octetsOld : Octets old) (octetsNew : Octets new) (at : ℕ) (in_old : at + zone_size ≤ length old)
    (in_new : at + zone_size ≤ length new)
    (e : num zone_size old at ≡ num zone_size new at)
  where
    four_same : take 4 (drop at old) ≡ take 4 (drop at new)
    four_same = sym (be-num 4 old at octetsOld in_old) ∙ ap (λ (n : ℕ). be 4 n) e ∙ be-num 4 new at octetsNew in_new

    byte-in : (b : List ℕ) (k : ℕ) → at ≤ k → k < at + 4 → get_or (take 4 (drop at b)) (k - at) 0 ≡ get_or b k 0
    byte-in b k h l =
        let f : at + (k - at) ≡ k = omega arith in
        get_or-take 4 (drop at b) (k - at) 0 (omega arith) ∙ get_or-drop at b (k - at) 0 ∙ ap (λ (n : ℕ). get_or b n 0) f

    pub same_more : Same at old new → Same (at + zone_size) old new
    same_more s k h = go (ltb k at) refl
      where
        go : (t : Bool) → ltb k at ≡ t → get_or old k 0 ≡ get_or new k 0
        go true q = s k (ltb-true k at q)
        go false q =
            let l = ltb-false k at q in
            sym (byte-in old k l h) ∙ ap (λ (b : List ℕ). get_or b (k - at) 0) four_same ∙ byte-in new k l h

-- ---- after so many bytes
same_after : (p n : ℕ) (old new : List ℕ) → Same (p + n) old new → Same n (drop p old) (drop p new)
same_after p n old new s k h = get_or-drop p old k 0 ∙ s (p + k) (omega arith) ∙ sym (get_or-drop p new k 0)

same_fewer : (m n : ℕ) (old new : List ℕ) → m ≤ n → Same n old new → Same m old new
same_fewer m n old new l s k h = s k (omega arith)

-- ---- what stands in them
value_same : (old new : List ℕ) → Same 2 old new → value old ≡ value new
value_same old new s = num-same 2 old new 0 0 (λ i h. s (0 + i) (omega arith))

zones-same : (n : ℕ) (old new : List ℕ) → Same (4 * n) old new → zones_in n old ≡ zones_in n new
unfolding zones_in
zones-same zero old new s = refl
zones-same (suc n) old new s =
    let codes : value old ≡ value new = value_same old new (same_fewer 2 (4 * suc n) old new (omega arith) s) in
    let rest : Same (2 + 4 * n) (after old) (after new) = same_after 2 (2 + 4 * n) old new
    (same_fewer (2 + (2 + 4 * n)) (4 * suc n) old new (omega arith) s) in
    let ends : value (after old) ≡ value (after new) = value_same (after old) (after new) (same_fewer 2 (2 + 4 * n) (after old)
    (after new) (omega arith) rest) in
    let zones = zones-same n (after (after old)) (after (after new)) (same_after 2 (4 * n) (after old) (after new) rest) in
    λ i. record { code = codes i; end = ends i } ∷ zones i

-- ---- the azimuth that they begin with
module _ (old new : List ℕ) (same : ℕ) (s : Same same old new) (inside : azimuth_part.size old ≤ same) where
  counts_same : value old ≡ value new
  counts_same = value_same old new (same_fewer field_size same old new (omega arith) s)

  pub azimuth_same : azimuth_part.read old ≡ azimuth_part.read new
  azimuth_same =
      zones-same (value old) (after old) (after new)
      (same_after field_size (zone_size * value old) old new (same_fewer (azimuth_part.size old) same old new inside s))
      ∙ ap (λ (n : ℕ). zones_in n (after new)) counts_same

  pub size_same : azimuth_part.size old ≡ azimuth_part.size new
  size_same = ap (λ (n : ℕ). field_size + zone_size * n) counts_same

  pub same-beyond : Same (same - azimuth_part.size old) (drop (azimuth_part.size old) old) (drop (azimuth_part.size old) new)
  same-beyond =
      same_after (azimuth_part.size old) (same - azimuth_part.size old) old new
      (same_fewer (azimuth_part.size old + (same - azimuth_part.size old)) same old new (omega arith) s)
