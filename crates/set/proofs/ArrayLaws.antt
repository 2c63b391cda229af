-- Laws of the arrays alone: flags all set, the length of the parts, and the parts joined. Assumes nothing.
use Prim.Native.Nat.{ℕ, zero, suc, ◌+◌, ◌-◌, ◌≤◌, ◌<◌}
use mathlib.Core.Path.{◌≡◌, refl, sym, ap, subst, ◌∙◌}
use mathlib.Core.Bool.{Bool, true, false, ◌&&◌}
use mathlib.Core.List.{List, ◌++◌, append_assoc}
use native.Mathlib.Omega.{arith}
use native.Mathlib.Numerals.{add-one}
use lib.ListN.{length, get_or, take, drop, length-append, length-drop}
use lib.Seq.{take_at, drop_at, drop-drop, length-take-le}
use Rattle.std.specs.List.{list_all}
use Rattle.std.proofs.lemmas.List.Folds.{list_all_more}
use Rattle.wire.specs.Checks.{both}
use Rattle.copy.specs.Copying.{copied}
use Rattle.header_rule.specs.Rules.{most_segments}
use Rattle.wire.proofs.CheckLaws.{by_eq}
use Rattle.copy.proofs.CopyLaws.{copied-same}
use Rattle.set.specs.declared.Part.{Part}
use Rattle.set.specs.declared.Gathered.{Gathered}
use Rattle.set.specs.Steps.{nowhere, start_of, end_of, Parts, Within, all_set, parts_long, parts, Joinable}

-- ---- the flags
both_is : (a b : Bool) → (a && b) ≡ both a b
both_is true b = refl
both_is false b = refl

pub set_all : (flags : List Bool) (n : ℕ) → n ≤ length flags → list_all (λ b. b) (take n flags) ≡ all_set flags n
unfolding all_set
set_all flags zero l = refl
set_all flags (suc n) l =
    let more = list_all_more (λ (b : Bool). b) flags n false (omega arith) in
    let before = set_all flags n (omega arith) in
    (rw add-one at more) ∙ rw before (both_is (all_set flags n) (get_or flags n false))

-- ---- the parts
module _ (m : Gathered) where
  pub long_more : (k : ℕ) → parts_long m (k + 1) ≡ parts_long m k + (end_of m k - start_of m k)
  unfolding parts_long
  long_more k = rw add-one

  pub long-least : (k n : ℕ) → k ≤ n → parts_long m k ≤ parts_long m n
  unfolding parts_long
  long-least k zero l = let z : k ≡ 0 = omega arith in rw z (omega arith)
  long-least k (suc n) l =
      by_eq k (suc n) (λ q. rw q (omega arith)) (λ ne. let below = long-least k n (omega (arith, ne)) in omega arith)

  -- the next part has room where all of them have
  pub long-next : (k n : ℕ) → k < n → parts_long m k + (end_of m k - start_of m k) ≤ parts_long m n
  long-next k n l = let below : parts_long m (k + 1) ≤ parts_long m n = long-least (k + 1) n (omega arith) in
      omega (arith, long_more k)

module _ (s : List ℕ) (m : Gathered) where
  pub parts_more : (k : ℕ) → parts s m (k + 1) ≡ parts s m k ++ take (end_of m k - start_of m k)
      (drop (start_of m k) s)
  unfolding parts
  parts_more k = rw add-one

  part-long : (k : ℕ) → start_of m k ≤ end_of m k → end_of m k ≤ length s
      → length (take (end_of m k - start_of m k) (drop (start_of m k) s)) ≡ end_of m k - start_of m k
  part-long k a b = length-take-le (end_of m k - start_of m k) (drop (start_of m k) s) (rw length-drop (omega arith))

  pub parts_long_lem : Parts m → Within s m → (n : ℕ) → n ≤ most_segments → length (parts s m n) ≡ parts_long m n
  unfolding parts parts_long
  parts_long_lem p w zero l = refl
  parts_long_lem p w (suc n) l =
      length-append (parts s m n) (take (end_of m n - start_of m n) (drop (start_of m n) s))
      ∙ rw (parts_long_lem p w n (omega arith), part-long n (p n (omega arith)).0 (w n (omega arith)))

-- ---- the parts joined in an output: it holds the first k of them and then what it held before
pub record Joining (s : List ℕ) (m : Gathered) (n : ℕ) (out₀ out : List ℕ) (place k : ℕ) : Type 0 where
  pub up_to : k ≤ n
  pub filled : place ≡ parts_long m k
  pub long : length out ≡ length out₀
  pub holds : out ≡ parts s m k ++ drop place out₀

-- the data of a part, as it stands in the buffer, and that there is room for it
abbrev pub data_of : List ℕ → Part → List ℕ
data_of s p = take (p.end - p.start) (drop p.start s)

pub record NextFits (s out : List ℕ) (place : ℕ) (p : Part) : Type 0 where
  pub order : p.start ≤ p.end
  pub within : p.end ≤ length s
  pub room : place + length (data_of s p) ≤ length out

module _ {s : List ℕ} {m : Gathered} {n : ℕ} {out₀ : List ℕ} (j : Joinable s m n out₀) {out : List ℕ} {place k : ℕ}
    (g : Joining s m n out₀ out place k) where
  filled-long : length (parts s m k) ≡ place
  filled-long = parts_long_lem s m j.lie j.within k (omega arith) ∙ sym g.filled

  -- one part more
  module _ (low : k < n) where
    abbrev part : List ℕ
    part = data_of s (get_or m.parts k nowhere)

    is_long : length part ≡ end_of m k - start_of m k
    is_long = part-long s m k (j.lie k (omega arith)).0 (j.within k (omega arith))

    fits : NextFits s out place (get_or m.parts k nowhere)
    fits = record {
      order = (j.lie k (omega arith)).0;
      within = j.within k (omega arith);
      room = omega (arith, is_long, long-next m k n low);
    }

    back : place + length part - place ≡ length part
    back = omega arith

    -- what is copied is the part
    copied-part : (ys : List ℕ) → ys ≡ copied part (take (place + length part - place) (drop place out)) → ys ≡ part
    copied-part ys e =
        let d = length-drop place out in
        let room : length (take (place + length part - place) (drop place out)) ≡ length part =
        length-take-le (place + length part - place) (drop place out) (omega (arith, fits)) ∙ back in
        e ∙ copied-same part (take (place + length part - place) (drop place out)) (sym room)

    joined-more : (ys : List ℕ) → ys ≡ copied part (take (place + length part - place) (drop place out))
        → Joining s m n out₀ (take place out ++ (ys ++ drop (place + length part - place) (drop place out))) (place + length part) (k + 1)
    joined-more ys e =
        let f = fits in
        let a : take place out ≡ parts s m k = ap (λ (x : List ℕ). take place x) g.holds
        ∙ take_at (parts s m k) (drop place out₀) place filled-long in
        let b : drop place out ≡ drop place out₀ = ap (λ (x : List ℕ). drop place x) g.holds
        ∙ drop_at (parts s m k) (drop place out₀) place filled-long in
        let written : take place out ++ (ys ++ drop (place + length part - place) (drop place out))
        ≡ parts s m (k + 1) ++ drop (place + length part) out₀ =
        rw (a, b, copied-part ys e, back, parts_more s m k, append_assoc, drop-drop) in
        let l = parts_long_lem s m j.lie j.within (k + 1) (omega arith) in
        let d = length-drop (place + length part) out₀ in
        record {
          up_to = omega arith;
          filled = omega (arith, is_long, long_more m k);
          long = ap length written ∙ length-append (parts s m (k + 1)) (drop (place + length part) out₀)
              ∙ omega (arith, is_long, long_more m k);
          holds = written;
        }

    -- the same of the part that the loop takes
    module _ {p : Part} (is : p ≡ get_or m.parts k nowhere) where
      pub next_fits : NextFits s out place p
      next_fits = subst (λ (q : Part). NextFits s out place q) (sym is) fits

      abbrev longer : Part → ℕ
      longer q = place + length (data_of s q)

      pub join_more : {ys : List ℕ} → ys ≡ copied (data_of s p) (take (longer p - place) (drop place out))
          → Joining s m n out₀ (take place out ++ (ys ++ drop (longer p - place) (drop place out))) (longer p) (k + 1)
      join_more {ys} = subst (λ (q : Part). ys ≡ copied (data_of s q) (take (longer q - place) (drop place out))
          → Joining s m n out₀ (take place out ++ (ys ++ drop (longer q - place) (drop place out))) (longer q) (k + 1)) (sym is) (joined-more ys)
