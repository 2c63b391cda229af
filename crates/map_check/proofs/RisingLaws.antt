-- Zones: what their checks decide, by the least end that a zone after them may have. Assumes nothing.
use Prim.Native.Nat.{ℕ, zero, suc, ◌+◌, ◌*◌, ◌-◌, ◌/◌, ◌%◌, ◌≤◌, ◌<◌}
use native.Mathlib.Nat.{add-zero}
use native.Mathlib.Numerals.{add-one}
use native.Mathlib.Omega.{arith}
use mathlib.Core.Path.{◌≡◌, refl, sym, ap, ◌∙◌}
use mathlib.Core.Bool.{Bool, true, false, not}
use mathlib.Core.List.{List, ◌++◌}
use Rattle.std.specs.Prelude.{Option, Some, None}
use Rattle.std.specs.Option.{option_eq}
use lib.Dec.{ltb, eqb}
use lib.ListN.{length, take, drop, length-drop}
use lib.Seq.{drop-drop, length-take-le}
use borrow.Author.Tests.{lt-ltb, le-ltb, eq-eqb, ne_eqb, eqb-true, eqb-false, ltb-true, ltb-false}
use Rattle.wire.specs.Numbers.{num, fetched, Octets}
use Rattle.wire.specs.Answers.{Answer, refused, given}
use Rattle.wire.specs.Checks.{pick, either, Check, decide}
use Rattle.wire.proofs.CheckLaws.{either_true}
use Rattle.wire.proofs.ListLaws.{drop-take}
use Rattle.wire.proofs.NumberLaws.{num-drop, num-take, fetched-whole, fetched_short, octets_drop}
use Rattle.map_spec.specs.Map.{most_code, last_kilometre, kilometres, halfword_numbers, field_size, zone_size}
use Rattle.map_spec.specs.Places.{zone_at}
use Rattle.map_spec.proofs.ZoneWalk.{four-fetched, code_half, end_half}
use Rattle.map_spec.specs.Reading.{value, after, end_broken, zone_checks, zones_checks}
use Rattle.map_check.specs.Steps.{zone_broken, next_end, zones_step, CutOff}
use Rattle.map_spec.proofs.PartLaws.{fetched-value}

-- ---- a field and the one after it
value-after : (b : List ℕ) → value (after b) ≡ num field_size b field_size
value-after b = num-drop field_size b field_size 0

after_after : (b : List ℕ) → after (after b) ≡ drop zone_size b
after_after b = drop-drop 2 2 b

-- the last end
last_end : (from end : ℕ) → end_broken 0 from end ≡ either (ltb end from) (not (eqb (suc end) (kilometres)))
last_end from end = go (eqb end last_kilometre) refl
  where
    go : (t : Bool) → eqb end last_kilometre ≡ t → end_broken 0 from end ≡ either (ltb end from) (not (eqb (suc end) (kilometres)))
    go true q =
        let e : end ≡ last_kilometre = eqb-true end last_kilometre q in
        simp (q, le-ltb last_kilometre end (omega (arith, e)), eq-eqb (suc end) (kilometres) (ap suc e))
    go false q =
        let n : suc end ≡ kilometres → ⊥ = λ k. eqb-false end last_kilometre q (omega (arith, k)) in
        simp (q, ne_eqb (suc end) (kilometres) n, either_true)

-- an end that is not the last
inner_end : (left from end : ℕ) → end_broken (suc left) from end ≡ either (ltb last_kilometre end) (either (ltb end from) false)
inner_end left from end = simp (ne_eqb (suc left) 0 (λ e. omega (arith, e)))

-- ---- one zone that is all there, and those behind it
zone_decides : (left from : ℕ) (b : List ℕ) (rest : List Check) (end : Answer ℕ) → zone_size ≤ length b
    → decide (zone_checks left from b ++ rest) refused end
    ≡ pick (ltb most_code (value b)) (refused 24) (pick (end_broken left from (value (after b))) (refused 24) (decide rest refused end))
zone_decides left from b rest end h =
    let l : field_size ≤ length (after b) = rw length-drop (omega arith) in
    simp (le-ltb (length b) field_size (omega arith), le-ltb (length (after b)) field_size l)

zones_behind : (left from : ℕ) (b : List ℕ)
    → zones_checks (suc left) from b ≡ zone_checks left from b ++ zones_checks left (suc (value (after b))) (after (after b))
unfolding zones_checks
zones_behind left from b = refl

none_left : (from : ℕ) (b : List ℕ) (end : Answer ℕ) → decide (zones_checks 0 from b) refused end ≡ end
unfolding zones_checks
none_left from b end = refl

rest_long : (b : List ℕ) (n : ℕ) → zone_size + n ≤ length b → n ≤ length (after (after b))
rest_long b n h = rw (after_after b, length-drop) (omega arith)

rest_short : (b : List ℕ) (n : ℕ) → length b < n + zone_size → 0 < n → length (after (after b)) < n
rest_short b n h some = rw (after_after b, length-drop) (omega arith)

drop-rest : (n : ℕ) (b : List ℕ) → drop (zone_size * n) (after (after b)) ≡ drop (zone_size * suc n) b
drop-rest n b =
    let e : zone_size + zone_size * n ≡ zone_size * suc n = omega arith in
    ap (λ (l : List ℕ). drop (zone_size * n) l) (after_after b) ∙ drop-drop (zone_size * n) zone_size b ∙ ap (λ (k : ℕ). drop k b) e

-- ---- two tests, and those behind them: t is asked of the end that they come to. It is met where there is none, and by each that is above
-- 512, after which no zone can be in range
module _ (t : Option ℕ → Bool) (none : t None ≡ true) (high : (k : ℕ) → kilometres < k → t (Some k) ≡ true) where
  next_high : (n from : ℕ) (b : List ℕ) → kilometres < from → t (next_end n from b) ≡ true
  next_high zero from b h = high from h
  next_high (suc n) from b h =
      go (ltb most_code (value b)) (ltb (value (after b)) from) refl (λ k. next_high n (suc (value (after b))) (after (after b)) k)
    where
      go : (c l : Bool) → ltb (value (after b)) from ≡ l
          → (kilometres < suc (value (after b)) → t (next_end n (suc (value (after b))) (after (after b))) ≡ true)
          → t (pick c None (pick l None (next_end n (suc (value (after b))) (after (after b))))) ≡ true
      go true l q later = none
      go false true q later = none
      go false false q later =
          let low : from ≤ value (after b) = ltb-false (value (after b)) from q in
          later (omega (arith, low))

  module _ {X : Type 0} (x y : X) where
    last_two : (c l : Bool) (r : Option ℕ) → pick c x (pick (either l (t r)) x y) ≡ pick (t (pick c None (pick l None r))) x y
    last_two true l r = simp none
    last_two false true r = simp none
    last_two false false r = refl

    two_more : (c h l : Bool) (r : Option ℕ) (d : X) → (h ≡ false → d ≡ pick (t r) x y) → (h ≡ true → t r ≡ true)
        → pick c x (pick (either h (either l false)) x d) ≡ pick (t (pick c None (pick l None r))) x y
    two_more true h l r d e i = simp none
    two_more false true true r d e i = simp none
    two_more false false true r d e i = simp none
    two_more false false false r d e i = e refl
    two_more false true false r d e i = simp (i refl)

  -- one zone of several: the zones after it decide
  zone-first : (left n from : ℕ) (b : List ℕ) (end z : Answer ℕ) → zone_size ≤ length b
      → (value (after b) ≤ last_kilometre
      → decide (zones_checks (suc left) (suc (value (after b))) (after (after b))) refused end
      ≡ pick (t (next_end n (suc (value (after b))) (after (after b)))) (refused 24) z)
      → decide (zones_checks (suc (suc left)) from b) refused end ≡ pick (t (next_end (suc n) from b)) (refused 24) z
  zone-first left n from b end z h behind =
      let c = ltb most_code (value b) in
      let v = value (after b) in
      let rest = zones_checks (suc left) (suc v) (after (after b)) in
      let r = next_end n (suc v) (after (after b)) in
      ap (λ (ks : List Check). decide ks refused end) (zones_behind (suc left) from b)
      ∙ zone_decides (suc left) from b rest end h
      ∙ ap (λ (u : Bool). pick c (refused 24) (pick u (refused 24) (decide rest refused end))) (inner_end left from v)
      ∙ two_more (refused 24) z c (ltb last_kilometre v) (ltb v from) r (decide rest refused end)
      (λ q. behind (ltb-false last_kilometre v q))
      (λ q. next_high n (suc v) (after (after b)) (omega (arith, ltb-true last_kilometre v q)))

-- ---- all zones from a place on, where they are all there
-- the last end is not 511
abbrev pub not_last : Option ℕ → Bool
not_last end = not (option_eq eqb end (Some kilometres))

rising_decides : (left from : ℕ) (b : List ℕ) (end : Answer ℕ) → zone_size * suc left ≤ length b
    → decide (zones_checks (suc left) from b) refused end ≡ pick (not_last (next_end (suc left) from b)) (refused 24) end
rising_decides zero from b end h =
    let c = ltb most_code (value b) in
    let v = value (after b) in
    ap (λ (ks : List Check). decide ks refused end) (zones_behind 0 from b)
    ∙ zone_decides 0 from b (zones_checks 0 (suc v) (after (after b))) end (omega arith)
    ∙ ap (λ (s : Answer ℕ). pick c (refused 24) (pick (end_broken 0 from v) (refused 24) s)) (none_left (suc v) (after (after b)) end)
    ∙ ap (λ (u : Bool). pick c (refused 24) (pick u (refused 24) end)) (last_end from v)
    ∙ last_two not_last refl (λ k q. ap not (ne_eqb k kilometres (λ e. omega (arith, e)))) (refused 24) end c (ltb v from) (Some (suc v))
rising_decides (suc left) from b end h =
    zone-first not_last refl (λ k q. ap not (ne_eqb k kilometres (λ e. omega (arith, e)))) left (suc left) from b end end (omega arith)
    (λ q. rising_decides left (suc (value (after b))) (after (after b)) end (rest_long b (zone_size * suc left) (omega arith)))

-- ---- and where the last of them are not
-- an end is above 511
abbrev too_high : Option ℕ → Bool
too_high None = true
too_high (Some end) = ltb kilometres end

-- by the code of the zone that is cut off, or by 0 where it is cut off too
abbrev cut_by : ℕ → Answer ℕ
cut_by code = pick (ltb most_code code) (refused 24) (refused 23)

cut-zone : (left from : ℕ) (b : List ℕ) (end : Answer ℕ) → length b < zone_size
    → decide (zones_checks (suc left) from b) refused end ≡ cut_by (fetched field_size b 0)
unfolding zones_checks
cut-zone left from b end h = go (ltb (length b) field_size) refl
  where
    go : (t : Bool) → ltb (length b) field_size ≡ t → decide (zones_checks (suc left) from b) refused end ≡ cut_by (fetched field_size b 0)
    go true q = simp (q, fetched_short field_size b 0 (omega (arith, ltb-true (length b) field_size q)))
    go false q =
        let l : length (after b) < field_size = rw length-drop (omega arith) in
        simp (q, lt-ltb (length (after b)) field_size l, fetched-value b 0 (omega (arith, ltb-false (length b) field_size q)))

cut_decides : (n left from : ℕ) (b : List ℕ) (end : Answer ℕ) → n < left → from ≤ kilometres → zone_size * n ≤ length b
    → length b < zone_size * n + zone_size
    → decide (zones_checks left from b) refused end
    ≡ pick (too_high (next_end n from b)) (refused 24) (cut_by (fetched field_size (drop (zone_size * n) b) 0))
cut_decides n zero from b end m f h k = absurd (omega arith)
cut_decides zero (suc left) from b end m f h k =
    cut-zone left from b end (omega arith)
    ∙ sym (ap (λ (u : Bool). pick u (refused 24) (cut_by (fetched field_size b 0))) (le-ltb kilometres from f))
cut_decides (suc n) (suc zero) from b end m f h k = absurd (omega arith)
cut_decides (suc n) (suc (suc left)) from b end m f h k =
    let v = value (after b) in
    let rest = after (after b) in
    let e : drop (zone_size * n) rest ≡ drop (zone_size * suc n) b = drop-rest n b in
    let z = cut_by (fetched field_size (drop (zone_size * suc n) b) 0) in
    zone-first too_high refl (λ j q. lt-ltb kilometres j q) left n from b end z (omega arith)
    (λ q. cut_decides n (suc left) (suc v) rest end (omega arith) (omega (arith, q)) (rest_long b (zone_size * n) (omega arith)) (rest_short b (zone_size * n + zone_size) (omega arith) (omega arith))
    ∙ ap (λ (l : List ℕ). pick (too_high (next_end n (suc v) rest)) (refused 24) (cut_by (fetched field_size l 0))) e)

-- ---- from zone to zone, each in one number that was fetched before it is looked at
pub one_test : {X : Type 0} (c e : Bool) (x y : X) → pick c x (pick e x y) ≡ pick (either c e) x y
one_test true e x y = refl
one_test false e x y = refl

-- what one zone and those behind it come to
abbrev pub with_zone : ℕ → ℕ → List ℕ → Option ℕ
with_zone zone from rest =
    pick (zone_broken from zone) None (next_end (length rest / zone_size) (suc (zone % halfword_numbers)) rest)

-- the next one of these
next_turn : (rest : List ℕ) → Octets rest → zone_size ≤ length rest → (zone : ℕ) → zone ≡ num zone_size rest 0 → (from : ℕ)
    → next_end (length rest / zone_size) from rest ≡ with_zone zone from (drop zone_size rest)
unfolding zone_at
next_turn rest octets there zone here from =
    let n : length rest / zone_size ≡ suc (length (drop zone_size rest) / zone_size) = rw length-drop (omega arith) in
    let c : value rest ≡ zone / halfword_numbers = sym (code_half rest octets 0 zone here) in
    let e : value (after rest) ≡ zone % halfword_numbers = value-after rest ∙ sym (end_half rest octets 0 zone here) in
    ap (λ (k : ℕ). next_end k from rest) n
    ∙ one_test (ltb most_code (value rest)) (ltb (value (after rest)) from) None _
    ∙ (λ i. pick (either (ltb most_code (c i)) (ltb (e i) from)) None
    (next_end (length (drop zone_size rest) / zone_size) (suc (e i)) (after_after rest i)))

-- the zone that was fetched and those from a place on answer as all zones
pub record Rising (b : List ℕ) (zone from at : ℕ) : Type 0 where
  pub inside : at ≤ length b
  pub same : with_zone zone from (drop at b) ≡ next_end (length b / zone_size) 0 b

module _ (b : List ℕ) (octets : Octets b) where
  pub rising_start : (zone : ℕ) → zone ≡ fetched zone_size b 0 → zone_size ≤ length b → Rising b zone 0 zone_size
  rising_start zone e h =
      record { inside = h; same = sym (next_turn b octets h zone (e ∙ fetched-whole zone_size b 0 (omega arith)) 0) }

  module _ (zone from at : ℕ) (r : Rising b zone from at) where
    pub rising-broken : zone_broken from zone ≡ true → None ≡ next_end (length b / zone_size) 0 b
    rising-broken t =
        sym (ap (λ (u : Bool). pick u None (next_end (length (drop at b) / zone_size) (suc (zone % halfword_numbers)) (drop at b))) t) ∙ r.same

    module _ (end : ℕ) (ends : end ≡ zone % halfword_numbers) (t : zone_broken from zone ≡ false) where
      turned : next_end (length (drop at b) / zone_size) (end + 1) (drop at b) ≡ next_end (length b / zone_size) 0 b
      turned =
          ap (λ (k : ℕ). next_end (length (drop at b) / zone_size) k (drop at b)) (add-one end ∙ ap suc ends)
          ∙ sym (ap (λ (u : Bool). pick u None (next_end (length (drop at b) / zone_size) (suc (zone % halfword_numbers)) (drop at b))) t)
          ∙ r.same

      pub rising-on : (next : ℕ) → next ≡ fetched zone_size (take (at + zone_size - at) (drop at b)) 0 → at + zone_size ≤ length b
          → Rising b next (end + 1) (at + zone_size)
      rising-on next e h =
          let l : zone_size ≤ length (drop at b) = rw length-drop (omega arith) in
          let n : next ≡ num zone_size (drop at b) 0 = four-fetched b at next h e ∙ ap (λ (k : ℕ). num zone_size b k) (sym (add-zero at))
          ∙ sym (num-drop zone_size b at 0) in
          record {
            inside = h;
            same =
                ap (λ (x : List ℕ). with_zone next (end + 1) x) (sym (drop-drop zone_size at b))
                ∙ sym (next_turn (drop at b) (octets_drop at b octets) l next n (end + 1))
                ∙ turned;
          }

      pub rising-done : length b < at + zone_size → Some (end + 1) ≡ next_end (length b / zone_size) 0 b
      rising-done h =
          let n : length (drop at b) / zone_size ≡ 0 = rw length-drop (omega arith) in
          sym (ap (λ (k : ℕ). next_end k (end + 1) (drop at b)) n) ∙ turned

-- ---- the zones of an azimuth that are all there
-- bytes behind the zones are not looked at
next-take : (n from m : ℕ) (b : List ℕ) → zone_size * n ≤ m → next_end n from (take m b) ≡ next_end n from b
next-take zero from m b h = refl
next-take (suc n) from m b h =
    let c : value (take m b) ≡ value b = num-take field_size m b 0 (omega arith) in
    let e : value (after (take m b)) ≡ value (after b) =
    value-after (take m b) ∙ num-take field_size m b field_size (omega arith) ∙ sym (value-after b) in
    let l : after (after (take m b)) ≡ take (m - zone_size) (after (after b)) =
    after_after (take m b) ∙ drop-take zone_size m b ∙ ap (λ (k : List ℕ). take (m - zone_size) k) (sym (after_after b)) in
    let r = next-take n (suc (value (after b))) (m - zone_size) (after (after b)) (omega arith) in
    simp (c, e, l, r)

module _ (b : List ℕ) (count : ℕ) (some : 1 ≤ count) (there : zone_size * count ≤ length b) where
  whole-zones : zones_step count b ≡ pick (not_last (next_end count 0 b)) (refused 24) (given (zone_size * count))
  whole-zones = go count some there
    where
      go : (n : ℕ) → 1 ≤ n → zone_size * n ≤ length b
          → decide (zones_checks n 0 b) refused (given (zone_size * count)) ≡ pick (not_last (next_end n 0 b)) (refused 24) (given (zone_size * count))
      go zero s t = absurd (omega arith)
      go (suc l) s t = rising_decides l 0 b (given (zone_size * count)) (omega arith)

  -- by those zones alone
  module _ (m : ℕ) (size : m ≡ zone_size * count) (end : Option ℕ) (told : end ≡ next_end (length (take m b) / zone_size) 0 (take m b)) where
    end-told : end ≡ next_end count 0 b
    end-told =
        let l : length (take m b) ≡ zone_size * count = length-take-le m b (omega (arith, size)) ∙ size in
        let n : length (take m b) / zone_size ≡ count = omega (arith, l) in
        told ∙ ap (λ (k : ℕ). next_end k 0 (take m b)) n ∙ next-take count 0 m b (omega (arith, size))

    decided : zones_step count b ≡ pick (not_last end) (refused 24) (given (zone_size * count))
    decided = whole-zones ∙ ap (λ (o : Option ℕ). pick {X = Answer ℕ} (not_last o) (refused 24) (given (zone_size * count))) (sym end-told)

    pub whole-stop : not_last end ≡ true → refused 24 ≡ zones_step count b
    whole-stop t = sym (decided ∙ simp t)

    pub whole-next : not_last end ≡ false → given (zone_size * count) ≡ zones_step count b
    whole-next t = sym (decided ∙ simp t)

-- ---- and those that are cut off
module _ (b : List ℕ) (end : Option ℕ) (told : end ≡ next_end (length b / zone_size) 0 b) where
  cut : (count : ℕ) → length b < zone_size * count → zones_step count b
      ≡ pick (too_high end) (refused 24) (cut_by (fetched field_size (drop (length b / zone_size * zone_size) b) 0))
  cut count short =
      let e : zone_size * (length b / zone_size) ≡ length b / zone_size * zone_size = omega arith in
      cut_decides (length b / zone_size) count 0 b (given (zone_size * count)) (omega arith) (omega arith) (omega arith) (omega arith)
      ∙ (λ i. pick (too_high (sym told i)) (refused 24) (cut_by (fetched field_size (drop (e i) b) 0)))

  pub cut-none : end ≡ None → CutOff b 24
  cut-none e count short = sym (cut count short ∙ simp e)

  module _ (k : ℕ) (is : end ≡ Some k) where
    pub cut-high : kilometres < k → CutOff b 24
    cut-high h count short = sym (cut count short ∙ simp (is, lt-ltb kilometres k h))

    module _ (low : k ≤ kilometres) (code : ℕ) (coded : code ≡ fetched field_size (drop (length b / zone_size * zone_size) b) 0) where
      by_code : (count : ℕ) → length b < zone_size * count → zones_step count b ≡ cut_by code
      by_code count short = cut count short ∙ simp (is, le-ltb kilometres k low, ← coded)

      pub cut-code : most_code < code → CutOff b 24
      cut-code h count short = sym (by_code count short ∙ simp (lt-ltb most_code code h))

      pub cut_short : code ≤ most_code → CutOff b 23
      cut_short h count short = sym (by_code count short ∙ simp (le-ltb most_code code h))
