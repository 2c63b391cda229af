-- The whole body from its parts: the three fields, the azimuths, the leftovers. Assumes nothing.
use Prim.Native.Nat.{ℕ, ◌+◌, ◌*◌, ◌-◌, ◌≤◌, ◌<◌}
use native.Mathlib.Omega.{arith}
use mathlib.Core.Path.{◌≡◌, refl, sym, ap, ◌∙◌, subst}
use mathlib.Core.Bool.{Bool, true, false, true≢false}
use mathlib.Core.List.{List, ◌++◌}
use mathlib.Core.Logic.{◌⊎◌, inl, inr}
use mathlib.Core.Option.{none}
use Rattle.std.specs.Prelude.{min, Option, None, Some}
use Rattle.std.specs.Option.{is_some, unwrap_or}
use lib.Dec.{ltb, leb, eqb}
use lib.ListN.{length, take, drop, length-drop}
use borrow.Author.Tests.{lt-ltb, le-ltb, ltb-true, ltb-false, leb-true, leb-false, eqb-true, eqb-false, eq-eqb, ne_eqb}
use Rattle.form_spec.specs.Parts.{run_size, run_checks}
use Rattle.wire.specs.Numbers.{fetched}
use Rattle.wire.specs.Checks.{pick, either, Check, decide, first, AllHold}
use Rattle.wire.specs.Answers.{Answer, refused, given, rule}
use Rattle.wire.proofs.AnswerLaws.{rule_given}
use Rattle.wire.proofs.CheckLaws.{neither, decide-none, all_hold}
use Rattle.wire.proofs.ListLaws.{part_is}
use Rattle.form_spec.proofs.PartLaws.{run-count, run-add, run_long}
use Rattle.map_spec.specs.Map.{most_minutes, azimuths, most_elevations, last_kilometre, field_size, head_size, code_at}
use Rattle.map_spec.specs.Reading.{value, azimuth_part, elevation_part, date_in, minutes_in, segments_in, field_checks, head_checks, leftover_checks, map_checks, map_in, Summary, summary, summary_of, asked_checks, code_of}
use Rattle.map_spec.specs.Places.{index_of, place_of, AzimuthStands}
use Rattle.map_spec.proofs.Accepted.{azimuth_long}
use Rattle.map_spec.proofs.CheckFacts.{map_facts}
use Rattle.map_spec.proofs.PartLaws.{fetched-value, cut_off, in_full}
use Rattle.map_spec.proofs.Places.{size_flat, checks_flat, azimuths_stand}
use Rattle.map_check.proofs.RisingLaws.{one_test}
use Rattle.map.specs.declared.Checked.{Checked}
use Rattle.map.specs.declared.Found.{Found}
use Rattle.map.specs.Steps.{head_count, azimuths_found, body_checked, asked_index}
use Rattle.map.proofs.StepLaws.{still_refused, refused_before, passed_before}

-- ---- the three fields, by fetches
field-fetched : (b : List ℕ) (p : ℕ) (x : Answer ℕ) (f : ℕ → Answer ℕ)
    → pick (ltb (length (drop p b)) field_size) x (f (value (drop p b)))
    ≡ pick (ltb (length b) (p + field_size)) x (f (fetched field_size b p))
field-fetched b p x f = go (ltb (length b) (p + field_size)) refl
  where
    go : (t : Bool) → ltb (length b) (p + field_size) ≡ t
        → pick (ltb (length (drop p b)) field_size) x (f (value (drop p b))) ≡ pick t x (f (fetched field_size b p))
    go true q = simp (cut_off b p (ltb-true (length b) (p + field_size) q))
    go false q =
        let h = ltb-false (length b) (p + field_size) q in
        simp (in_full b p h) (ap f (sym (fetched-value b p h)))

module _ (b : List ℕ) where
  abbrev pub segmentsFetched : Answer ℕ
  segmentsFetched =
      let n = fetched field_size b 4 in
      pick (ltb (length b) head_size) (refused 23) (pick (ltb n 1) (refused 24) (pick (ltb most_elevations n) (refused 24) (given n)))

  abbrev pub minutesFetched : Answer ℕ
  minutesFetched = pick (ltb (length b) (2 * field_size)) (refused 23) (pick (ltb most_minutes (fetched field_size b 2)) (refused 24)
      segmentsFetched)

  pub head-fetched : head_count b ≡ pick (ltb (length b) field_size) (refused 23) (pick (ltb (fetched field_size b 0) 1) (refused 24) minutesFetched)
  head-fetched =
      let segments = field_checks (drop 4 b) (either (ltb (segments_in b) 1) (ltb most_elevations (segments_in b))) in
      let third = decide segments refused (given (segments_in b)) in
      let second = pick (ltb (length (drop 2 b)) field_size) (refused 23) (pick (ltb most_minutes (minutes_in b)) (refused 24) third) in
      let e₃ : third ≡ segmentsFetched
      = ap (λ (s : Answer ℕ). pick (ltb (length (drop 4 b)) field_size) (refused 23) s)
      (sym (one_test (ltb (segments_in b) 1) (ltb most_elevations (segments_in b)) (refused 24) (given (segments_in b))))
      ∙ field-fetched b 4 (refused 23) (λ n. pick (ltb n 1) (refused 24) (pick (ltb most_elevations n) (refused 24) (given n))) in
      let e₂ : second ≡ minutesFetched
      = field-fetched b 2 (refused 23) (λ n. pick (ltb most_minutes n) (refused 24) third)
      ∙ ap (λ (s : Answer ℕ). pick (ltb (length b) (2 * field_size)) (refused 23) (pick (ltb most_minutes (fetched field_size b 2))
      (refused 24) s)) e₃ in
      field-fetched b 0 (refused 23) (λ n. pick (ltb n 1) (refused 24) second)
      ∙ ap (λ (s : Answer ℕ). pick (ltb (length b) field_size) (refused 23) (pick (ltb (fetched field_size b 0) 1) (refused 24) s)) e₂

-- ---- the body by its parts
abbrev segments : List ℕ → List Check
segments b = run_checks elevation_part (segments_in b) (drop head_size b)

pub head-stop : (index : ℕ) (b : List ℕ) (n : ℕ) → refused n ≡ head_count b → refused n ≡ body_checked index b
head-stop index b n e = refused_before (head_checks b) (segments b ++ leftover_checks b) (segments_in b) _ n e

-- ---- the three fields passed
module _ (b : List ℕ) (m : ℕ) (e : given m ≡ head_count b) where
  passed : AllHold (head_checks b)
  passed = all_hold (head_checks b) (rule_given (head_checks b) (segments_in b) m (sym e)).0

  count_is : segments_in b ≡ m
  count_is = (rule_given (head_checks b) (segments_in b) m (sym e)).1

  pub head-long : head_size ≤ length b
  head-long =
      let l : field_size ≤ length (drop 4 b) = ltb-false (length (drop 4 b)) field_size passed.1.1.1.1.0 in
      let k = simp length-drop at l in
      omega arith

  pub head_most : m ≤ most_elevations
  head_most =
      let t = (neither (ltb (segments_in b) 1) (ltb most_elevations (segments_in b)) passed.1.1.1.1.1.0).1 in
      omega (arith, ltb-false most_elevations (segments_in b) t, count_is)

  -- the azimuths of all elevation segments behind them, counted through, as they are lent
  abbrev behind : List ℕ
  behind = take (length b - head_size) (drop head_size b)

  checks_are : segments b ≡ run_checks azimuth_part (m * azimuths) behind
  checks_are =
      checks_flat (segments_in b) (drop head_size b)
      ∙ (λ i. run_checks azimuth_part (count_is i * azimuths) (sym (part_is b head_size) i))

  size_is : run_size elevation_part (segments_in b) (drop head_size b) ≡ run_size azimuth_part (m * azimuths) behind
  size_is =
      size_flat (segments_in b) (drop head_size b)
      ∙ (λ i. run_size azimuth_part (count_is i * azimuths) (sym (part_is b head_size) i))

  -- what is left to decide
  by_azimuths : {A : Type 0} (v : A) → rule (map_checks b) v ≡ rule (run_checks azimuth_part (m * azimuths) behind ++ leftover_checks b) v
  by_azimuths v =
      passed_before (head_checks b) (segments b ++ leftover_checks b) (segments_in b) m v e
      ∙ ap (λ (ks : List Check). rule (ks ++ leftover_checks b) v) checks_are

  module _ (index : ℕ) where
    pub azimuths-stop : {A : Type 0} (v : A) (n : ℕ) → refused n ≡ azimuths_found (m * azimuths) index behind → refused n ≡ rule (map_checks b) v
    azimuths-stop v n f =
        refused_before (run_checks azimuth_part (m * azimuths) behind) (leftover_checks b) _ v n f ∙ sym (by_azimuths v)

    module _ (found : Found) (f : given found ≡ azimuths_found (m * azimuths) index behind) where
      told : (first (run_checks azimuth_part (m * azimuths) behind) ≡ none)
          × (◌≡◌ {A = Found} (record { size = run_size azimuth_part (m * azimuths) behind; place = run_size azimuth_part index behind }) found)
      told = rule_given (run_checks azimuth_part (m * azimuths) behind) _ found (sym f)

      size-told : run_size azimuth_part (m * azimuths) behind ≡ found.size
      size-told = ap (λ (x : Found). x.size) told.1

      place-told : run_size azimuth_part index behind ≡ found.place
      place-told = ap (λ (x : Found). x.place) told.1

      pub azimuths-fit : head_size + found.size ≤ length b
      azimuths-fit =
          let l = run_long azimuth_part azimuth_long (m * azimuths) behind (all_hold (run_checks azimuth_part (m * azimuths) behind) told.0) in
          let k = ap (λ (x : List ℕ). length x) (part_is b head_size) ∙ length-drop head_size b in
          omega (arith, l, k, size-told, head-long)

      pub place-fits : index ≤ m * azimuths → found.place ≤ found.size
      place-fits h =
          let n : index + (m * azimuths - index) ≡ m * azimuths = omega arith in
          let k = ap (λ (n : ℕ). run_size azimuth_part n behind) (sym n) ∙ run-add azimuth_part index (m * azimuths - index) behind in
          omega (arith, k, size-told, place-told)

      left_is : {A : Type 0} (v : A) → rule (map_checks b) v ≡ pick (ltb (head_size + found.size) (length b)) (refused 23) (given v)
      left_is v =
          by_azimuths v
          ∙ passed_before (run_checks azimuth_part (m * azimuths) behind) (leftover_checks b) _ found v f
          ∙ ap (λ (k : ℕ). pick (ltb (head_size + k) (length b)) (refused 23) (given v)) (size_is ∙ size-told)

      pub body-left : {A : Type 0} (v : A) → head_size + found.size < length b → refused 23 ≡ rule (map_checks b) v
      body-left v h = sym (left_is v ∙ simp (lt-ltb (head_size + found.size) (length b) h))

      pub body-found : (asked : ℕ) → index ≡ min asked (m * azimuths) → length b ≤ head_size + found.size
          → given (record { elevations = m; place = head_size + found.place }) ≡ body_checked asked b
      body-found asked i h =
          let p : head_size + found.place ≡ place_of (min asked (segments_in b * azimuths)) b =
          sym (ap (λ (k : ℕ). head_size + k) place-told)
          ∙ (λ i. head_size + run_size azimuth_part index (part_is b head_size i))
          ∙ ap (λ (k : ℕ). place_of k b) i
          ∙ ap (λ (k : ℕ). place_of (min asked (k * azimuths)) b) (sym count_is) in
          let c : ◌≡◌ {A = Checked} _ _ = λ i. record { elevations = sym count_is i; place = p i } in
          ap given c ∙ sym (left_is _ ∙ simp (le-ltb (head_size + found.size) (length b) h))

-- ---- what is answered of it
pub map-stop : (index : ℕ) (b : List ℕ) (n : ℕ) → refused n ≡ body_checked index b → refused n ≡ summary_of b
map-stop index b n e = still_refused (map_checks b) _ (summary (map_in b)) n e

pub map-given : (index : ℕ) (b : List ℕ) (c : Checked) → given c ≡ body_checked index b
    → given (record { date = fetched 2 b 0; minutes = fetched 2 b 2; elevations = fetched 2 b 4 }) ≡ summary_of b
map-given index b c e =
    let p = (rule_given (map_checks b) _ c (sym e)).0 in
    let h = (map_facts b (all_hold (map_checks b) p)).here in
    let d : fetched 2 b 0 ≡ date_in b = fetched-value b 0 (omega arith) in
    let q : fetched 2 b 2 ≡ minutes_in b = fetched-value b 2 (omega arith) in
    let n : fetched 2 b 4 ≡ length (map_in b).elevations = fetched-value b 4 (omega arith)
    ∙ sym (run-count elevation_part (segments_in b) (drop 6 b)) in
    let s : ◌≡◌ {A = Summary} (record { date = fetched 2 b 0; minutes = fetched 2 b 2; elevations = fetched 2 b 4 }) (summary (map_in b))
    = λ i. record { date = d i; minutes = q i; elevations = n i } in
    ap given s ∙ sym (decide-none (map_checks b) refused (given (summary (map_in b))) p)

-- ---- what is asked of it
pub query_stop : (index : ℕ) (b : List ℕ) (elevation azimuth kilometre n : ℕ) → refused n ≡ body_checked index b
    → refused n ≡ code_of b elevation azimuth kilometre
query_stop index b elevation azimuth kilometre n e =
    refused_before (map_checks b) (asked_checks (segments_in b) elevation azimuth kilometre) _
    (code_at (map_in b) elevation azimuth kilometre) n e

-- no map has such an azimuth
abbrev pub Nowhere : ℕ → ℕ → Type 0
Nowhere elevation azimuth = (elevation ≡ 0)
    ⊎ (((elevation ≡ 0 → ⊥) × (most_elevations < elevation)) ⊎ ((elevation ≡ 0 → ⊥) × (azimuths ≤ azimuth)))

-- an index that stands is that of an azimuth that some map has
module _ (index : Option ℕ) (elevation azimuth : ℕ) (asked : index ≡ asked_index elevation azimuth) where
  abbrev Asked : Type 0
  Asked = (elevation ≡ 0 → ⊥) × (azimuth < azimuths) × (unwrap_or index 0 ≡ index_of elevation azimuth)

  abbrev Choice : Bool → Bool → Bool → Option ℕ
  Choice x y z = pick x None (pick y None (pick z None (Some (index_of elevation azimuth))))

  pub asked_some : is_some index ≡ true → Asked
  asked_some s = by (eqb elevation 0) (ltb most_elevations elevation) (leb azimuths azimuth) refl refl asked
    where
      none : index ≡ None → Asked
      none p = absurd (true≢false (sym s ∙ ap is_some p))

      by : (x y z : Bool) → eqb elevation 0 ≡ x → leb azimuths azimuth ≡ z → index ≡ Choice x y z → Asked
      by true y z p q i = none i
      by false true z p q i = none i
      by false false true p q i = none i
      by false false false p q i = (eqb-false elevation 0 p, leb-false azimuths azimuth q, ap (λ (o : Option ℕ). unwrap_or o 0) i)

  pub asked_nothing : is_some index ≡ false → Nowhere elevation azimuth
  asked_nothing s = by (eqb elevation 0) (ltb most_elevations elevation) (leb azimuths azimuth) refl refl refl asked
    where
      by : (x y z : Bool) → eqb elevation 0 ≡ x → ltb most_elevations elevation ≡ y → leb azimuths azimuth ≡ z → index ≡ Choice x y z → Nowhere elevation azimuth
      by true y z p q t i = inl (eqb-true elevation 0 p)
      by false true z p q t i = inr (inl (eqb-false elevation 0 p, ltb-true most_elevations elevation q))
      by false false true p q t i = inr (inr (eqb-false elevation 0 p, leb-true azimuths azimuth t))
      by false false false p q t i = absurd (true≢false (ap is_some (sym i) ∙ s))

module _ (index : ℕ) (b : List ℕ) (checked : Checked) (e : given checked ≡ body_checked index b) where
  told-by : (first (map_checks b) ≡ none)
      × (◌≡◌ {A = Checked} (record { elevations = segments_in b; place = place_of (min index (segments_in b * azimuths)) b }) checked)
  told-by = rule_given (map_checks b) _ checked (sym e)

  holds : AllHold (map_checks b)
  holds = all_hold (map_checks b) told-by.0

  segments_are : segments_in b ≡ checked.elevations
  segments_are = ap (λ (c : Checked). c.elevations) told-by.1

  -- the azimuth that was found is the one asked for
  pub asked-stands : (elevation azimuth : ℕ) → index ≡ index_of elevation azimuth → (elevation ≡ 0 → ⊥)
      → elevation ≤ checked.elevations → azimuth < azimuths → AzimuthStands b elevation azimuth checked.place
  asked-stands elevation azimuth i z h a =
      let l : min index (segments_in b * azimuths) ≡ index_of elevation azimuth = omega (arith, i, segments_are) in
      let p = ap (λ (k : ℕ). place_of k b) (sym l) ∙ ap (λ (c : Checked). c.place) told-by.1 in
      subst (AzimuthStands b elevation azimuth) p
      (azimuths_stand b holds elevation azimuth (omega arith) (omega (arith, segments_are)) a)

  module _ (elevation azimuth kilometre : ℕ) where
    query-is : code_of b elevation azimuth kilometre ≡ rule (asked_checks checked.elevations elevation azimuth kilometre)
        (code_at (map_in b) elevation azimuth kilometre)
    query-is =
        let v = code_at (map_in b) elevation azimuth kilometre in
        passed_before (map_checks b) (asked_checks (segments_in b) elevation azimuth kilometre) _ checked v e
        ∙ ap (λ (k : ℕ). rule (asked_checks k elevation azimuth kilometre) v) segments_are

    -- no such place, by the tests in their order
    pub asked-none : (elevation ≡ 0) ⊎ (((elevation ≡ 0 → ⊥) × (checked.elevations < elevation))
        ⊎ (((elevation ≡ 0 → ⊥) × (elevation ≤ checked.elevations) × (azimuths ≤ azimuth))
        ⊎ ((elevation ≡ 0 → ⊥) × (elevation ≤ checked.elevations) × (azimuth < azimuths) × (last_kilometre < kilometre))))
        → refused 21 ≡ code_of b elevation azimuth kilometre
    asked-none (inl z) = sym (query-is ∙ simp (eq-eqb elevation 0 z))
    asked-none (inr (inl h)) = sym (query-is ∙ simp (ne_eqb elevation 0 h.0, lt-ltb checked.elevations elevation h.1))
    asked-none (inr (inr (inl h))) =
        sym (query-is ∙ simp (ne_eqb elevation 0 h.0, le-ltb checked.elevations elevation h.1, le-ltb azimuth azimuths h.2))
    asked-none (inr (inr (inr h))) =
        sym (query-is ∙ simp (
          ne_eqb elevation 0 h.0,
          le-ltb checked.elevations elevation h.1,
          lt-ltb azimuth azimuths h.2,
          lt-ltb last_kilometre kilometre h.3,
        ))

    -- no map has it
    pub asked-nowhere : Nowhere elevation azimuth → refused 21 ≡ code_of b elevation azimuth kilometre
    asked-nowhere (inl z) = asked-none (inl z)
    asked-nowhere (inr (inl h)) = asked-none (inr (inl (h.0, omega (arith, h.1, (map_facts b holds).most, segments_are))))
    asked-nowhere (inr (inr h)) = go (ltb checked.elevations elevation) refl
      where
        go : (t : Bool) → ltb checked.elevations elevation ≡ t → refused 21 ≡ code_of b elevation azimuth kilometre
        go true p = asked-none (inr (inl (h.0, ltb-true checked.elevations elevation p)))
        go false p = asked-none (inr (inr (inl (h.0, ltb-false checked.elevations elevation p, h.1))))

    pub asked-given : (elevation ≡ 0 → ⊥) → elevation ≤ checked.elevations → azimuth < azimuths → kilometre ≤ last_kilometre
        → given (code_at (map_in b) elevation azimuth kilometre) ≡ code_of b elevation azimuth kilometre
    asked-given z h a k =
        sym (query-is ∙ simp (
          ne_eqb elevation 0 z,
          le-ltb checked.elevations elevation h,
          lt-ltb azimuth azimuths a,
          le-ltb last_kilometre kilometre k,
        ))
