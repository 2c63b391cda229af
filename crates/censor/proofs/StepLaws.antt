-- What each way through the reader and the writer comes to. Assumes nothing.
use Prim.Native.Nat.{ℕ, suc, ◌+◌, ◌-◌, ◌*◌, ◌/◌, ◌≤◌, ◌<◌}
use native.Mathlib.Omega.{arith}
use mathlib.Core.Path.{◌≡◌, refl, sym, ap, ◌∙◌}
use mathlib.Core.Bool.{Bool, true, false, not}
use mathlib.Core.List.{List, [], ◌∷◌, ◌++◌, append-nil}
use borrow.Author.Tests.{eq-eqb, ne_eqb, lt-ltb, le-ltb, ltb-false}
use lib.Dec.{eqb, ltb}
use lib.ListN.{length, take, drop, replicate, length-drop, length-append}
use lib.Seq.{take_at}
use Rattle.wire.specs.Numbers.{num, nums}
use Rattle.wire.specs.Checks.{pick, either, Check, decide}
use Rattle.wire.specs.Answers.{refused, given, refusal}
use Rattle.wire.specs.Writing.{filled, wrote, room_check}
use Rattle.wire.specs.Sizes.{bytes}
use Rattle.wire.specs.Tables.{render, run}
use Rattle.wire.proofs.CheckLaws.{hit, miss}
use Rattle.wire.proofs.ListLaws.{part_is}
use Rattle.wire.proofs.NumberLaws.{number_is, nums-length}
use Rattle.form_spec.specs.Forms.{outside, times, long, numbers_at, rows_of, numbers_in, body_checks}
use Rattle.form_spec.proofs.FormLaws.{outside_from, times_long, times-next, times-count, AllWide, times-wide, numbers-wide, table-wide, form_decide}
use Rattle.censor.specs.Censor.{most_regions, counts, region_fields, region, censor_form, count, fields, censor_of, body_of, censor_written}
use Rattle.censor.specs.Told.{places, censor_shown}
use Rattle.censor.specs.Steps.{region_bytes, region_broken, regions_broken}
use Rattle.censor.proofs.Halfwords.{run_long}

-- the four ways to be refused, then what comes after the checks
abbrev pub ways : {X : Type 0} → Bool → Bool → Bool → Bool → (ℕ → X) → X → X
ways absent high misfit broken f later = pick absent (f 23) (pick high (f 24) (pick misfit (f 23) (pick (either high broken) (f 24) later)))

few : (n : ℕ) → n ≤ most_regions → outside counts n ≡ false
few n h = outside_from n 0 most_regions (omega arith) ∙ le-ltb most_regions n h

pub few_regions : (n : ℕ) → outside counts n ≡ false → n ≤ most_regions
few_regions n h = ltb-false most_regions n (sym (outside_from n 0 most_regions (omega arith)) ∙ h)

many : (n : ℕ) → most_regions < n → outside counts n ≡ true
many n h = outside_from n 0 most_regions (omega arith) ∙ lt-ltb most_regions n h

-- the bytes and the numbers of n regions
pub regions_long : (n : ℕ) → long (times n region) ≡ region_bytes * n
regions_long n = omega (arith, times_long n region)

pub regions_count : (n : ℕ) → length (times n region) ≡ region_fields * n
regions_count n = omega (arith, times-count n region)

pub regions_wide : (n : ℕ) → AllWide 2 (times n region)
regions_wide n = times-wide 2 n region (refl, (refl, (refl, (refl, (refl, (refl, tt))))))

-- ---- a region, and those after it
module _ (x rest all : List ℕ) (e : all ≡ x ++ rest) (h : length x ≡ region_fields) where
  first_then : either (region_broken x) (regions_broken (length rest / region_fields) rest) ≡ regions_broken (length all / region_fields) all
  first_then =
      let n : suc (length rest / region_fields) ≡ length all / region_fields = omega (arith, h, ap length e, length-append x rest) in
      sym (times-next region (length rest / region_fields) x rest h) ∙ (λ i. regions_broken (n i) (sym e i))

  pub first_broken : region_broken x ≡ true → regions_broken (length all / region_fields) all ≡ true
  first_broken b = sym (hit _ _ b ∙ first_then)

  pub first_fine : region_broken x ≡ false → regions_broken (length all / region_fields) all ≡ regions_broken (length rest / region_fields) rest
  first_fine b = sym (miss _ _ _ b refl ∙ first_then)

pub none_left : (rest : List ℕ) → length rest < region_fields → regions_broken (length rest / region_fields) rest ≡ false
none_left rest h =
    let few : length rest / region_fields ≡ 0 = omega (arith, h) in
    ap (λ (n : ℕ). regions_broken n rest) few

-- ---- the reader
pub count_absent : (body : List ℕ) → length body < 2 → censor_shown (censor_of body) ≡ refused 23
unfolding censor_of
count_absent body a = simp (lt-ltb (length body) 2 a)

-- the fields of n regions, as numbers of one width
numbers_are : (body : List ℕ) (n : ℕ) → numbers_at (times n region) body 2 ≡ nums 2 body 2 (region_fields * n)
numbers_are body n =
    numbers-wide 2 (times n region) body 2 (regions_wide n) ∙ ap (λ (k : ℕ). nums 2 body 2 k) (regions_count n)

all_ways : (body : List ℕ) → censor_of body
    ≡ ways (ltb (length body) 2) (outside counts (num 2 body 0)) (not (eqb (length body) (2 + long (times (num 2 body 0) region))))
    (regions_broken (num 2 body 0) (numbers_at (times (num 2 body 0) region) body 2)) refused
    (given (num 2 body 0 ∷ numbers_at (times (num 2 body 0) region) body 2))
unfolding censor_of
all_ways body =
    ap (λ (ks : List Check). decide ks refused (given (numbers_in censor_form body))) (sym (append-nil (body_checks censor_form body)))
    ∙ form_decide censor_form (ltb (length body) 2) (not (eqb (length body) (2 + long (times (num 2 body 0) region))))
    (numbers_in censor_form body) [] refused
    (given (numbers_in censor_form body))

-- a body whose count is n
module _ (body : List ℕ) (n : ℕ) (e : num 2 body 0 ≡ n) where
  abbrev pub found : List ℕ
  found = nums 2 body 2 (region_fields * n)

  pub read_ways : censor_of body
      ≡ ways (ltb (length body) 2) (outside counts n) (not (eqb (length body) (2 + region_bytes * n))) (regions_broken n found) refused
      (given (n ∷ found))
  read_ways =
      let w = rw e at (all_ways body) in
      rw (← numbers_are body n, ← regions_long n) w

  pub count_high : 2 ≤ length body → most_regions < n → censor_shown (censor_of body) ≡ refused 24
  count_high a h = simp (read_ways, le-ltb (length body) 2 a, many n h)

  pub body_misfits : 2 ≤ length body → n ≤ most_regions → (length body ≡ 2 + region_bytes * n → ⊥)
      → censor_shown (censor_of body) ≡ refused 23
  body_misfits a h m = simp (read_ways, le-ltb (length body) 2 a, few n h, ne_eqb (length body) (2 + region_bytes * n) m)

  -- the array that holds the fields of its regions
  module _ (regions : List ℕ) (h : n ≤ most_regions) (m : length body ≡ 2 + region_bytes * n)
      (same : regions ≡ found ++ replicate (places - region_fields * n) 0) where
    abbrev pub told : Bool
    told = regions_broken (length (take (region_fields * n) regions) / region_fields) (take (region_fields * n) regions)

    told_is : told ≡ regions_broken n found
    told_is =
        let long = nums-length 2 body 2 (region_fields * n) in
        let here = ap (take (region_fields * n)) same ∙ take_at found (replicate (places - region_fields * n) 0) (region_fields * n) long in
        let k : length found / region_fields ≡ n = omega (arith, long) in
        ap (λ (l : List ℕ). regions_broken (length l / region_fields) l) here ∙ ap (λ (k : ℕ). regions_broken k found) k

    read-fields : censor_of body ≡ pick told (refused 24) (given (n ∷ found))
    read-fields =
        let a : 2 ≤ length body = omega arith in
        read_ways ∙ simp (le-ltb (length body) 2 a, few n h, eq-eqb (length body) (2 + region_bytes * n) m, sym told_is)

    pub body-broken : told ≡ true → censor_shown (censor_of body) ≡ refused 24
    body-broken b = simp (read-fields, b)

    pub body-fine : told ≡ false → censor_shown (censor_of body) ≡ given (record { count = n; regions = regions })
    body-fine b =
        let long = ap (λ (k : ℕ). found ++ replicate (places - k) 0) (nums-length 2 body 2 (region_fields * n)) in
        simp (read-fields, b) (λ i. given (record { count = n; regions = (long ∙ sym same) i }))

-- ---- the writer
module _ (list out : List ℕ) where
  write_ways : censor_written list out
      ≡ ways (ltb (length list) 1) (outside counts (count list)) (not (eqb (length list) (suc (length (times (count list) region)))))
      (regions_broken (count list) (fields list)) (refusal out)
      (pick (ltb (length out) (length (body_of list))) (refusal out 13)
      (wrote (body_of list) out))
  unfolding censor_written
  write_ways =
      form_decide censor_form (ltb (length list) 1) (not (eqb (length list) (suc (length (times (count list) region))))) list
      (room_check (length out) (body_of list) ∷ []) (refusal out) (wrote (body_of list) out)

  pub list-empty : length list < 1 → censor_written list out ≡ refusal out 23
  list-empty a = write_ways ∙ simp (lt-ltb (length list) 1 a)

  pub list_high : 1 ≤ length list → most_regions < count list → censor_written list out ≡ refusal out 24
  list_high a h = write_ways ∙ simp (le-ltb (length list) 1 a, many (count list) h)

  pub list_misfits : 1 ≤ length list → count list ≤ most_regions → (length list ≡ 1 + region_fields * count list → ⊥)
      → censor_written list out ≡ refusal out 23
  list_misfits a h m =
      let k = regions_count (count list) in
      write_ways
      ∙ simp (
        le-ltb (length list) 1 a,
        few (count list) h,
        ne_eqb (length list) (suc (length (times (count list) region)))
            (λ p. m (omega (arith, p, k))),
      )

  module _ (h : count list ≤ most_regions) (m : length list ≡ 1 + region_fields * count list) where
    -- its body: every number of the list, as a halfword
    body_is : body_of list ≡ run 2 list
    body_is =
        ap render (table-wide 2 (rows_of censor_form (count list)) list (refl, regions_wide (count list))
        (omega (arith, m, regions_count (count list))))

    body_long : length (body_of list) ≡ 2 + region_bytes * count list
    body_long = ap length body_is ∙ omega (arith, m, run_long list)

    write-fields : censor_written list out
        ≡ pick (regions_broken (count list) (fields list)) (refusal out 24)
        (pick (ltb (length out) (length (body_of list))) (refusal out 13)
        (wrote (body_of list) out))
    write-fields =
        let a : 1 ≤ length list = omega arith in
        let k : length list ≡ suc (length (times (count list) region)) = omega (arith, m, regions_count (count list)) in
        write_ways ∙ simp (le-ltb (length list) 1 a, few (count list) h, eq-eqb (length list) (suc (length (times (count list) region))) k)

    -- what the rest of the list tells
    abbrev pub rest_told : Bool
    rest_told =
        regions_broken (length (take (length list - 1) (drop 1 list)) / region_fields) (take (length list - 1) (drop 1 list))

    rest_is : regions_broken (count list) (fields list) ≡ rest_told
    rest_is =
        let k : length (fields list) / region_fields ≡ count list = omega (arith, m, length-drop 1 list) in
        sym (ap (λ (l : List ℕ). regions_broken (length l / region_fields) l) (part_is list 1)
        ∙ ap (λ (n : ℕ). regions_broken n (fields list)) k)

    pub list-broken : rest_told ≡ true → censor_written list out ≡ refusal out 24
    list-broken b = write-fields ∙ simp (rest_is ∙ b)

    pub list-room : rest_told ≡ false → length out < 2 + region_bytes * count list → censor_written list out ≡ refusal out 13
    list-room b r =
        let s : length out < length (body_of list) = omega (arith, body_long) in
        write-fields ∙ simp (rest_is ∙ b, lt-ltb (length out) (length (body_of list)) s)

    -- what is written, its length in the words of the code
    pub list_written : rest_told ≡ false → 2 + region_bytes * count list ≤ length out
        → censor_written list out
        ≡ record { answer = given (bytes (2 + region_bytes * count list)); output = filled (run 2 list) out }
    list_written b r =
        let s : length (body_of list) ≤ length out = omega (arith, body_long) in
        write-fields
        ∙ (simp (rest_is ∙ b, le-ltb (length out) (length (body_of list)) s))
        ∙ ap (λ (k : ℕ). record { answer = given (bytes k); output = filled (body_of list) out }) body_long
        ∙ ap (λ (x : List ℕ). record { answer = given (bytes (2 + region_bytes * count list)); output = filled x out }) body_is

-- ---- what the check tries on the reader and on the writer
pub ruleset reads = (count_absent, count_high, body_misfits, body-broken, body-fine, number_is)

pub ruleset writes = (list-empty, list_high, list_misfits, list-broken, list-room, list_written)
