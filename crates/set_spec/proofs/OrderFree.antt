-- 10 and 11 in turn are agreement and distinct numbers in no order; the segments met are the frames. Assumes nothing.
use Prim.Native.Nat.{ℕ, zero, suc}
use mathlib.Core.Path.{◌≡◌, refl, sym, ap, subst, ◌∙◌}
use mathlib.Core.Logic.{⊎_elim}
use mathlib.Core.Bool.{Bool, true, false, not}
use mathlib.Core.Option.{Option, none, some}
use mathlib.Core.List.Memᴰ
use mathlib.Core.List.{List, [], ◌∷◌, ◌++◌, map, Memᴰ}
use lib.Dec.{eqb}
use borrow.Author.Tests.{eqb-true, eq-eqb, ne_eqb, not-false}
use Rattle.wire.specs.Checks.{pick, both, check, AllHold}
use Rattle.wire.proofs.CheckLaws.{never, all_hold_append, all_hold_join}
use Rattle.header.specs.declared.Header.{Header}
use Rattle.set_spec.specs.Segment.{Segment, segment_in, agree_checks, numbered, found, or_nothing, data_numbered}
use Rattle.set_spec.specs.Walk.{first_or, seen, met_checks, count, all_seen, joined}
use Rattle.set_spec.specs.Whole.{header_from, number_from, Agree, Distinct, Joined, start, next}
use Rattle.set_spec.proofs.NumberedLaws.{numbered_other, first_more}
use Rattle.set_spec.proofs.FrameLists.{each_cons, AllMet}

-- ---- agreement
equal : (a b : ℕ) → not (eqb a b) ≡ false → a ≡ b
equal a b e = eqb-true a b (not-false (eqb a b) e)

unequal : (a b : ℕ) → a ≡ b → not (eqb a b) ≡ false
unequal a b e = simp (eq-eqb a b e)

agree_held : (a h : Header) → AllHold (agree_checks a h) → Agree h a
agree_held a h c = record {
  channel = equal h.channel a.channel c.0;
  kind = equal h.kind a.kind c.1.0;
  date = equal h.date a.date c.1.1.0;
  milliseconds = equal h.milliseconds a.milliseconds c.1.1.1.0;
  segments = equal h.segments a.segments c.1.1.1.1.0;
}

held_agree : (a h : Header) → Agree h a → AllHold (agree_checks a h)
held_agree a h g = (
  unequal h.channel a.channel g.channel,
  (
    unequal h.kind a.kind g.kind,
    (
      unequal h.date a.date g.date,
      (unequal h.milliseconds a.milliseconds g.milliseconds, (unequal h.segments a.segments g.segments, tt)),
    ),
  ),
)

agree_refl : (a : Header) → Agree a a
agree_refl a = record { channel = refl; kind = refl; date = refl; milliseconds = refl; segments = refl }

-- two headers that agree with a third
pub agree_both : (a b c : Header) → Agree a c → Agree b c → Agree a b
agree_both a b c p q = record {
  channel = p.channel ∙ sym q.channel;
  kind = p.kind ∙ sym q.kind;
  date = p.date ∙ sym q.date;
  milliseconds = p.milliseconds ∙ sym q.milliseconds;
  segments = p.segments ∙ sym q.segments;
}

agree_on : (a b c : Header) → Agree a b → Agree b c → Agree a c
agree_on a b c p q = agree_both a c b p (agree_both c b c (agree_refl c) q)

-- ---- the two halves of 10 and 11
module _ (gs : List Segment) (h : Header) where
  met_agrees : AllHold (met_checks gs h) → Agree h (first_or gs h)
  met_agrees m = agree_held (first_or gs h) h (all_hold_append (agree_checks (first_or gs h) h) (check 11 (seen gs h.number) ∷ []) m).0

  met_new : AllHold (met_checks gs h) → seen gs h.number ≡ false
  met_new m = (all_hold_append (agree_checks (first_or gs h) h) (check 11 (seen gs h.number) ∷ []) m).1.0

  met-both : Agree h (first_or gs h) → seen gs h.number ≡ false → AllHold (met_checks gs h)
  met-both a n = all_hold_join (agree_checks (first_or gs h) h) (check 11 (seen gs h.number) ∷ []) (held_agree (first_or gs h) h a) (n, tt)

-- ---- all frames met in turn agree with the first
led : (gs : List Segment) (each : List (List ℕ)) (lead : Header) → ((x : Header) → first_or gs x ≡ lead) → AllMet gs each
    → (f : List ℕ) → Memᴰ f each → Agree (header_from f) lead
led gs [] lead l m = λ f k. absurd (Memᴰ.not-nil k)
led gs (x ∷ xs) lead l m =
    each_cons (λ f. Agree (header_from f) lead) x xs (subst (λ (a : Header). Agree (header_from x) a) (l (header_from x))
    (met_agrees gs (header_from x) m.0))
    (led (gs ++ (segment_in x ∷ [])) xs lead (λ y. first_more gs (segment_in x) y ∙ l (header_from x)) m.1)

-- one header that all agree with: the first's, where there is one
abbrev pub leader : List (List ℕ) → Header
leader each = first_or (map segment_in each) (header_from [])

pub all_agree : (each : List (List ℕ)) → AllMet [] each → (f : List ℕ) → Memᴰ f each → Agree (header_from f) (leader each)
all_agree [] m = λ f k. absurd (Memᴰ.not-nil k)
all_agree (x ∷ xs) m = each_cons (λ f. Agree (header_from f) (header_from x)) x xs (agree_refl (header_from x))
    (led (segment_in x ∷ []) xs (header_from x) (λ y. refl) m.1)

-- ---- distinct numbers
seen_before : (gs : List Segment) (g : Segment) (k : ℕ) → seen (gs ++ (g ∷ [])) k ≡ false
    → (seen gs k ≡ false) × (g.header.number ≡ k → ⊥)
unfolding numbered
seen_before [] g k e = (refl, λ q. absurd (clash q))
  where
    clash : g.header.number ≡ k → ⊥
    clash q = never (cc (e, ap (λ (t : Bool). found (pick t (some g) none)) (eq-eqb g.header.number k q)))
seen_before (x ∷ gs) g k e = go (eqb x.header.number k) e (λ q. seen_before gs g k q)
  where
    go : (t : Bool) → found (pick t (some x) (numbered (gs ++ (g ∷ [])) k)) ≡ false
        → (seen (gs ++ (g ∷ [])) k ≡ false → (seen gs k ≡ false) × (g.header.number ≡ k → ⊥))
        → (found (pick t (some x) (numbered gs k)) ≡ false) × (g.header.number ≡ k → ⊥)
    go true q later = never (cc q)
    go false q later = later q

unseen : (gs : List Segment) (each : List (List ℕ)) → AllMet gs each → (f : List ℕ) → Memᴰ f each → seen gs (number_from f) ≡ false
unseen gs [] m = λ f k. absurd (Memᴰ.not-nil k)
unseen gs (x ∷ xs) m =
    each_cons (λ f. seen gs (number_from f) ≡ false) x xs (met_new gs (header_from x) m.0)
    (λ f k. (seen_before gs (segment_in x) (number_from f) (unseen (gs ++ (segment_in x ∷ [])) xs m.1 f k)).0)

pub distinct : (gs : List Segment) (each : List (List ℕ)) → AllMet gs each → Distinct (map number_from each)
distinct gs [] m = tt
distinct gs (x ∷ xs) m = (
  (λ k. let r = Memᴰ.of_map number_from xs k in
      (seen_before gs (segment_in x) (number_from r.0) (unseen (gs ++ (segment_in x ∷ [])) xs m.1 r.0 r.1)).1 (sym r.2)),
  distinct (gs ++ (segment_in x ∷ [])) xs m.1,
)

-- ---- and back: frames that agree with one header and have distinct numbers are met in turn
met_from : (gs : List Segment) (each : List (List ℕ)) (h : Header) → ((x : Header) → Agree x h → Agree x (first_or gs x))
    → ((f : List ℕ) → Memᴰ f each → seen gs (number_from f) ≡ false)
    → ((f : List ℕ) → Memᴰ f each → Agree (header_from f) h)
    → Distinct (map number_from each)
    → AllMet gs each
met_from gs [] h l new a d = tt
met_from gs (x ∷ xs) h l new a d =
    let ax = a x (Memᴰ.head refl) in (
      met-both gs (header_from x) (l (header_from x) ax) (new x (Memᴰ.head refl)),
      met_from (gs ++ (segment_in x ∷ [])) xs h
          (λ y ay. subst (λ (z : Header). Agree y z) (sym (first_more gs (segment_in x) y))
          (agree_on y (header_from x) (first_or gs (header_from x)) (agree_both y (header_from x) h ay ax) (l (header_from x) ax)))
          (λ f k. ap found (numbered_other gs (segment_in x) (number_from f)
          (λ e. d.0 (subst (λ (n : ℕ). Memᴰ n (map number_from xs)) (sym e) (Memᴰ.map number_from k)))) ∙ new f (Memᴰ.tail k))
          (λ f k. a f (Memᴰ.tail k))
          d.1,
    )

pub all_met : (each : List (List ℕ)) (h : Header) → ((f : List ℕ) → Memᴰ f each → Agree (header_from f) h)
    → Distinct (map number_from each) → AllMet [] each
unfolding numbered
all_met each h a d = met_from [] each h (λ x y. agree_refl x) (λ f k. refl) a d

-- ---- the segment with a number is the frame with that number
pub record Found (each : List (List ℕ)) (k : ℕ) (g : Segment) : Type 0 where
  pub frame : List ℕ
  pub there : Memᴰ frame each
  pub number : number_from frame ≡ k
  pub segment : segment_in frame ≡ g

pub found_in : (each : List (List ℕ)) (k : ℕ) (g : Segment) → numbered (map segment_in each) k ≡ some g → Found each k g
unfolding numbered
found_in [] k g e = never (cc e)
found_in (x ∷ xs) k g e = go (eqb (number_from x) k) refl e (λ q. found_in xs k g q)
  where
    go : (t : Bool) → eqb (number_from x) k ≡ t → pick t (some (segment_in x)) (numbered (map segment_in xs) k) ≡ some g
        → (numbered (map segment_in xs) k ≡ some g → Found xs k g)
        → Found (x ∷ xs) k g
    go true p q later = record { frame = x; there = Memᴰ.head refl; number = eqb-true (number_from x) k p; segment = cc q }
    go false p q later =
        let r = later q in record { frame = r.frame; there = Memᴰ.tail r.there; number = r.number; segment = r.segment }

pub is_found : (each : List (List ℕ)) (f : List ℕ) → Memᴰ f each → Distinct (map number_from each)
    → numbered (map segment_in each) (number_from f) ≡ some (segment_in f)
unfolding numbered
is_found [] f m d = absurd (Memᴰ.not-nil m)
is_found (x ∷ xs) f m d =
    ⊎_elim
    (λ e. ap (λ (t : Bool). pick t (some (segment_in x)) (numbered (map segment_in xs) (number_from f)))
    (eq-eqb (number_from x) (number_from f) (ap number_from (sym e)))
    ∙ ap (λ (y : List ℕ). some (segment_in y)) (sym e))
    (λ n. ap (λ (t : Bool). pick t (some (segment_in x)) (numbered (map segment_in xs) (number_from f)))
    (ne_eqb (number_from x) (number_from f) (λ e. d.0 (subst (λ (i : ℕ). Memᴰ i (map number_from xs)) (sym e) (Memᴰ.map number_from n))))
    ∙ is_found xs f n d.1)
    (Memᴰ.cases_cons m)

-- ---- the body
pub joined_from : (each : List (List ℕ)) (n : ℕ) → all_seen (map segment_in each) n ≡ true → Joined each n (joined (map segment_in each) n)
unfolding all_seen joined
joined_from each zero e = start
joined_from each (suc n) e = go (all_seen (map segment_in each) n) (numbered (map segment_in each) (suc n)) refl refl e
    (λ q. joined_from each n q)
  where
    go : (t : Bool) (o : Option Segment) → all_seen (map segment_in each) n ≡ t → numbered (map segment_in each) (suc n) ≡ o
        → both t (found o) ≡ true
        → (all_seen (map segment_in each) n ≡ true → Joined each n (joined (map segment_in each) n))
        → Joined each (suc n) (joined (map segment_in each) n ++ (or_nothing o).content)
    go false o p q r later = never (cc r)
    go true none p q r later = never (cc r)
    go true (some g) p q r later =
        let w = found_in each (suc n) g q in
        subst (λ (x : Segment). Joined each (suc n) (joined (map segment_in each) n ++ x.content)) w.segment
        (next w.frame w.there w.number (later p))

pub joined_to : (each : List (List ℕ)) {n : ℕ} {body : List ℕ} → Distinct (map number_from each) → Joined each n body
    → (all_seen (map segment_in each) n ≡ true) × (joined (map segment_in each) n ≡ body)
unfolding all_seen joined
joined_to each d start = (refl, refl)
joined_to each d (next {n = n} {body = body} f m e j) =
    let i = joined_to each d j in
    let q : numbered (map segment_in each) (suc n) ≡ some (segment_in f) = ap (λ (k : ℕ). numbered (map segment_in each) k) (sym e)
    ∙ is_found each f m d in (
      ap (λ (t : Bool). both t (found (numbered (map segment_in each) (suc n)))) i.0 ∙ ap found q,
      ap (λ (x : List ℕ). x ++ data_numbered (map segment_in each) (suc n)) i.1
          ∙ ap (λ (o : Option Segment). body ++ (or_nothing o).content) q,
    )

pub count_is : (each : List (List ℕ)) (h : Header) → ((f : List ℕ) → Memᴰ f each → Agree (header_from f) h) → (one : List ℕ)
    → Memᴰ one each
    → count (map segment_in each) ≡ h.segments
count_is [] h a one m = absurd (Memᴰ.not-nil m)
count_is (f ∷ fs) h a one m = (a f (Memᴰ.head refl)).segments
