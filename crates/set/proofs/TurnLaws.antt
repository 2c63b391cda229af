-- One frame's turn: what its checks say, and what the arrays tell after it. Assumes nothing.
use Prim.Native.Nat.{ℕ, suc, ◌+◌, ◌-◌, ◌≤◌, ◌<◌}
use mathlib.Core.Path.{◌≡◌, refl, sym, ap, subst, ◌∙◌}
use mathlib.Core.Bool.{Bool, true, false}
use mathlib.Core.Option.{Option, none, some}
use mathlib.Core.List.{List, [], ◌∷◌, ◌++◌}
use native.Mathlib.Omega.{arith}
use lib.Dec.{eqb}
use lib.ListN.{length, get_or, set, take, drop, length-set}
use lib.Seq.{get_or-set_same, get_or-set_other}
use borrow.Author.Tests.{eqb-true, eqb-false, eq-eqb, ne_eqb}
use Rattle.std.specs.Prelude.{Ok, Err}
use Rattle.wire.specs.Refusals.{number}
use Rattle.wire.specs.declared.refusal.Refusal.{Refusal}
use Rattle.wire.specs.declared.refusal.Refusal.TheVariants.{Disagrees, AlreadySeen}
use Rattle.wire.specs.Checks.{pick, check, first, some_broken}
use Rattle.wire.proofs.CheckLaws.{all_hold, first-append-none, first-append-some, first-same-some, first-none, by_eq}
use Rattle.frame.specs.Session.{session_limit, body_in}
use Rattle.header.specs.declared.Header.{Header}
use Rattle.header_rule.specs.Rules.{most_segments}
use Rattle.set_spec.specs.Segment.{Segment, segment_in, own_checks, agree_checks, numbered, found, or_nothing, header_numbered, data_numbered}
use Rattle.set_spec.specs.Walk.{first_or, seen, met_checks, turn_checks}
use Rattle.set_spec.proofs.FrameFacts.{HeaderFits, header-fits}
use Rattle.set_spec.proofs.PrefixLaws.{own_parts}
use Rattle.set_spec.proofs.NumberedLaws.{not_found, numbered-same, numbered_other, first_more}
use Rattle.set.specs.declared.Part.{Part}
use Rattle.set.specs.declared.Gathered.{Gathered}
use Rattle.set.specs.Steps.{nowhere, SegmentLies, Tells, GoesOn, TurnTaken}

abbrev header : Option Segment → Header
header o = (or_nothing o).header

abbrev content : Option Segment → List ℕ
content o = (or_nothing o).content

disagree : (gs : List Segment) (h lead : Header) → first_or gs h ≡ lead → some_broken (agree_checks lead h) ≡ true
    → first (met_checks gs h) ≡ some 10
disagree gs h lead e b =
    first-append-some (agree_checks (first_or gs h) h) (check 11 (seen gs h.number) ∷ []) 10
    (ap (λ (x : Header). first (agree_checks x h)) e ∙ first-same-some 10 (agree_checks lead h) (refl, (refl, (refl, (refl, (refl, tt))))) b)

agreed : (gs : List Segment) (h lead : Header) → first_or gs h ≡ lead → some_broken (agree_checks lead h) ≡ false
    → first (met_checks gs h) ≡ first (check 11 (seen gs h.number) ∷ [])
agreed gs h lead e b =
    first-append-none (agree_checks (first_or gs h) h) (check 11 (seen gs h.number) ∷ [])
    (ap (λ (x : Header). first (agree_checks x h)) e ∙ first-none (agree_checks lead h) b)

-- a frame that its own checks refuse
pub turn_refused : (s : List ℕ) (at : ℕ) (gs : List Segment) (n : ℕ) → first (own_checks (drop at s)) ≡ some n
    → first (turn_checks gs (drop at s)) ≡ some n
turn_refused s at gs n e = first-append-some (own_checks (drop at s)) (met_checks gs (segment_in (drop at s)).header) n e

module _ {s : List ℕ} {at : ℕ} {h : Header} {start next : ℕ} (read : SegmentLies s at h start next) where
  -- the header's own rules
  fits : HeaderFits (body_in (drop at s))
  fits = header-fits (body_in (drop at s)) (own_parts (drop at s) (all_hold (own_checks (drop at s)) read.passes)).2

  pub number_low : 1 ≤ h.number
  number_low = subst (λ (x : Header). 1 ≤ x.number) read.header fits.low

  pub most : h.segments ≤ most_segments
  most = subst (λ (x : Header). x.segments ≤ most_segments) read.header fits.most

  pub number_high : h.number - 1 < most_segments
  number_high =
      let k : h.number ≤ h.segments = subst (λ (x : Header). x.number ≤ x.segments) read.header fits.high in
      omega (arith, most, number_low)

  back : suc (h.number - 1) ≡ h.number
  back = omega (arith, number_low)

  own : (gs : List Segment) → first (turn_checks gs (drop at s)) ≡ first (met_checks gs h)
  own gs =
      first-append-none (own_checks (drop at s)) (met_checks gs (segment_in (drop at s)).header) read.passes
      ∙ ap (λ (x : Header). first (met_checks gs x)) read.header

  module _ {m : Gathered} {gs : List Segment} (t : Tells s at m gs)
      {lead : Header} (is : lead ≡ pick (eqb at 0) h m.first) where
    leads : first_or gs h ≡ lead
    leads = t.first h ∙ sym is

    flagged : get_or m.flags (h.number - 1) false ≡ seen gs h.number
    flagged = t.flag (h.number - 1) number_high ∙ ap (λ (n : ℕ). seen gs n) back

    pub turn-disagrees : some_broken (agree_checks lead h) ≡ true → first (turn_checks gs (drop at s)) ≡ some 10
    turn-disagrees b = own gs ∙ disagree gs h lead leads b

    pub turn-seen : some_broken (agree_checks lead h) ≡ false → get_or m.flags (h.number - 1) false ≡ true
        → first (turn_checks gs (drop at s)) ≡ some 11
    turn-seen b e = let q : seen gs h.number ≡ true = sym flagged ∙ e in own gs ∙ agreed gs h lead leads b ∙ simp q

    turn-passes : some_broken (agree_checks lead h) ≡ false → get_or m.flags (h.number - 1) false ≡ false
        → first (turn_checks gs (drop at s)) ≡ none
    turn-passes b e = let q : seen gs h.number ≡ false = sym flagged ∙ e in own gs ∙ agreed gs h lead leads b ∙ simp q

    -- the arrays with this segment in them
    module _ (new : get_or m.flags (h.number - 1) false ≡ false) {one : Header} (has : one ≡ pick (eqb h.number 1) h m.one) where
      abbrev pub k : ℕ
      k = h.number - 1

      abbrev pub g : Segment
      g = segment_in (drop at s)

      numbers : g.header.number ≡ suc k
      numbers = ap (λ (x : Header). x.number) read.header ∙ sym back

      is-here : numbered (gs ++ (g ∷ [])) (suc k) ≡ some g
      is-here = numbered-same gs g (suc k) (not_found (numbered gs (suc k)) (sym (t.flag k number_high) ∙ new)) numbers

      is-there : (j : ℕ) → (j ≡ k → ⊥) → numbered (gs ++ (g ∷ [])) (suc j) ≡ numbered gs (suc j)
      is-there j ne = numbered_other gs g (suc j) (λ e. ne (omega (arith, numbers, e)))

      abbrev pub new_part : Part
      new_part = record { start = start; end = next }

      -- what the two arrays hold at a place: at k the new, elsewhere what they held
      at_place : (P : ℕ → Bool → Part → Type 0) → P k true new_part
          → ((j : ℕ) → j < most_segments → (j ≡ k → ⊥) → P j (get_or m.flags j false) (get_or m.parts j nowhere))
          → (j : ℕ) → j < most_segments → P j (get_or (set m.flags k true) j false) (get_or (set m.parts k new_part) j nowhere)
      at_place P here there j low =
          let f : k < length m.flags = omega (arith, number_high, t.flags_long) in
          let x : k < length m.parts = omega (arith, number_high, t.parts_long) in
          by_eq j k
          (λ e. subst (λ (i : ℕ). P i (get_or (set m.flags k true) i false) (get_or (set m.parts k new_part) i nowhere)) (sym e)
          (rw (get_or-set_same m.flags k true false f, get_or-set_same m.parts k new_part nowhere x) here))
          (λ ne. rw (get_or-set_other m.flags k j true false ne, get_or-set_other m.parts k j new_part nowhere ne) (there j low ne))

      is-first : (x : Header) → first_or (gs ++ (g ∷ [])) x ≡ lead
      is-first x = first_more gs g x ∙ ap (λ (y : Header). first_or gs y) read.header ∙ leads

      is_one : (b : Bool) → eqb h.number 1 ≡ b → pick b h m.one ≡ header_numbered (gs ++ (g ∷ [])) 1
      is_one true e =
          let z : suc k ≡ 1 = omega (arith, back, eqb-true h.number 1 e) in
          sym read.header ∙ sym (ap header is-here) ∙ ap (λ (n : ℕ). header_numbered (gs ++ (g ∷ [])) n) z
      is_one false e = t.one ∙ sym (ap header (numbered_other gs g 1 (λ q. eqb-false h.number 1 e (back' q))))
        where
          back' : g.header.number ≡ 1 → h.number ≡ 1
          back' q = sym (ap (λ (x : Header). x.number) read.header) ∙ q

      -- what is noted then
      abbrev pub noted : Gathered
      noted = record { first = lead; one = one; flags = set m.flags k true; parts = set m.parts k new_part }

      pub tells-put : Tells s next noted (gs ++ (g ∷ []))
      tells-put = record {
        flags_long = length-set m.flags k true ∙ t.flags_long;
        parts_long = length-set m.parts k new_part ∙ t.parts_long;
        flag =
            at_place (λ j b x. b ≡ found (numbered (gs ++ (g ∷ [])) (suc j))) (sym (ap found is-here))
            (λ j low ne. t.flag j low ∙ sym (ap found (is-there j ne)));
        part =
            at_place (λ j b x. take (x.end - x.start) (drop x.start s) ≡ data_numbered (gs ++ (g ∷ [])) (suc j))
            (read.content ∙ sym (ap content is-here))
            (λ j low ne. t.part j low ∙ sym (ap content (is-there j ne)));
        after = at_place (λ j b x. x.start ≤ x.end) read.order (λ j low ne. t.after j low);
        within = at_place (λ j b x. x.end ≤ length s) read.within (λ j low ne. t.within j low);
        small = at_place (λ j b x. x.end ≤ x.start + session_limit.0) read.small (λ j low ne. t.small j low);
        first = λ x. is-first x ∙ simp (ne_eqb next 0 (λ e. omega (arith, read.forward, read.order, e)));
        one = has ∙ is_one (eqb h.number 1) refl;
        count = ap (λ (x : Header). x.segments) (is-first (segment_in []).header);
        most = subst (λ (x : Header). x.segments ≤ most_segments) (sym is) (picked (eqb at 0));
        place = read.within;
      }
        where
          picked : (b : Bool) → (pick b h m.first).segments ≤ most_segments
          picked true = most
          picked false = t.most

      pub turn_on : some_broken (agree_checks lead h) ≡ false
          → GoesOn s at next noted gs
      turn_on b = record {
        passes = turn-passes b new;
        tells = tells-put;
        rest = read.rest;
        forward = omega (arith, read.forward, read.order);
      }

-- ---- the turn as the code takes it: first the header of the first frame is noted
abbrev pub led : ℕ → Header → Gathered → Gathered
led at h m = record { first = pick (eqb at 0) h m.first; one = m.one; flags = m.flags; parts = m.parts }

pub led_start : (at : ℕ) (h : Header) (m m₁ : Gathered) → at ≡ 0
    → m₁ ≡ record { first = h; one = m.one; flags = m.flags; parts = m.parts } → m₁ ≡ led at h m
led_start at h m m₁ z e = e ∙ simp (eq-eqb at 0 z)

pub led_on : (at : ℕ) (h : Header) (m m₁ : Gathered) → (at ≡ 0 → ⊥) → m₁ ≡ m → m₁ ≡ led at h m
led_on at h m m₁ z e = e ∙ simp (ne_eqb at 0 z)

-- a segment that does not lie there is refused whatever was met
pub taken_refused : (s : List ℕ) (at : ℕ) (m m₁ : Gathered) (q : Refusal) → first (own_checks (drop at s)) ≡ some (number q)
    → TurnTaken s at m m₁ (Err q)
taken_refused s at m m₁ q e = record { turned = λ gs t. turn_refused s at gs (number q) e }

module _ {s : List ℕ} {at : ℕ} {h : Header} {start next : ℕ} (read : SegmentLies s at h start next) {m m₁ : Gathered} (e : m₁ ≡ led at h m) where
  pub taken-disagrees : some_broken (agree_checks m₁.first h) ≡ true → TurnTaken s at m m₁ (Err Disagrees)
  taken-disagrees b = record { turned = λ gs t. turn-disagrees read t (ap (λ (x : Gathered). x.first) e) b }

  module _ (b : some_broken (agree_checks m₁.first h) ≡ false) where
    pub taken-seen : get_or m₁.flags (h.number - 1) false ≡ true → TurnTaken s at m m₁ (Err AlreadySeen)
    taken-seen f = record { turned = λ gs t. turn-seen read t (ap (λ (x : Gathered). x.first) e) b (sym (ap (λ (x : Gathered). get_or x.flags (h.number - 1) false) e) ∙ f) }

    pub taken-on : get_or m₁.flags (h.number - 1) false ≡ false → (one : Header) → one ≡ pick (eqb h.number 1) h m₁.one
        → TurnTaken s at m (record {
          first = m₁.first;
          one = one;
          flags = set m₁.flags (h.number - 1) true;
          parts = set m₁.parts (h.number - 1) (record { start = start; end = next });
        }) (Ok next)
    taken-on f one has =
        let same : one ≡ pick (eqb h.number 1) h m.one = has ∙ ap (λ (x : Gathered). pick (eqb h.number 1) h x.one) e in
        let new : get_or m.flags (h.number - 1) false ≡ false = sym (ap (λ (x : Gathered). get_or x.flags (h.number - 1) false) e) ∙ f in
        rw e (record { turned = λ gs t. turn_on read t refl new same (rw e at b) })
