-- The walk over the zones of both azimuths, turn by turn. Assumes nothing.
use Prim.Native.Nat.{ℕ, suc, ◌+◌, ◌*◌, ◌-◌, ◌≤◌, ◌<◌}
use native.Mathlib.Omega.{arith}
use mathlib.Core.Path.{◌≡◌, refl, sym, ap, ◌∙◌, subst}
use mathlib.Core.Bool.{Bool, true, false, not, ◌&&◌, ◌||◌}
use mathlib.Core.List.{List, [], ◌∷◌}
use Rattle.std.specs.Prelude.{min}
use lib.Dec.{eqb}
use lib.ListN.{length}
use borrow.Author.Tests.{eqb-true, eqb-false, not-true}
use Rattle.wire.specs.Checks.{pick, both, AllHold}
use Rattle.wire.specs.Sheets.{Sheet, sheet}
use Rattle.wire.proofs.CheckLaws.{never, both_true}
use Rattle.map_spec.specs.Map.{last_kilometre, kilometres, field_size, zone_size, Zone, code_from}
use Rattle.map_spec.specs.Reading.{value, azimuth_part}
use Rattle.map_spec.specs.Places.{zone_at}
use Rattle.map_spec.proofs.ZoneWalk.{Facing, facing_first, facing-low, facing-high, facing-code, facing-stays, facing-next}
use Rattle.compare_spec.specs.Differences.{Difference, stay, stretch, stretches}
use Rattle.compare_spec.specs.Comparing.{difference_size}
use Rattle.compare_spec.proofs.Most.{stretch_few}
use Rattle.compare.specs.Steps.{listing, one_if, zones_differences}
use Rattle.compare.proofs.SheetLaws.{listing-append, listing-long}
use Rattle.compare.proofs.StretchLaws.{same-stay, part_stays, part-ends, from_first, stretches_last, stretches-none}

abbrev codes : List ℕ → ℕ → ℕ
codes b k = code_from 0 (azimuth_part.read b) k

-- the stretch that is open has its codes, and what is still to be listed makes the whole list
pub record Walking (old new : List ℕ) (elevation azimuth count : ℕ) (out₀ out : List ℕ) (i j next first was is listed : ℕ) : Type 0 where
  pub low : first ≤ next
  pub near : first ≤ last_kilometre
  pub few : listed ≤ count + first
  pub was_old : was ≡ codes old first
  pub is_new : is ≡ codes new first
  pub left_old : ℕ
  pub left_new : ℕ
  pub at_old : Facing old i next left_old
  pub at_new : Facing new j next left_new
  pub same : listing (stretches elevation azimuth (codes old) (codes new) first next (kilometres - next))
      (sheet (difference_size * listed) out)
      ≡ listing (zones_differences elevation azimuth old new) (sheet (difference_size * count) out₀)

-- azimuths that have the same zones
pub none_listed : (old new : List ℕ) (elevation azimuth count : ℕ) (out : List ℕ) → azimuth_part.read old ≡ azimuth_part.read new
    → sheet (difference_size * count) out ≡ listing (zones_differences elevation azimuth old new) (sheet (difference_size * count) out)
none_listed old new elevation azimuth count out e =
    ap (λ (ds : List Difference). listing ds (sheet (difference_size * count) out))
    (sym
    (ap (λ (zs : List Zone). stretches elevation azimuth (code_from 0 zs) (codes new) 0 1 last_kilometre) e
    ∙ stretches-none elevation azimuth (codes new) 0 1 last_kilometre))

stretch_coded : (elevation azimuth first next was is : ℕ) (old new : ℕ → ℕ) → was ≡ old first → is ≡ new first
    → stretch elevation azimuth (λ k. was) (λ k. is) first next ≡ stretch elevation azimuth old new first next
stretch_coded elevation azimuth first next was is old new e f =
    ap (λ (c : ℕ). stretch elevation azimuth (λ k. c) (λ k. is) first next) e
    ∙ ap (λ (c : ℕ). stretch elevation azimuth (λ k. old first) (λ k. c) first next) f

-- a stretch as it is asked to be listed
stretch_if : (elevation azimuth first next was is : ℕ)
    → one_if (not (eqb was is)) elevation azimuth first next was is ≡ stretch elevation azimuth (λ k. was) (λ k. is) first next
stretch_if elevation azimuth first next was is = go (eqb was is)
  where
    d : Difference
    d = record { elevation = elevation; azimuth = azimuth; first = first; last = next - 1; old = was; new = is }

    go : (t : Bool) → pick (not t) (d ∷ []) [] ≡ pick t [] (d ∷ [])
    go true = refl
    go false = refl

-- one of two codes changes unless both stay
one_changes : (s t : Bool) → not s || not t ≡ not (both s t)
one_changes true t = refl
one_changes false t = refl

first_of : (s t : Bool) → s && t ≡ true → s ≡ true
first_of true t e = refl
first_of false t e = e

never_both : {A : Type 0} → true ≡ false → A
never_both e = never (cc e)

apart_below : (a b : ℕ) → a ≤ b → (b ≡ a → ⊥) → a + 1 ≤ b
apart_below a b h n = omega (arith, n)

-- ---- one of the two azimuths: the zone that its walk has come to
module _ (b : List ℕ) (checked : AllHold (azimuth_part.checks b)) (at from left : ℕ) (here : Facing b at from left)
    (near : from ≤ last_kilometre)
  where
    -- up to its end it has its code
    code-to : (code : ℕ) → code ≡ (zone_at b at).code → (end : ℕ) → end ≤ (zone_at b at).end → (k : ℕ) → from ≤ k → k ≤ end → codes b k ≡ code
    code-to code is end u k l h = facing-code b checked at from left here near k l (omega arith) ∙ sym is

    code-from : (code : ℕ) → code ≡ (zone_at b at).code → codes b from ≡ code
    code-from code is =
        code-to code is (zone_at b at).end (omega arith) from (omega arith) (facing-low b checked at from left here near)

    -- after a kilometre of it, as `past` has it
    facing-past : (p end at' : ℕ) → p ≡ (zone_at b at).end → at' ≡ pick (eqb p end) (at + zone_size) at → from ≤ end → end ≤ (zone_at b at).end
        → Facing b at' (end + 1) (pick (eqb p end) (left - 1) left)
    facing-past p end at' is e h u = subst (λ (x : ℕ). Facing b x (end + 1) (pick (eqb p end) (left - 1) left)) (sym e)
        (go (eqb p end) refl)
      where
        go : (t : Bool) → eqb p end ≡ t → Facing b (pick t (at + zone_size) at) (end + 1) (pick t (left - 1) left)
        go true q =
            let s : suc (zone_at b at).end ≡ end + 1 = omega (arith, is, eqb-true p end q) in
            subst (λ (k : ℕ). Facing b (at + zone_size) k (left - 1)) s (facing-next b checked at from left here near)
        go false q =
            let n : (zone_at b at).end ≡ end → ⊥ = λ f. eqb-false p end q (is ∙ f) in
            facing-stays b checked at from left here near (end + 1) (omega arith) (apart_below end (zone_at b at).end u n)

module _ {old new : List ℕ} (checkedOld : AllHold (azimuth_part.checks old)) (checkedNew : AllHold (azimuth_part.checks new))
    {elevation azimuth count : ℕ} {out₀ : List ℕ}
  where
    pub walking_start : {was is : ℕ} → was ≡ (zone_at old field_size).code → is ≡ (zone_at new field_size).code
        → Walking old new elevation azimuth count out₀ out₀ field_size field_size 0 0 was is count
    walking_start {was} {is} e f =
        let a = facing_first old checkedOld in
        let b = facing_first new checkedNew in
        record {
          low = omega arith;
          near = omega arith;
          few = omega arith;
          was_old = sym (code-from old checkedOld field_size 0 (value old) a (omega arith) was e);
          is_new = sym (code-from new checkedNew field_size 0 (value new) b (omega arith) is f);
          left_old = value old;
          left_new = value new;
          at_old = a;
          at_new = b;
          same = ap (λ (ds : List Difference). listing ds (sheet (difference_size * count) out₀))
              (from_first elevation azimuth (codes old) (codes new));
        }

    -- the codes of the zones that both walks have come to
    module _ {out : List ℕ} {i j next first was is listed : ℕ} (w : Walking old new elevation azimuth count out₀ out i j next
        first was is listed) (near : next ≤ last_kilometre)
        {code other : ℕ} (codeIs : code ≡ (zone_at old i).code) (otherIs : other ≡ (zone_at new j).code)
      where
        code-next : codes old next ≡ code
        code-next = code-from old checkedOld i next w.left_old w.at_old near code codeIs

        other-next : codes new next ≡ other
        other-next = code-from new checkedNew j next w.left_new w.at_new near other otherIs

        stay-is : stay (codes old) (codes new) first next ≡ both (eqb was code) (eqb is other)
        stay-is =
            ap (λ (c : ℕ). both (eqb c (codes old next)) (eqb (codes new first) (codes new next))) (sym w.was_old)
            ∙ ap (λ (c : ℕ). both (eqb was c) (eqb (codes new first) (codes new next))) code-next
            ∙ ap (λ (c : ℕ). both (eqb was code) (eqb c (codes new next))) (sym w.is_new)
            ∙ ap (λ (c : ℕ). both (eqb was code) (eqb is c)) other-next

        -- a stretch whose codes change has begun before
        begun-before : both (eqb was code) (eqb is other) ≡ false → first < next
        begun-before s = go (eqb first next) refl
          where
            go : (t : Bool) → eqb first next ≡ t → first < next
            go true e =
                let f = eqb-true first next e in
                let g : stay (codes old) (codes new) first next ≡ true
                = same-stay elevation azimuth (codes old) (codes new) first next (ap (codes old) f, ap (codes new) f) in
                never_both (sym g ∙ stay-is ∙ s)
            go false e = let f = eqb-false first next e in omega (arith, w.low, f)

        -- so it is listed only before a kilometre that is not the first
        pub turn_low : (not (eqb was code) || not (eqb is other)) && not (eqb was is) ≡ true → 1 ≤ next
        turn_low e =
            let f = first_of (not (eqb was code) || not (eqb is other)) (not (eqb was is)) e in
            let s = not-true (both (eqb was code) (eqb is other)) (sym (one_changes (eqb was code) (eqb is other)) ∙ f) in
            omega (arith, begun-before s)

        turn-few : (listed' : ℕ) (out' : List ℕ) → both (eqb was code) (eqb is other) ≡ false
            → sheet (difference_size * listed') out' ≡ listing (stretch elevation azimuth (λ k. was) (λ k. is) first next)
            (sheet (difference_size * listed) out) → listed' ≤ count + next
        turn-few listed' out' s e =
            let c : difference_size * listed' ≡ difference_size * listed + difference_size * length
            (stretch elevation azimuth (λ k. was) (λ k. is) first next)
            = ap (λ (t : Sheet). t.long) e ∙ listing-long (stretch elevation azimuth (λ k. was) (λ k. is) first next)
            (sheet (difference_size * listed) out) in
            omega (arith, c, begun-before s, w.few, stretch_few elevation azimuth (λ k. was) (λ k. is) first next)

        -- the end of the zone that ends first, and what stands after it
        module _ {p q end i' j' : ℕ} (pIs : p ≡ (zone_at old i).end) (qIs : q ≡ (zone_at new j).end) (endIs : end ≡ min p q)
            (iIs : i' ≡ pick (eqb p end) (i + zone_size) i) (jIs : j' ≡ pick (eqb q end) (j + zone_size) j)
          where
            end_low : next ≤ end
            end_low =
                let l = facing-low old checkedOld i next w.left_old w.at_old near in
                let m = facing-low new checkedNew j next w.left_new w.at_new near in
                omega (arith, endIs, pIs, l, qIs, m)

            end-both : (end ≤ (zone_at old i).end) × (end ≤ (zone_at new j).end)
            end-both = (omega (arith, pIs, endIs), omega (arith, qIs, endIs))

            end-high : end ≤ last_kilometre
            end-high = omega (arith, end-both.0, facing-high old checkedOld i next w.left_old w.at_old near)

            at_old : Facing old i' (end + 1) (pick (eqb p end) (w.left_old - 1) w.left_old)
            at_old = facing-past old checkedOld i next w.left_old w.at_old near p end i' pIs iIs end_low end-both.0

            at_new : Facing new j' (end + 1) (pick (eqb q end) (w.left_new - 1) w.left_new)
            at_new = facing-past new checkedNew j next w.left_new w.at_new near q end j' qIs jIs end_low end-both.1

            code-on : (k : ℕ) → next ≤ k → k ≤ end → codes old k ≡ code
            code-on = code-to old checkedOld i next w.left_old w.at_old near code codeIs end end-both.0

            other-on : (k : ℕ) → next ≤ k → k ≤ end → codes new k ≡ other
            other-on = code-to new checkedNew j next w.left_new w.at_new near other otherIs end end-both.1

            abbrev Walks : List ℕ → ℕ → ℕ → Type 0
            Walks out' first' listed' = Walking old new elevation azimuth count out₀ out' i' j' (end + 1) first' code other listed'

            module _ {out' : List ℕ} {first' listed' : ℕ} where
              -- where the codes stay, so does the stretch
              walking_on : both (eqb was code) (eqb is other) ≡ true → first' ≡ first
                  → sheet (difference_size * listed') out' ≡ sheet (difference_size * listed) out → Walks out' first' listed'
              walking_on s f e =
                  let stays = both_true (eqb was code) (eqb is other) s in
                  let a = eqb-true was code stays.0 in
                  let b = eqb-true is other stays.1 in
                  let l : difference_size * listed' ≡ difference_size * listed = ap (λ (t : Sheet). t.long) e in
                  record {
                    low = omega (arith, f, w.low, end_low);
                    near = omega (arith, f, w.near);
                    few = omega (arith, f, l, w.few);
                    was_old = sym a ∙ w.was_old ∙ ap (codes old) (sym f);
                    is_new = sym b ∙ w.is_new ∙ ap (codes new) (sym f);
                    left_old = pick (eqb p end) (w.left_old - 1) w.left_old;
                    left_new = pick (eqb q end) (w.left_new - 1) w.left_new;
                    at_old = at_old;
                    at_new = at_new;
                    same =
                        ap (λ (k : ℕ). listing (stretches elevation azimuth (codes old) (codes new) k (end + 1) (kilometres - (end + 1)))
                        (sheet (difference_size * listed') out')) f
                        ∙ ap (λ (t : Sheet). listing (stretches elevation azimuth (codes old) (codes new) first (end + 1)
                        (kilometres - (end + 1))) t) e
                        ∙ ap (λ (ds : List Difference). listing ds (sheet (difference_size * listed) out))
                        (sym
                        (part_stays elevation azimuth (codes old) (codes new) first next end end_low end-high
                        (λ k l u. (sym w.was_old ∙ a ∙ sym (code-on k l u), sym w.is_new ∙ b ∙ sym (other-on k l u)))))
                        ∙ w.same;
                  }

              -- where one changes, the stretch is listed, and another one begins
              walking-turn : both (eqb was code) (eqb is other) ≡ false → first' ≡ next
                  → sheet (difference_size * listed') out' ≡ listing (stretch elevation azimuth (λ k. was) (λ k. is) first next)
                  (sheet (difference_size * listed) out) → Walks out' first' listed'
              walking-turn s f e =
                  let begun = stretches elevation azimuth (codes old) (codes new) next (end + 1) (kilometres - (end + 1)) in
                  let ended = stretch elevation azimuth (codes old) (codes new) first next in
                  record {
                    low = omega (arith, f, end_low);
                    near = omega (arith, f, near);
                    few = omega (arith, f, turn-few listed' out' s e);
                    was_old = sym code-next ∙ ap (codes old) (sym f);
                    is_new = sym other-next ∙ ap (codes new) (sym f);
                    left_old = pick (eqb p end) (w.left_old - 1) w.left_old;
                    left_new = pick (eqb q end) (w.left_new - 1) w.left_new;
                    at_old = at_old;
                    at_new = at_new;
                    same =
                        ap (λ (k : ℕ). listing (stretches elevation azimuth (codes old) (codes new) k (end + 1) (kilometres - (end + 1)))
                        (sheet (difference_size * listed') out')) f
                        ∙ ap (λ (t : Sheet). listing begun t)
                        (e ∙ ap (λ (ds : List Difference). listing ds (sheet (difference_size * listed) out))
                        (stretch_coded elevation azimuth first next was is (codes old) (codes new) w.was_old w.is_new))
                        ∙ sym (listing-append ended begun (sheet (difference_size * listed) out))
                        ∙ ap (λ (ds : List Difference). listing ds (sheet (difference_size * listed) out))
                        (sym
                        (part-ends elevation azimuth (codes old) (codes new) first next end end_low end-high (stay-is ∙ s)
                        (λ k l u. (code-next ∙ sym (code-on k l u), other-next ∙ sym (other-on k l u)))))
                        ∙ w.same;
                  }

              -- both as the loop has it
              pub walking-next : first' ≡ pick (not (eqb was code) || not (eqb is other)) next first
                  → sheet (difference_size * listed') out'
                  ≡ listing (one_if ((not (eqb was code) || not (eqb is other)) && not (eqb was is)) elevation azimuth first next
                  was is) (sheet (difference_size * listed) out)
                  → (next < end + 1) × (end ≤ last_kilometre) × Walks out' first' listed'
              walking-next f e = (
                omega (arith, end_low),
                end-high,
                go (both (eqb was code) (eqb is other)) refl (f ∙ ap (λ (t : Bool). pick t next first) changes)
                    (e ∙ ap (λ (t : Bool). listing (one_if (t && not (eqb was is)) elevation azimuth first next was is)
                    (sheet (difference_size * listed) out)) changes),
              )
                where
                  changes : not (eqb was code) || not (eqb is other) ≡ not (both (eqb was code) (eqb is other))
                  changes = one_changes (eqb was code) (eqb is other)

                  go : (t : Bool) → both (eqb was code) (eqb is other) ≡ t → first' ≡ pick (not t) next first
                      → sheet (difference_size * listed') out'
                      ≡ listing (one_if (not t && not (eqb was is)) elevation azimuth first next was is)
                      (sheet (difference_size * listed) out) → Walks out' first' listed'
                  go true s g q = walking_on s g q
                  go false s g q =
                      walking-turn s g (q ∙ ap (λ (ds : List Difference). listing ds (sheet (difference_size * listed) out))
                      (stretch_if elevation azimuth first next was is))

    -- past the last kilometre the open stretch is the last
    pub walking-done : {out : List ℕ} {i j next first was is listed : ℕ} → Walking old new elevation azimuth count out₀ out i j
        next first was is listed → last_kilometre < next
        → listing (one_if (not (eqb was is)) elevation azimuth first next was is) (sheet (difference_size * listed) out)
        ≡ listing (zones_differences elevation azimuth old new) (sheet (difference_size * count) out₀)
    walking-done {out} {i} {j} {next} {first} {was} {is} {listed} w far =
        ap (λ (ds : List Difference). listing ds (sheet (difference_size * listed) out))
        (stretch_if elevation azimuth first next was is
        ∙ stretch_coded elevation azimuth first next was is (codes old) (codes new) w.was_old w.is_new
        ∙ sym (stretches_last elevation azimuth (codes old) (codes new) first next (kilometres - next) (omega arith)))
        ∙ w.same
