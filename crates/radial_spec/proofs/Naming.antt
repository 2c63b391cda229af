-- What a description names, byte by byte, and that nothing else changes an answer. Assumes nothing.
use Prim.Native.Nat.{ℕ, zero, suc, ◌+◌, ◌-◌, ◌*◌, ◌/◌, ◌≤◌, ◌<◌}
use native.Mathlib.Omega.{arith}
use mathlib.Core.Path.{◌≡◌, refl, sym, ap, subst, ◌∙◌}
use mathlib.Core.Bool.{Bool, true, false}
use mathlib.Core.Logic.{inl, inr}
use mathlib.Core.List.{List, [], ◌∷◌, ◌++◌, map}
use lib.Dec.{eqb}
use lib.ListN.{length, get_or, drop}
use Rattle.wire.specs.Numbers.{num, Octets}
use Rattle.wire.specs.Checks.{pick}
use Rattle.wire.specs.Tables.{field, render, total, Spells}
use Rattle.wire.specs.Answers.{given}
use Rattle.wire.proofs.CheckLaws.{never}
use Rattle.wire.proofs.ListLaws.{same_bytes}
use Rattle.wire.proofs.TableLaws.{render-length, spelt, nums_spell, total-run}
use Rattle.wire.proofs.AnswerLaws.{rule_given}
use Rattle.wire.proofs.NumberLaws.{nums-length, nums_at}
use Rattle.radial_spec.specs.Description.{header_size, constants, RVOL, RELV, RRAD, moment_head, most_gates, word_sizes, Member, Piece}
use Rattle.radial_spec.specs.Description.{Moment, Description, block_count, gates}
use Rattle.radial_spec.specs.Description.{word_bytes, gate_bytes, moment_fields, moment_size, moment_pieces, pieces, InPieces, Named, AllStand}
use Rattle.radial_spec.specs.Description.{Layout, MomentsLie, block_end, moment_end, first_pointer, moment_pointer}
use Rattle.radial_spec.specs.Refusal.{size_in, pointer, part, moment_at, moments_at, count_in, description, radial_checks, radial_of}
use Rattle.radial_spec.specs.Refusal.{head_in}
use Rattle.radial_spec.specs.Lookups.{moment_named, moment_of, coded_of, Lying, moment_lying, blocks, no_such, lies, block_of, gates_in}
use Rattle.radial_spec.specs.Lookups.{gates_of}
use Rattle.radial_spec.specs.Theorems.{InBlocks, Listed, NamedExactly, UnnamedPlaces, Unnamed, CodeAt, GateWords}
use Rattle.wire.proofs.OnwardLaws.{onward_given}
use Rattle.radial_spec.proofs.Runs.{part_spelt_from}
use Rattle.radial_spec.proofs.Accepted.{block-total, moment-total, places-total, accepted, agreed}

-- ---- the bytes that are named
moments_in : (ms : List Moment) (i : ℕ) → InPieces (moment_pieces ms) i → InBlocks (map moment_lying ms) i
moments_in [] i h = h
moments_in (m ∷ ms) i (inl h) = inl (h.0, omega (arith, h.1, moment-total m))
moments_in (m ∷ ms) i (inr h) = inr (moments_in ms i h)

in_moments : (ms : List Moment) (i : ℕ) → InBlocks (map moment_lying ms) i → InPieces (moment_pieces ms) i
in_moments [] i h = h
in_moments (m ∷ ms) i (inl h) = inl (h.0, omega (arith, h.1, moment-total m))
in_moments (m ∷ ms) i (inr h) = inr (in_moments ms i h)

named_listed : (d : Description) (i : ℕ) → Named d i → Listed d i
named_listed d i (inl h) = inl (omega (arith, h.1), λ e. omega (arith, h.1))
named_listed d i (inr (inl h)) = inl (omega (arith, h.1), λ e. omega (arith, h.0))
named_listed d i (inr (inr (inl h))) = inr (inl (h.0, omega (arith, h.1, places-total d.moments)))
named_listed d i (inr (inr (inr (inl h)))) = inr (inr (inl (h.0, omega (arith, h.1, block-total RVOL d.volume_block))))
named_listed d i (inr (inr (inr (inr (inl h))))) = inr (inr (inr (inl (h.0, omega (arith, h.1, block-total RELV d.elevation_block)))))
named_listed d i (inr (inr (inr (inr (inr (inl h)))))) =
    inr (inr (inr (inr (inl (h.0, omega (arith, h.1, block-total RRAD d.radial_block))))))
named_listed d i (inr (inr (inr (inr (inr (inr h)))))) = inr (inr (inr (inr (inr (moments_in d.moments i h)))))

listed_named : (d : Description) (i : ℕ) → Listed d i → Named d i
listed_named d i (inl h) = go (i - 16) refl
  where
    go : (n : ℕ) → i - 16 ≡ n → Named d i
    go zero e = inl (omega arith, omega arith)
    go (suc zero) e = absurd (h.1 (omega arith))
    go (suc (suc n)) e = inr (inl (omega arith, omega (arith, h.0)))
listed_named d i (inr (inl h)) = inr (inr (inl (h.0, omega (arith, h.1, places-total d.moments))))
listed_named d i (inr (inr (inl h))) = inr (inr (inr (inl (h.0, omega (arith, h.1, block-total RVOL d.volume_block)))))
listed_named d i (inr (inr (inr (inl h)))) = inr (inr (inr (inr (inl (h.0, omega (arith, h.1, block-total RELV d.elevation_block))))))
listed_named d i (inr (inr (inr (inr (inl h))))) =
    inr (inr (inr (inr (inr (inl (h.0, omega (arith, h.1, block-total RRAD d.radial_block)))))))
listed_named d i (inr (inr (inr (inr (inr h))))) = inr (inr (inr (inr (inr (inr (in_moments d.moments i h))))))

pub named_exactly : NamedExactly
named_exactly d i = (λ h. named_listed d i h, λ h. listed_named d i h)

-- ---- the bytes that are not
-- the moments lie after what ends at `from`, within the radial length
in_lying : (from z : ℕ) (seen : List ℕ) (ms : List Moment) (i : ℕ) → MomentsLie from z seen ms → InBlocks (map moment_lying ms) i
    → (from ≤ i) × (i < z)
in_lying from z seen [] i lie h = absurd h
in_lying from z seen (m ∷ ms) i lie (inl h) = (omega (arith, lie.0.after, h.0), omega (arith, lie.0.within, h.1))
in_lying from z seen (m ∷ ms) i lie (inr h) =
    let r = in_lying (moment_end m) z (seen ++ (m.name ∷ [])) ms i lie.1 h in
    (omega (arith, lie.0.after, r.0), r.1)

-- all blocks lie after the header
in_layout : (n : ℕ) (d : Description) (i : ℕ) → Layout n d → InBlocks (blocks d) i → (header_size ≤ i) × (i < d.size)
in_layout n d i lay (inl h) = (omega (arith, lay.volume.after, h.0), omega (arith, lay.volume.within, h.1))
in_layout n d i lay (inr (inl h)) =
    (omega (arith, lay.volume.after, lay.elevation.after, h.0), omega (arith, lay.elevation.within, h.1))
in_layout n d i lay (inr (inr (inl h))) =
    (omega (arith, lay.volume.after, lay.elevation.after, lay.radial.after, h.0), omega (arith, lay.radial.within, h.1))
in_layout n d i lay (inr (inr (inr h))) =
    let r = in_lying (block_end d.radial_block) d.size [] d.moments i lay.moments_lie h in
    (omega (arith, lay.volume.after, lay.elevation.after, lay.radial.after, r.0), r.1)

pub unnamed_places : UnnamedPlaces
unnamed_places b d o e = record {
  spare = λ h. spare (named_listed d 17 h);
  slots = λ i lo hi h. slots i lo hi (named_listed d i h);
  gaps = λ i lo out h. gaps i lo out (named_listed d i h);
  past = λ i lo h. past i lo (named_listed d i h);
}
  where
    lay : Layout (length b) d
    lay = (agreed b d o e).0

    spare : Listed d 17 → ⊥
    spare (inl h) = h.1 refl
    spare (inr (inl h)) = omega (arith, h.0)
    spare (inr (inr h)) = let r = in_layout (length b) d 17 lay h in omega (arith, r.0)

    slots : (i : ℕ) → first_pointer + 4 * block_count d ≤ i → i < header_size → Listed d i → ⊥
    slots i lo hi (inl h) = omega (arith, lo, h.0)
    slots i lo hi (inr (inl h)) = omega (arith, lo, h.1)
    slots i lo hi (inr (inr h)) = let r = in_layout (length b) d i lay h in omega (arith, hi, r.0)

    gaps : (i : ℕ) → header_size ≤ i → (InBlocks (blocks d) i → ⊥) → Listed d i → ⊥
    gaps i lo out (inl h) = omega (arith, lo, h.0)
    gaps i lo out (inr (inl h)) = omega (arith, lo, h.1, lay.few)
    gaps i lo out (inr (inr h)) = out h

    past : (i : ℕ) → d.size ≤ i → Listed d i → ⊥
    past i lo (inl h) = omega (arith, lo, h.0, lay.least)
    past i lo (inr (inl h)) = omega (arith, lo, h.1, lay.few, lay.least)
    past i lo (inr (inr h)) = let r = in_layout (length b) d i lay h in omega (arith, lo, r.1)

-- ---- bodies that are equal at every named byte
stand_same : (b b' : List ℕ) (xs : List Piece) → length b' ≡ length b → ((i : ℕ) → InPieces xs i → get_or b' i 0 ≡ get_or b i 0) → AllStand b xs
    → AllStand b' xs
stand_same b b' [] e f s = tt
stand_same b b' (x ∷ xs) e f s = (
  same_bytes b b' x.place (length (render x.fields)) e
      (λ i lo hi. f i (inl (lo, omega (arith, hi, render-length x.fields)))) ∙ s.0,
  stand_same b b' xs e (λ i h. f i (inr h)) s.1,
)

-- ---- what a lookup found
-- a moment that is found is one of the moments
found_named : (name : ℕ) (ms : List Moment) (m : Moment) → moment_named name ms ≡ given m → (i : ℕ) → m.place ≤ i
    → i < m.place + moment_size m
    → InPieces (moment_pieces ms) i
found_named name [] m e i lo hi = never (cc e)
found_named name (x ∷ ms) m e i lo hi = go (eqb x.name name) e (λ k. found_named name ms m k i lo hi)
  where
    go : (t : Bool) → pick t (given x) (moment_named name ms) ≡ given m → (moment_named name ms ≡ given m → InPieces (moment_pieces ms) i)
        → InPieces (moment_pieces (x ∷ ms)) i
    go true k later =
        let q : x ≡ m = cc k in
        let within : i < m.place + total (moment_fields m) = omega (arith, moment-total m) in
        inl (subst (λ (y : Moment). (y.place ≤ i) × (i < y.place + total (moment_fields y))) (sym q) (lo, within))
    go false k later = inr (later k)

-- a block that is found is one of the blocks
found-block : (ks : List Lying) (k : ℕ) (l : Lying) → get_or (map lies ks) k no_such ≡ lies l → (i : ℕ) → l.place ≤ i
    → i < l.place + l.size → InBlocks ks i
found-block [] k l e i lo hi = never (cc e)
found-block (x ∷ ks) zero l e i lo hi = let q : x ≡ l = cc e in inl (rw q (lo, hi))
found-block (x ∷ ks) (suc k) l e i lo hi = inr (found-block ks k l e i lo hi)

block_listed : (d : Description) (k : ℕ) (l : Lying) → get_or (no_such ∷ map lies (blocks d)) k no_such ≡ lies l → (i : ℕ)
    → l.place ≤ i → i < l.place + l.size
    → Named d i
block_listed d zero l e i lo hi = never (cc e)
block_listed d (suc k) l e i lo hi = listed_named d i (inr (inr (found-block (blocks d) k l e i lo hi)))

pub unnamed : Unnamed
unfolding moment_of block_of gates_of coded_of
unnamed b b' d o e given-d same =
    let h = agreed b d o given-d in
    let lay : Layout (length b') d = rw e h.0 in
    let again : radial_of b' ≡ radial_of b =
    accepted b' d lay (stand_same b b' (pieces d) e same h.1) ∙ sym given-d
    in
    record {
      radial = again;
      moment = λ name. rw again refl;
      block = λ k. rw again refl;
      gates = λ name. rw again refl;
      codes = λ name p k.
          let g = onward_given (moment_of b name) (λ m. given (gates_in m)) p k in
          let r = onward_given (radial_of b) (λ x. moment_named name x.moments) g.value g.was in
          let x : r.value ≡ d = cc (r.was, given-d) in
          let q : gates_in g.value ≡ p = cc g.gave in
          rw (← q)
          (same_bytes b b' (g.value.place + moment_head) (gate_bytes g.value) e
          (λ i lo hi. same i
          (inr (inr
          (inr (inr (inr (inr (found_named name d.moments g.value (rw x at r.gave) i (omega arith) (omega arith))))))))));
      code = λ name gate. rw again refl;
      whole = λ k l h.
          let r = onward_given (radial_of b) (λ x. given (get_or (no_such ∷ map lies (blocks x)) k no_such)) (lies l) h in
          let x : r.value ≡ d = cc (r.was, given-d) in
          let q : get_or (no_such ∷ map lies (blocks d)) k no_such ≡ lies l = cc (rw x at r.gave) in
          same_bytes b b' l.place l.size e (λ i lo hi. same i (block_listed d k l q i lo hi));
    }

-- ---- a moment that is found was read at its place
record ReadAt (b : List ℕ) (m : Moment) : Type 0 where
  at : ℕ
  reads : moment_at at (drop at b) ≡ m

found-read : (b : List ℕ) (name q n : ℕ) (m : Moment) → moment_named name (moments_at b q n) ≡ given m → ReadAt b m
found-read b name q zero m e = never (cc e)
found-read b name q (suc n) m e = go (eqb (moment_at (pointer b q) (part b q)).name name) e (λ k. found-read b name (q + 4) n m k)
  where
    go : (t : Bool) → pick t (given (moment_at (pointer b q) (part b q))) (moment_named name (moments_at b (q + 4) n)) ≡ given m
        → (moment_named name (moments_at b (q + 4) n) ≡ given m → ReadAt b m) → ReadAt b m
    go true k later = record { at = pointer b q; reads = cc k }
    go false k later = later k

-- code i of what is read at p
read-code : (p : ℕ) (l : List ℕ) (i : ℕ) → i < gates (moment_at p l)
    → get_or (moment_at p l).codes i 0 ≡ num (word_bytes (moment_at p l)) l (moment_head + i * word_bytes (moment_at p l))
read-code p l i h =
    nums_at ((head_in l).word / 8) l moment_head (head_in l).gates i (omega (
      arith,
      h,
      nums-length
          ((head_in l).word / 8) l moment_head (head_in l).gates,
    ))

-- a moment that a radial answers with, by the moments that are read
moment_of_lem : (b : List ℕ) (name : ℕ) (m : Moment) → moment_of b name ≡ given m
    → (radial_of b ≡ given (description b)) × (moment_named name (description b).moments ≡ given m)
unfolding moment_of radial_of
moment_of_lem b name m e =
    let r = onward_given (radial_of b) (λ x. moment_named name x.moments) m e in
    let d : description b ≡ r.value = (rule_given (radial_checks b) (description b) r.value r.was).1 in
    (r.was ∙ ap given (sym d), ap (λ (x : Description). moment_named name x.moments) d ∙ r.gave)

-- it is what is read at its place
pub found_at : (b : List ℕ) (name : ℕ) (m : Moment) → moment_of b name ≡ given m → moment_at m.place (drop m.place b) ≡ m
found_at b name m e =
    let w = found-read b name moment_pointer (count_in b - constants) m (moment_of_lem b name m e).1 in
    subst (λ (x : Moment). moment_at x.place (drop x.place b) ≡ x) w.reads refl

pub code_at : CodeAt
code_at b name m i e h =
    let w = found-read b name moment_pointer (count_in b - constants) m (moment_of_lem b name m e).1 in
    subst
    (λ (x : Moment). i < gates x → get_or x.codes i 0 ≡ num (word_bytes x) (drop x.place b) (moment_head + i * word_bytes x)) w.reads
    (λ k. read-code w.at (drop w.at b) i k) h

-- a moment that is found lies as the layout says: its gates, its word size, and its end within the radial length
found_within : (name z from : ℕ) (seen : List ℕ) (ms : List Moment) (m : Moment) → moment_named name ms ≡ given m → MomentsLie from z seen ms
    → (gates m ≤ most_gates) × Member m.word word_sizes × (moment_end m ≤ z)
found_within name z from seen [] m e lie = never (cc e)
found_within name z from seen (x ∷ ms) m e lie =
    go (eqb x.name name) e (λ k. found_within name z (moment_end x) (seen ++ (x.name ∷ [])) ms m k lie.1)
  where
    go : (t : Bool) → pick t (given x) (moment_named name ms) ≡ given m
        → (moment_named name ms ≡ given m → (gates m ≤ most_gates) × Member m.word word_sizes × (moment_end m ≤ z))
        → (gates m ≤ most_gates) × Member m.word word_sizes × (moment_end m ≤ z)
    go true k later = let q : x ≡ m = cc k in rw (← q) (lie.0.few, lie.0.words, lie.0.within)
    go false k later = later k

pub found-sized : (b : List ℕ) (name : ℕ) (m : Moment) → Octets b → moment_of b name ≡ given m
    → (gates m ≤ most_gates) × Member m.word word_sizes × (moment_end m ≤ size_in b)
found-sized b name m o e =
    let f = moment_of_lem b name m e in
    let lay = (agreed b (description b) o f.0).0 in
    found_within name (size_in b) (block_end (description b).radial_block) [] (description b).moments m f.1 lay.moments_lie

pub found_lies : (b : List ℕ) (name : ℕ) (m : Moment) → Octets b → moment_of b name ≡ given m
    → (gates m ≤ most_gates) × Member m.word word_sizes × (moment_end m ≤ length b)
found_lies b name m o e =
    let w = found-sized b name m o e in
    let lay = (agreed b (description b) o (moment_of_lem b name m e).0).0 in
    (w.0, w.1, omega (arith, w.2, lay.most))

pub gate-words : GateWords
gate-words b name m o e =
    let f = moment_of_lem b name m e in
    let end = (found_lies b name m o e).2 in
    let within : (gates_in m).place + (gates_in m).size ≤ length b = omega (arith, end) in
    let w = found-read b name moment_pointer (count_in b - constants) m f.1 in
    let run = map (field (word_bytes m)) m.codes in
    let s : Spells b (m.place + moment_head) run =
    subst
    (λ (x : Moment). Spells b (x.place + moment_head) (map (field (word_bytes x)) x.codes)) w.reads
    (part_spelt_from (map (field (word_bytes (moment_at w.at (drop w.at b)))) (moment_at w.at (drop
    w.at b)).codes) b w.at moment_head
    (nums_spell (num 1 (drop w.at b) 19 / 8) (drop w.at b) moment_head (num 2 (drop w.at b) 8)))
    in
    let long : length (render run) ≡ gate_bytes m = render-length run ∙ total-run (word_bytes m) m.codes in
    (within, rw (← long) (spelt run b (m.place + moment_head) o (omega (arith, total-run (word_bytes m) m.codes)) s))
