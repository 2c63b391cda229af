-- `exactly` and `unique`: every check holds exactly if a description has its layout in the body and agrees with it. Assumes nothing.
use Prim.Native.Nat.{ℕ, zero, suc, ◌+◌, ◌-◌, ◌*◌, ◌≤◌}
use native.Mathlib.Omega.{arith}
use mathlib.Core.Path.{◌≡◌, refl, sym, ap, subst, ◌∙◌}
use mathlib.Core.Bool.{false, not}
use mathlib.Core.List.{List, [], ◌∷◌, ◌++◌}
use lib.Dec.{ltb, eqb}
use lib.ListN.{length}
use borrow.Author.Tests.{ltb-false, eqb-true, not-false, le-ltb, eq-eqb}
use Rattle.wire.specs.Numbers.{num, Octets}
use Rattle.wire.specs.Checks.{Check, AllHold}
use Rattle.wire.specs.Tables.{total, Spells}
use Rattle.wire.specs.Answers.{refused, given}
use Rattle.wire.proofs.CheckLaws.{all_hold, none_broken, decide-none}
use Rattle.wire.proofs.AnswerLaws.{rule_given}
use Rattle.wire.proofs.TableLaws.{total-run}
use Rattle.radial_spec.specs.Description.{header_size, constants, fewest_blocks, most_blocks, first_place, RVOL, RELV, RRAD, volume_least}
use Rattle.radial_spec.specs.Description.{elevation_least, radial_least, Block, Moment, Description, block_count}
use Rattle.radial_spec.specs.Description.{word_bytes, block_size, moment_size, block_fields, moment_fields, moment_places, header_before}
use Rattle.radial_spec.specs.Description.{header_after, pointers, moment_pieces, pieces}
use Rattle.radial_spec.specs.Description.{Agrees, BlockLies, MomentsLie, Layout, block_end, moment_end, size_place, first_pointer}
use Rattle.radial_spec.specs.Description.{volume_pointer, elevation_pointer, radial_pointer, moment_pointer, compression_place}
use Rattle.radial_spec.specs.Refusal.{size_in, count_in, pointer, part, name_in, block_at, moment_at, moments_at, description, block_says}
use Rattle.radial_spec.specs.Refusal.{moment_says}
use Rattle.radial_spec.specs.Refusal.{moments_checks, constant_checks, end_at}
use Rattle.radial_spec.specs.Refusal.{radial_checks, radial_of}
use Rattle.radial_spec.specs.Theorems.{Exactly, Unique}
use Rattle.radial_spec.proofs.Pieces.{AllSpell, AllWithin, all_spell, all_stand, all_fit}
use Rattle.radial_spec.proofs.Blocks.{block_reads, block_holds, block_size_lem, block_lies, block_spelt, block_end_lem, block_is}
use Rattle.radial_spec.proofs.Blocks.{block_read, moment_reads, moment_holds, moment_size_lem, moment_lies, moment_spelt, moment_name}
use Rattle.radial_spec.proofs.Blocks.{moment_end_lem, moment_is, moment-read}

-- ---- read: the moments
pub moments_length : (b : List ℕ) (q n : ℕ) → length (moments_at b q n) ≡ n
moments_length b q zero = refl
moments_length b q (suc n) = ap suc (moments_length b (q + 4) n)

moments_lie : (b : List ℕ) (z from q : ℕ) (seen : List ℕ) (n : ℕ) → AllHold (moments_checks z b from q seen n)
    → MomentsLie from z seen (moments_at b q n)
moments_lie b z from q seen zero h = tt
moments_lie b z from q seen (suc n) h =
    let p = pointer b q in
    let l = part b q in
    let r = moment_reads q z from p l seen h in (
      moment_lies z from p l seen r.0,
      rw (moment_size_lem p l) (moments_lie b z (p + moment_says l) (q + 4)
          (seen ++ (name_in l ∷ [])) n r.1),
    )

moments_spelt : (b : List ℕ) (q n : ℕ) → AllSpell b (moment_pieces (moments_at b q n))
moments_spelt b q zero = tt
moments_spelt b q (suc n) = (moment_spelt b (pointer b q), moments_spelt b (q + 4) n)

places_spelt : (b : List ℕ) (q n : ℕ) → Spells b q (moment_places (moments_at b q n))
places_spelt b q zero = tt
places_spelt b q (suc n) = (refl, places_spelt b (q + 4) n)

-- ---- the pieces end within the body
pub block-total : (name : ℕ) (k : Block) → total (block_fields name k) ≡ block_size k
block-total name k = omega (arith, total-run 1 k.rest)

pub moment-total : (m : Moment) → total (moment_fields m) ≡ moment_size m
moment-total m = omega (arith, total-run (word_bytes m) m.codes)

pub places-total : (ms : List Moment) → total (moment_places ms) ≡ 4 * length ms
places-total [] = refl
places-total (m ∷ ms) = omega (arith, places-total ms)

moments_within : (n z from : ℕ) (seen : List ℕ) (ms : List Moment) → z ≤ n → MomentsLie from z seen ms → AllWithin n (moment_pieces ms)
moments_within n z from seen [] h lie = tt
moments_within n z from seen (m ∷ ms) h lie =
    (omega (arith, moment-total m, lie.0.within), moments_within n z (moment_end m) (seen ++ (m.name ∷ [])) ms h lie.1)

-- the used pointers end before the first place
slots : (count : ℕ) → count ≤ most_blocks → first_pointer + 4 * count ≤ first_place count
slots count h = omega arith

pieces-within : (n : ℕ) (d : Description) → Layout n d → AllWithin n (pieces d)
pieces-within n d lay =
    let block : (name from least : ℕ) (k : Block) → BlockLies from least d.size k → k.place + total (block_fields name k) ≤ n =
    λ name from least k lies. omega (arith, block-total name k, lies.within, lay.most)
    in
    let header : first_pointer ≤ n = omega (arith, lay.least, lay.most) in
    let first : first_place (block_count d) ≤ n = omega (arith, lay.volume.after, lay.volume.within, lay.most) in
    let used : first_pointer + total (pointers d) ≤ n = omega (arith, slots (block_count d) lay.few, places-total d.moments) in
    let v = block RVOL _ _ d.volume_block lay.volume in
    let e = block RELV _ _ d.elevation_block lay.elevation in
    let r = block RRAD _ _ d.radial_block lay.radial in
    let ms = moments_within n d.size (block_end d.radial_block) [] d.moments lay.most lay.moments_lie in
    (omega arith, (omega arith, (used, (v, (e, (r, ms))))))

-- ---- read: every check holds, so what is read has the layout of a radial and agrees
sound : (b : List ℕ) → Octets b → AllHold (radial_checks b) → Layout (length b) (description b) × Agrees b (description b)
sound b o h =
    let d = description b in
    let z = size_in b in
    let size-least : header_size ≤ z = ltb-false z header_size h.1.1.0 in
    let count-least : fewest_blocks ≤ count_in b = ltb-false (count_in b) fewest_blocks h.1.1.1.1.0 in
    let count_most : count_in b ≤ most_blocks = ltb-false most_blocks (count_in b) h.1.1.1.1.1.0 in
    let counted : count_in b ≡ block_count d = omega (arith, moments_length b moment_pointer (count_in b - constants)) in
    let v = block_reads volume_pointer z (first_place (count_in b)) (pointer b volume_pointer)
    (part b volume_pointer) RVOL volume_least h.1.1.1.1.1.1 in
    let e = block_reads elevation_pointer z (end_at b volume_pointer) (pointer b elevation_pointer)
    (part b elevation_pointer) RELV elevation_least v.1 in
    let r = block_reads radial_pointer z (end_at b elevation_pointer) (pointer b radial_pointer)
    (part b radial_pointer) RRAD radial_least e.1 in
    let v-size : block_size d.volume_block ≡ block_says (part b volume_pointer) = block_size_lem (pointer b volume_pointer)
    (part b volume_pointer) (omega (arith, v.0.enough)) in
    let e-size : block_size d.elevation_block ≡ block_says (part b elevation_pointer) = block_size_lem (pointer b elevation_pointer)
    (part b elevation_pointer)
    (omega (arith, e.0.enough)) in
    let r-size : block_size d.radial_block ≡ block_says (part b radial_pointer) = block_size_lem (pointer b radial_pointer)
    (part b radial_pointer) (omega (arith, r.0.enough)) in
    let uncompressed : num 1 b compression_place ≡ 0 = eqb-true (num 1 b compression_place) 0 (not-false _ h.1.0) in
    let before : Spells b 0 (header_before d) = (refl, (refl, (refl, (refl, (refl, (uncompressed, tt)))))) in
    let after : Spells b size_place (header_after d) = (refl, (refl, (refl, (refl, (refl, (refl, (refl, (refl, (counted, tt))))))))) in
    let used : Spells b first_pointer (pointers d) = (refl, (refl, (refl, places_spelt b moment_pointer (count_in b - constants)))) in
    let v-spelt = block_spelt b z (first_place (count_in b)) (pointer b volume_pointer) RVOL volume_least (omega arith) v.0 in
    let e-spelt = block_spelt b z (end_at b volume_pointer) (pointer b elevation_pointer) RELV elevation_least (omega arith) e.0 in
    let r-spelt = block_spelt b z (end_at b elevation_pointer) (pointer b radial_pointer) RRAD radial_least (omega arith) r.0 in
    let m-spelt = moments_spelt b moment_pointer (count_in b - constants) in
    let spelt : AllSpell b (pieces d) = (before, (after, (used, (v-spelt, (e-spelt, (r-spelt, m-spelt)))))) in
    let lay : Layout (length b) d =
    record {
      fit = all_fit b (pieces d) o spelt;
      least = size-least;
      most = ltb-false (length b) z h.1.1.1.0;
      some = rw (← counted) count-least;
      few = rw (← counted) count_most;
      volume =
          subst
          (λ (n : ℕ). BlockLies (first_place n) volume_least z d.volume_block) counted
          (block_lies z (first_place (count_in b)) (pointer b volume_pointer) (part b volume_pointer) RVOL volume_least (omega arith) v.0);
      elevation = rw v-size (block_lies z (end_at b volume_pointer) (pointer b elevation_pointer)
          (part b elevation_pointer) RELV elevation_least (omega arith) e.0);
      radial = rw e-size (block_lies z (end_at b elevation_pointer) (pointer b radial_pointer)
          (part b radial_pointer) RRAD radial_least (omega arith) r.0);
      moments_lie = rw r-size (moments_lie b z (end_at b radial_pointer) moment_pointer [] (count_in b - constants) r.1);
    }
    in
    (lay, all_stand b (pieces d) o (pieces-within (length b) d lay) spelt)

-- ---- described: the moments
moments_are : (b : List ℕ) (q : ℕ) (ms : List Moment) → Spells b q (moment_places ms) → AllSpell b (moment_pieces ms)
    → moments_at b q (length ms) ≡ ms
moments_are b q [] p s = refl
moments_are b q (m ∷ ms) p s =
    let e : moment_at (pointer b q) (part b q) ≡ m = rw p.0 (moment_is b m s.0) in
    cc (e, moments_are b (q + 4) ms p.1 s.1)

moments_hold : (b : List ℕ) (z from q : ℕ) (seen : List ℕ) (ms : List Moment) → MomentsLie from z seen ms → Spells b q (moment_places ms)
    → AllSpell b (moment_pieces ms) → AllHold (moments_checks z b from q seen (length ms))
moments_hold b z from q seen [] lie p s = tt
moments_hold b z from q seen (m ∷ ms) lie p s =
    let end : pointer b q + moment_says (part b q) ≡ moment_end m = rw p.0 (moment_end_lem b m s.0) in
    let name : name_in (part b q) ≡ m.name = rw p.0 (moment_name b m s.0) in
    let later = moments_hold b z (moment_end m) (q + 4) (seen ++ (m.name ∷ [])) ms lie.1 p.1 s.1 in
    moment_holds q z from (pointer b q) (part b q) seen
    (moments_checks z b (pointer b q + moment_says (part b q)) (q + 4) (seen ++ (name_in (part b q) ∷ [])) (length ms))
    (rw p.0 (moment-read b m s.0 z from seen lie.0)) (rw (end, name) later)

-- ---- described: a constant block, by the pointer at byte q
module _ (b : List ℕ) (q name : ℕ) (k : Block) (e : pointer b q ≡ k.place) (s : Spells b k.place (block_fields name k)) where
  constant_is : block_at (pointer b q) (part b q) ≡ k
  constant_is = rw e (block_is b name k s)

  constant-end : end_at b q ≡ block_end k
  constant-end = rw e (block_end_lem b name k s)

  constant_holds : (from least : ℕ) (rest : List Check) → BlockLies from least (size_in b) k → AllHold rest
      → AllHold (constant_checks b from q name least rest)
  constant_holds from least rest lies h =
      block_holds q (size_in b) from (pointer b q) (part b q) name least rest (rw e (block_read b name k s (size_in b) from least lies)) h

-- a description with other blocks
abbrev pub with_blocks : Description → Block → Block → Block → List Moment → Description
with_blocks d volume elevation radial moments = record {
  station = d.station;
  time = d.time;
  date = d.date;
  azimuth_number = d.azimuth_number;
  azimuth = d.azimuth;
  size = d.size;
  spacing = d.spacing;
  status = d.status;
  elevation_number = d.elevation_number;
  sector = d.sector;
  elevation = d.elevation;
  spot = d.spot;
  indexing = d.indexing;
  volume_block = volume;
  elevation_block = elevation;
  radial_block = radial;
  moments = moments;
}

-- ---- described: every check holds, and what is read is the description
described : (b : List ℕ) (d : Description) → AllSpell b (pieces d) → description b ≡ d
described b d s =
    let f = s.0 in
    let g = s.1.0 in
    let p = s.1.1.0 in
    let n : count_in b - constants ≡ length d.moments = omega (arith, g.1.1.1.1.1.1.1.1.0) in
    let ms : moments_at b moment_pointer (count_in b - constants)
    ≡ d.moments = rw n (moments_are b moment_pointer d.moments p.1.1.1 s.1.1.1.1.1.1) in
    λ i. record {
      station = f.0 i;
      time = f.1.0 i;
      date = f.1.1.0 i;
      azimuth_number = f.1.1.1.0 i;
      azimuth = f.1.1.1.1.0 i;
      size = g.0 i;
      spacing = g.1.0 i;
      status = g.1.1.0 i;
      elevation_number = g.1.1.1.0 i;
      sector = g.1.1.1.1.0 i;
      elevation = g.1.1.1.1.1.0 i;
      spot = g.1.1.1.1.1.1.0 i;
      indexing = g.1.1.1.1.1.1.1.0 i;
      volume_block = constant_is b volume_pointer RVOL d.volume_block p.0 s.1.1.1.0 i;
      elevation_block = constant_is b elevation_pointer RELV d.elevation_block p.1.0 s.1.1.1.1.0 i;
      radial_block = constant_is b radial_pointer RRAD d.radial_block p.1.1.0 s.1.1.1.1.1.0 i;
      moments = ms i;
    }

complete : (b : List ℕ) (d : Description) → Layout (length b) d → AllSpell b (pieces d) → AllHold (radial_checks b)
complete b d lay s =
    let p = s.1.1.0 in
    let size : size_in b ≡ d.size = s.1.0.0 in
    let counted : count_in b ≡ block_count d = s.1.0.1.1.1.1.1.1.1.1.0 in
    let n : count_in b - constants ≡ length d.moments = omega (arith, counted) in
    let v = s.1.1.1.0 in
    let e = s.1.1.1.1.0 in
    let r = s.1.1.1.1.1.0 in
    let afterRadial = moments_checks (size_in b) b (end_at b radial_pointer) moment_pointer [] (count_in b - constants) in
    let afterElevation = constant_checks b (end_at b elevation_pointer) radial_pointer RRAD radial_least afterRadial in
    let afterVolume = constant_checks b (end_at b volume_pointer) elevation_pointer RELV elevation_least afterElevation in
    let moments : AllHold afterRadial =
    rw (n, constant-end b radial_pointer RRAD d.radial_block p.1.1.0 r, size)
    (moments_hold b d.size (block_end d.radial_block) moment_pointer [] d.moments lay.moments_lie p.1.1.1
    s.1.1.1.1.1.1)
    in
    let radial : AllHold afterElevation =
    constant_holds b radial_pointer RRAD d.radial_block p.1.1.0 r (end_at b elevation_pointer) radial_least afterRadial
    (rw (constant-end b elevation_pointer RELV d.elevation_block p.1.0 e, size) lay.radial) moments
    in
    let elevation : AllHold afterVolume =
    constant_holds b elevation_pointer RELV d.elevation_block p.1.0 e (end_at b volume_pointer) elevation_least afterElevation
    (rw (constant-end b volume_pointer RVOL d.volume_block p.0 v, size) lay.elevation) radial
    in
    let volume : AllHold (constant_checks b (first_place (count_in b)) volume_pointer RVOL volume_least afterVolume) =
    constant_holds b volume_pointer RVOL d.volume_block p.0 v (first_place (count_in b)) volume_least afterVolume
    (subst (λ (n : ℕ). BlockLies (first_place n) volume_least (size_in b) d.volume_block) (sym counted) (rw size lay.volume)) elevation
    in
    let c14 : ltb (length b) header_size ≡ false = le-ltb (length b) header_size (omega (arith, lay.least, lay.most)) in
    let c15 : not (eqb (num 1 b compression_place) 0) ≡ false = ap not (eq-eqb (num 1 b compression_place) 0 s.0.1.1.1.1.1.0) in
    let c16 : ltb (size_in b) header_size ≡ false = le-ltb (size_in b) header_size (rw size lay.least) in
    let c16' : ltb (length b) (size_in b) ≡ false = le-ltb (length b) (size_in b) (rw size lay.most) in
    let c17 : ltb (count_in b) fewest_blocks ≡ false = le-ltb (count_in b) fewest_blocks (rw counted lay.some) in
    let c17' : ltb most_blocks (count_in b) ≡ false = le-ltb most_blocks (count_in b) (rw counted lay.few) in
    (c14, (c15, (c16, (c16', (c17, (c17', volume))))))

-- a description that fits and agrees is what is read
pub accepted : (b : List ℕ) (d : Description) → Layout (length b) d → Agrees b d → radial_of b ≡ given d
unfolding radial_of
accepted b d lay agrees =
    let s : AllSpell b (pieces d) = all_spell b (pieces d) lay.fit agrees in
    decide-none (radial_checks b) refused (given (description b)) (none_broken (radial_checks b) (complete b d lay s))
    ∙ ap given (described b d s)

-- what is read, where it is accepted, fits and agrees
pub agreed : (b : List ℕ) (d : Description) → Octets b → radial_of b ≡ given d → Layout (length b) d × Agrees b d
unfolding radial_of
agreed b d o e =
    let g = rule_given (radial_checks b) (description b) d e in
    subst (λ (x : Description). Layout (length b) x × Agrees b x) g.1 (sound b o (all_hold (radial_checks b) g.0))

pub exactly : Exactly
exactly b d o = (λ e. agreed b d o e, λ h. accepted b d h.0 h.1)

pub unique : Unique
unique b d d' h h' = let e : given d ≡ given d' = sym (accepted b d h.0 h.1) ∙ accepted b d' h'.0 h'.1 in cc e

-- the moments of an accepted radial lie one after the other, no name twice: of any body, bytes or not
pub moments_accepted : (b : List ℕ) (d : Description) → radial_of b ≡ given d → MomentsLie (end_at b radial_pointer) (size_in b) [] d.moments
unfolding radial_of
moments_accepted b d e =
    let g = rule_given (radial_checks b) (description b) d e in
    let h = (all_hold (radial_checks b) g.0).1.1.1.1.1.1 in
    subst
    (λ (x : Description). MomentsLie (end_at b radial_pointer) (size_in b) [] x.moments) g.1
    (moments_lie b (size_in b) (end_at b radial_pointer) moment_pointer [] (count_in b - constants)
    h.1.1.1.1.1.1.1.1.1.1.1.1.1.1.1)
