-- What the checks of an accepted radial leave known, and that its number tells an acceptance from a refusal. Assumes nothing.
use Prim.Native.Nat.{ℕ, zero, suc, ◌+◌, ◌-◌, ◌*◌, ◌≤◌, ◌<◌}
use native.Mathlib.Nat.{add-zero}
use native.Mathlib.Omega.{arith}
use mathlib.Core.Path.{◌≡◌, refl, sym, ap, ◌∙◌}
use mathlib.Core.Bool.{Bool, true, false}
use mathlib.Core.Option.{some}
use mathlib.Core.List.{List, [], ◌∷◌, ◌++◌}
use lib.Dec.{eqb}
use lib.ListN.{length}
use borrow.Author.Tests.{ltb-false, eqb-false}
use Rattle.wire.specs.Checks.{Check, first, pick, AllHold}
use Rattle.wire.specs.Answers.{Answer, refused, given, number_of}
use Rattle.wire.specs.Refusals.{number}
use Rattle.wire.specs.declared.refusal.Refusal.{Refusal}
use Rattle.wire.proofs.CheckLaws.{all_hold, never}
use Rattle.wire.proofs.AnswerLaws.{rule_given, rule_refused}
use Rattle.wire.proofs.RefusalLaws.{number-above}
use Rattle.radial_spec.specs.Description.{constants, Description, header_size, fewest_blocks, most_blocks, volume_pointer}
use Rattle.radial_spec.specs.Description.{elevation_pointer, radial_pointer, moment_pointer, first_place, RVOL, RELV, RRAD}
use Rattle.radial_spec.specs.Description.{volume_least, elevation_least, radial_least, constant_head, moment_head}
use Rattle.radial_spec.specs.Refusal.{size_in, count_in, pointer, part, name_in, block_says, moment_says, description, header_checks}
use Rattle.radial_spec.specs.Refusal.{constants_checks, moments_checks, end_at}
use Rattle.radial_spec.specs.Refusal.{radial_checks, radial_of, constant_checks}

-- what the header's checks leave known
pub record Started (b : List ℕ) (z n : ℕ) : Type 0 where
  pub long : header_size ≤ length b
  pub size : z ≡ size_in b
  pub count : n ≡ count_in b
  pub inside : z ≤ length b
  pub some : fewest_blocks ≤ n
  pub few : n ≤ most_blocks

pub start_holds : (b : List ℕ) (rest : List Check) → AllHold (header_checks b rest) → Started b (size_in b) (count_in b)
start_holds b rest h = record {
  long = ltb-false (length b) header_size h.0;
  size = refl;
  count = refl;
  inside = ltb-false (length b) (size_in b) h.1.1.1.0;
  some = ltb-false (count_in b) fewest_blocks h.1.1.1.1.0;
  few = ltb-false most_blocks (count_in b) h.1.1.1.1.1.0;
}

-- ---- what the checks of an accepted radial leave known
-- the constant block that the pointer at q points at
pub record BlockHeld (b : List ℕ) (q : ℕ) : Type 0 where
  pub inside : pointer b q + constant_head ≤ length b
  pub says : constant_head ≤ block_says (part b q)

-- what the pointer at q points at is a moment's head in the body, after the header
pub record HeadHeld (b : List ℕ) (q : ℕ) : Type 0 where
  pub after : header_size ≤ pointer b q
  pub inside : pointer b q + moment_head ≤ length b

pub record Held (b : List ℕ) : Type 0 where
  pub start : Started b (size_in b) (count_in b)
  pub volume : BlockHeld b volume_pointer
  pub elevation : BlockHeld b elevation_pointer
  pub radial : BlockHeld b radial_pointer
  pub moment : (i : ℕ) → i < count_in b - constants → HeadHeld b (moment_pointer + 4 * i)

moment-held : (z : ℕ) (b : List ℕ) (from q : ℕ) (seen : List ℕ) (n i : ℕ) → AllHold (moments_checks z b from q seen n) → i < n
    → (from ≤ pointer b (q + 4 * i)) × (pointer b (q + 4 * i) + moment_head ≤ z)
moment-held z b from q seen zero i h l = absurd (omega arith)
moment-held z b from q seen (suc n) zero h l =
    rw (add-zero q) (ltb-false (pointer b q) from h.0, ltb-false z (pointer b q + moment_head) h.1.0)
moment-held z b from q seen (suc n) (suc i) h l =
    let p = pointer b q in
    let e : q + 4 + 4 * i ≡ q + 4 * suc i = omega arith in
    let later = moment-held z b (p + moment_says (part b q)) (q + 4) (seen ++ (name_in (part b q) ∷ [])) n i
    h.1.1.1.1.1.1.1 (omega arith) in
    let first = ltb-false p from h.0 in
    rw (← e) (omega (arith, later.0, first), later.1)

-- the constant block whose pointer stands at q, by its first checks
block_held : (b : List ℕ) (q from name least : ℕ) (rest : List Check) → size_in b ≤ length b → constant_head ≤ least
    → AllHold (constant_checks b from q name least rest) → (from ≤ pointer b q) × BlockHeld b q
block_held b q from name least rest inside six h =
    let room = ltb-false (size_in b) (pointer b q + constant_head) h.1.0 in
    let enough = ltb-false (block_says (part b q)) least h.1.1.1.0 in
    (ltb-false (pointer b q) from h.0, record { inside = omega (arith, room, inside); says = omega (arith, enough, six) })

pub held : (b : List ℕ) (d : Description) → radial_of b ≡ given d → Held b
unfolding radial_of
held b d e =
    let h = all_hold (radial_checks b) (rule_given (radial_checks b) (description b) d e).0 in
    let k = h.1.1.1.1.1.1 in
    let l = k.1.1.1.1.1 in
    let m = l.1.1.1.1.1 in
    let ms = moments_checks (size_in b) b (end_at b radial_pointer) moment_pointer [] (count_in b - constants) in
    let rs = constant_checks b (end_at b elevation_pointer) radial_pointer RRAD radial_least ms in
    let es = constant_checks b (end_at b volume_pointer) elevation_pointer RELV elevation_least rs in
    let s = start_holds b (constants_checks b (first_place (count_in b)) ms) h in
    let v = block_held b volume_pointer (first_place (count_in b)) RVOL volume_least es s.inside (omega arith) k in
    let w = block_held b elevation_pointer (end_at b volume_pointer) RELV elevation_least rs s.inside (omega arith) l in
    let x = block_held b radial_pointer (end_at b elevation_pointer) RRAD radial_least ms s.inside (omega arith) m in
    record {
      start = s;
      volume = v.1;
      elevation = w.1;
      radial = x.1;
      moment = λ i n.
          let y = moment-held (size_in b) b (end_at b radial_pointer) moment_pointer [] (count_in b - constants) i m.1.1.1.1.1 n in
          record { after = omega (arith, y.0, v.0, w.0, x.0); inside = omega (arith, y.1, s.inside) };
    }

-- ---- no refusal of a radial has the number 0
abbrev numbered : List Check → Bool
numbered [] = true
numbered (k ∷ ks) = pick (eqb k.number 0) false (numbered ks)

first-numbered : (n : ℕ) (ks : List Check) → numbered ks ≡ true → first ks ≡ some n → eqb n 0 ≡ false
first-numbered n [] h e = never (cc e)
first-numbered n (k ∷ ks) h e = go (eqb k.number 0) k.broken refl h e (λ p q. first-numbered n ks p q)
  where
    go : (s t : Bool) → eqb k.number 0 ≡ s → pick s false (numbered ks) ≡ true → pick t (some k.number) (first ks) ≡ some n
        → (numbered ks ≡ true → first ks ≡ some n → eqb n 0 ≡ false) → eqb n 0 ≡ false
    go true t z p q later = never (cc p)
    go false true z p q later = let i : k.number ≡ n = cc q in ap (λ (m : ℕ). eqb m 0) (sym i) ∙ z
    go false false z p q later = later p q

moments_numbered : (z : ℕ) (b : List ℕ) (from q : ℕ) (seen : List ℕ) (n : ℕ) → numbered (moments_checks z b from q seen n) ≡ true
moments_numbered z b from q seen zero = refl
moments_numbered z b from q seen (suc n) =
    moments_numbered z b (pointer b q + moment_says (part b q)) (q + 4) (seen ++ (name_in (part b q) ∷ [])) n

pub refused_above_0 : (b : List ℕ) (n : ℕ) → radial_of b ≡ refused n → eqb n 0 ≡ false
unfolding radial_of
refused_above_0 b n e =
    first-numbered n (radial_checks b)
    (moments_numbered (size_in b) b (end_at b radial_pointer) moment_pointer [] (count_in b - constants))
    (rule_refused (radial_checks b) (description b) n e)

-- ---- so the number tells
-- what is accepted is what is read
pub accepted_is : (b : List ℕ) (d : Description) → radial_of b ≡ given d → d ≡ description b
unfolding radial_of
accepted_is b d e = sym (rule_given (radial_checks b) (description b) d e).1

pub number_given : (b : List ℕ) → 0 ≡ number_of (radial_of b) → radial_of b ≡ given (description b)
number_given b e = go (radial_of b) refl
  where
    go : (a : Answer Description) → radial_of b ≡ a → radial_of b ≡ given (description b)
    go (refused n) q = absurd (eqb-false n 0 (refused_above_0 b n q) (sym (e ∙ ap number_of q)))
    go (given d) q = q ∙ ap given (accepted_is b d q)

pub number_refused : (b : List ℕ) (r : Refusal) → number r ≡ number_of (radial_of b) → radial_of b ≡ refused (number r)
number_refused b r e = go (radial_of b) refl
  where
    go : (a : Answer Description) → radial_of b ≡ a → radial_of b ≡ refused (number r)
    go (refused n) q = q ∙ ap refused (sym (e ∙ ap number_of q))
    go (given d) q = absurd (omega (arith, number-above r, e ∙ ap number_of q))
