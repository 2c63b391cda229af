-- The segments that were written, as a set: none is absent, and joined they are the body. Assumes nothing.
use Prim.Native.Nat.{ℕ, zero, suc, ◌+◌, ◌≤◌, ◌<◌}
use native.Mathlib.Omega.{arith}
use mathlib.Core.Path.{◌≡◌, refl, sym, ap, ◌∙◌}
use mathlib.Core.Bool.{true, not}
use mathlib.Core.Option.{Option, some}
use mathlib.Core.List.{List, [], ◌∷◌, flatten}
use lib.ListN.{length, get_or, take}
use lib.Seq.{take-suc, take_all}
use borrow.Author.Tests.{le-ltb, eq-eqb, ne_eqb}
use Rattle.wire.proofs.ListLaws.{flatten_more}
use Rattle.wire.specs.Checks.{AllHold}
use Rattle.wire.specs.Sizes.{bytes}
use Rattle.wire.specs.Answers.{given, refusal}
use Rattle.wire.proofs.CheckLaws.{decide-none, none_broken}
use Rattle.set_spec.specs.Segment.{Segment, numbered, found, or_nothing, header_numbered, data_numbered}
use Rattle.set_spec.specs.Walk.{seen, all_seen, joined, body_of, end_checks, finish}
use Rattle.set_spec.specs.Theorems.{accepted}
use Rattle.header.specs.Header.{header_size}
use Rattle.writer_head.specs.Head.{header_for}
use Rattle.writer_head.specs.declared.Given.{Given}
use Rattle.round_trip.specs.Theorems.{first_of}
use Rattle.round_trip.proofs.WalkBack.{segment, written}

-- each number that was written is met, with its own data
met : (g : Given) (n k : ℕ) (parts : List (List ℕ)) (m j : ℕ) → k + m ≡ j → m < length parts
    → numbered (written g n k parts) j ≡ some (segment g n j (get_or parts m []))
unfolding written numbered
met g n k [] m j e h = absurd (omega arith)
met g n k (part ∷ parts) zero j e h = let z : k ≡ j = omega arith in simp (eq-eqb k j z) (rw z refl)
met g n k (part ∷ parts) (suc m) j e h = simp (ne_eqb k j (λ z. omega arith)) (met g n (k + 1) parts m j (omega arith) (omega arith))

module _ (g : Given) (n : ℕ) (parts : List (List ℕ)) where
  all_met : (m : ℕ) → m ≤ length parts → all_seen (written g n 1 parts) m ≡ true
  unfolding all_seen
  all_met zero h = refl
  all_met (suc m) h = simp (all_met m (omega arith), met g n 1 parts m (suc m) (omega arith) (omega arith))

  joined-met : (m : ℕ) → m ≤ length parts → joined (written g n 1 parts) m ≡ flatten (take m parts)
  unfolding joined flatten
  joined-met zero h = refl
  joined-met (suc m) h =
      let d : data_numbered (written g n 1 parts) (suc m) ≡ get_or parts m [] =
      ap (λ (o : Option Segment). (or_nothing o).content) (met g n 1 parts m (suc m) (omega arith) (omega arith))
      in
      simp (joined-met m (omega arith), d, take-suc parts m [] (omega arith)) (sym (flatten_more (take m parts) (get_or parts m [])))

-- the end of the walk: nothing is absent, the room suffices
pub finish_back : (g : Given) (n : ℕ) (parts : List (List ℕ)) (body room : List ℕ) → length parts ≡ n → 0 < length parts
    → flatten parts ≡ body → length body ≤ length room
    → finish (given (written g n 1 parts)) room ≡ accepted (header_for g n 1 (bytes (header_size + length (first_of parts)))) body room
unfolding written
finish_back g n [] body room e h j r = absurd (omega arith)
finish_back g n (part ∷ parts) body room e h j r =
    let all = part ∷ parts in
    let gs = written g n 1 all in
    let one = met g n 1 all 0 1 (omega arith) (omega arith) in
    let met1 : seen gs 1 ≡ true = ap found one in
    let metAll : all_seen gs n ≡ true = all_met g n all n (omega arith) in
    let b : body_of gs ≡ body = joined-met g n all n (omega arith) ∙ ap flatten (take_all n all (omega arith)) ∙ j in
    let size = bytes (header_size + length part) in
    let hd : header_numbered gs 1 ≡ header_for g n 1 size = ap (λ (o : Option Segment). (or_nothing o).header) one in
    let ends : AllHold (end_checks gs (length room)) =
    (ap not met1, (ap not metAll, (rw b (le-ltb (length room) (length body) r), tt)))
    in
    decide-none (end_checks gs (length room)) (refusal room) (accepted (header_numbered gs 1) (body_of gs) room)
    (none_broken (end_checks gs (length room)) ends)
    ∙ (λ i. accepted (hd i) (b i) room)
