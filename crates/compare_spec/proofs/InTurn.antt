-- Two bodies and a lent output: their checks one after the other. Assumes nothing.
use Prim.Native.Nat.{ℕ}
use mathlib.Core.Path.{◌≡◌, ap, ◌∙◌}
use mathlib.Core.Bool.{Bool, true, false}
use mathlib.Core.List.{List, [], ◌∷◌, ◌++◌}
use lib.Dec.{ltb}
use lib.ListN.{length}
use borrow.Author.Tests.{lt-ltb, le-ltb}
use Rattle.wire.specs.Checks.{pick, decide, AllHold}
use Rattle.wire.specs.Answers.{refused, given, Outcome, refusal}
use Rattle.wire.specs.Writing.{filled, room_check, wrote_all}
use Rattle.wire.proofs.CheckLaws.{none_broken, decide-none, decide-some, decide-append}
use Rattle.wire.proofs.AnswerLaws.{rule_given, rule_refused}
use Rattle.map_spec.specs.Map.{FilterMap}
use Rattle.map_spec.specs.Reading.{map_checks, map_in, map_of}
use Rattle.compare_spec.specs.Differences.{differences}
use Rattle.compare_spec.specs.Comparing.{Comparison, comparison, halfwords, comparison_of}
use Rattle.compare_spec.specs.Theorems.{RefusedInOrder}

-- a body that no check refuses
pub map-given : (b : List ℕ) → AllHold (map_checks b) → map_of b ≡ given (map_in b)
map-given b h = decide-none (map_checks b) refused (given (map_in b)) (none_broken (map_checks b) h)

-- what comes of two maps
abbrev pub answered : List ℕ → FilterMap → FilterMap → Outcome (List ℕ) Comparison
answered out m n = wrote_all [] (comparison m n) (halfwords (differences m n)) out

module _ (old new out : List ℕ) where
  -- the first body's checks, then the second's, then the output's
  in_turn : comparison_of old new out ≡ decide (map_checks old) (refusal out) (decide (map_checks new) (refusal out)
      (answered out (map_in old) (map_in new)))
  in_turn =
      let ks = map_checks old in
      let ls = map_checks new in
      let list = halfwords (differences (map_in old) (map_in new)) in
      let ok : Outcome (List ℕ) Comparison = record { answer = given (comparison (map_in old) (map_in new)); output = filled list out } in
      decide-append (ks ++ ls) (room_check (length out) list ∷ []) (refusal out) ok
      ∙ decide-append ks ls (refusal out) (answered out (map_in old) (map_in new))

  old_bad : (number : ℕ) → map_of old ≡ refused number → comparison_of old new out ≡ refusal out number
  old_bad number e =
      in_turn
      ∙ decide-some (map_checks old) (refusal out) (decide (map_checks new) (refusal out) (answered out (map_in old) (map_in new))) number
      (rule_refused (map_checks old) (map_in old) number e)

  -- the first is accepted
  old_good : (m : FilterMap) → map_of old ≡ given m
      → comparison_of old new out ≡ decide (map_checks new) (refusal out) (answered out m (map_in new))
  old_good m e =
      let p = rule_given (map_checks old) (map_in old) m e in
      in_turn
      ∙ decide-none (map_checks old) (refusal out) (decide (map_checks new) (refusal out) (answered out (map_in old) (map_in new))) p.0
      ∙ ap (λ (k : FilterMap). decide (map_checks new) (refusal out) (answered out k (map_in new))) p.1

  new_bad : (m : FilterMap) (number : ℕ) → map_of old ≡ given m → map_of new ≡ refused number → comparison_of old new out ≡ refusal out number
  new_bad m number e f =
      old_good m e ∙ decide-some (map_checks new) (refusal out) (answered out m (map_in new)) number
      (rule_refused (map_checks new) (map_in new) number f)

  pub both_good : (m n : FilterMap) → map_of old ≡ given m → map_of new ≡ given n → comparison_of old new out ≡ answered out m n
  both_good m n e f =
      let p = rule_given (map_checks new) (map_in new) n f in
      old_good m e ∙ decide-none (map_checks new) (refusal out) (answered out m (map_in new)) p.0
      ∙ ap (λ (k : FilterMap). answered out m k) p.1

  -- the number of a refusal for want of room, or the list
  by_room : (m n : FilterMap) (t : Bool) → map_of old ≡ given m → map_of new ≡ given n
      → ltb (length out) (length (halfwords (differences m n))) ≡ t
      → comparison_of old new out
      ≡ pick t (refusal out 13) (record { answer = given (comparison m n); output = filled (halfwords (differences m n)) out })
  by_room m n t e f h =
      both_good m n e f
      ∙ ap (λ (u : Bool). pick u (refusal out 13)
      (record { answer = given (comparison m n); output = filled (halfwords (differences m n)) out })) h

pub in_order : RefusedInOrder
in_order old new out = record {
  old_bad = old_bad old new out;
  new_bad = new_bad old new out;
  too_little = λ m n e f h. by_room old new out m n true e f (lt-ltb (length out) (length (halfwords (differences m n))) h);
  enough = λ m n e f h. by_room old new out m n false e f (le-ltb (length out) (length (halfwords (differences m n))) h);
}
