-- A run of checked parts in two, the second from where the first one ends. Assumes nothing.
use Prim.Native.Nat.{ℕ, ◌+◌, ◌-◌, ◌≤◌}
use native.Mathlib.Omega.{arith}
use mathlib.Core.Path.{◌≡◌, sym, ap, ◌∙◌}
use mathlib.Core.Option.{none}
use mathlib.Core.List.{List, ◌++◌}
use lib.ListN.{length, drop}
use Rattle.form_spec.specs.Parts.{Part, run_size, run_checks}
use Rattle.form_spec.proofs.PartLaws.{run-add, checks_add, run_long}
use Rattle.wire.specs.Checks.{Check, first, AllHold}
use Rattle.wire.specs.Answers.{refused, given, rule}
use Rattle.wire.proofs.AnswerLaws.{rule_given, rule_refused}
use Rattle.wire.proofs.CheckLaws.{decide-append, decide-none, decide-some, all_hold}
use Rattle.map_check.specs.Told.{run_step}

-- what is refused is refused whatever else were answered, and by the same number where checks follow
pub still_refused : {A B : Type 0} (ks : List Check) (v : A) (w : B) (n : ℕ) → refused n ≡ rule ks v → refused n ≡ rule ks w
still_refused ks v w n e = sym (decide-some ks refused (given w) n (rule_refused ks v n (sym e)))

pub refused_before : {A B : Type 0} (ks rest : List Check) (v : A) (w : B) (n : ℕ) → refused n ≡ rule ks v
    → refused n ≡ rule (ks ++ rest) w
refused_before ks rest v w n e =
    sym (decide-append ks rest refused (given w) ∙ decide-some ks refused (rule rest w) n (rule_refused ks v n (sym e)))

-- what passes leaves the answer to the checks that follow
pub passed_before : {A B : Type 0} (ks rest : List Check) (v u : A) (w : B) → given u ≡ rule ks v → rule (ks ++ rest) w ≡ rule rest w
passed_before ks rest v u w e = decide-append ks rest refused (given w) ∙ decide-none ks refused (rule rest w) (rule_given ks v u (sym e)).0

module _ {A : Type 0} (part : Part A) (count index : ℕ) (b : List ℕ) (inside : index ≤ count) where
  parted : count ≡ index + (count - index)
  parted = omega arith

  -- the checks of all are those of the first ones and of the rest
  in_two : {B : Type 0} (v : B) → rule (run_checks part count b) v
      ≡ rule (run_checks part index b ++ run_checks part (count - index) (drop (run_size part index b) b)) v
  in_two v =
      ap (λ (k : ℕ). rule (run_checks part k b) v) parted
      ∙ ap (λ (ks : List Check). rule ks v) (checks_add part index (count - index) b)

  pub first_stops : {B : Type 0} (v : B) (k : ℕ) → refused k ≡ run_step part index b → refused k ≡ rule (run_checks part count b) v
  first_stops v k e =
      let rest = run_checks part (count - index) (drop (run_size part index b) b) in
      refused_before (run_checks part index b) rest (run_size part index b) v k e ∙ sym (in_two v)

  module _ (place : ℕ) (e : given place ≡ run_step part index b) where
    pub first_ends : run_size part index b ≡ place
    first_ends = (rule_given (run_checks part index b) (run_size part index b) place (sym e)).1

    second_run : {B : Type 0} (v : B) → rule (run_checks part count b) v ≡ rule (run_checks part (count - index) (drop place b)) v
    second_run v =
        let rest = run_checks part (count - index) (drop (run_size part index b) b) in
        in_two v
        ∙ passed_before (run_checks part index b) rest (run_size part index b) place v e
        ∙ ap (λ (k : ℕ). rule (run_checks part (count - index) (drop k b)) v) first_ends

    pub second-stops : {B : Type 0} (v : B) (k : ℕ) → refused k ≡ run_step part (count - index) (drop place b)
        → refused k ≡ rule (run_checks part count b) v
    second-stops v k f =
        let ks = run_checks part (count - index) (drop place b) in
        still_refused ks (run_size part (count - index) (drop place b)) v k f ∙ sym (second_run v)

    module _ (size : ℕ) (f : given size ≡ run_step part (count - index) (drop place b)) where
      second_passed : (first (run_checks part (count - index) (drop place b)) ≡ none) × (run_size part (count - index) (drop place b) ≡ size)
      second_passed = rule_given (run_checks part (count - index) (drop place b)) (run_size part (count - index) (drop place b)) size (sym f)

      pub both_end : run_size part count b ≡ place + size
      both_end =
          ap (λ (k : ℕ). run_size part k b) parted ∙ run-add part index (count - index) b
          ∙ (λ i. first_ends i + run_size part (count - index) (drop (first_ends i) b))
          ∙ ap (λ (k : ℕ). place + k) second_passed.1

      pub both-pass : {B : Type 0} (v : B) → given v ≡ rule (run_checks part count b) v
      both-pass v = sym (second_run v ∙ decide-none (run_checks part (count - index) (drop place b)) refused (given v) second_passed.0)

-- so many parts that pass lie within the bytes
pub run_fits : {A : Type 0} (part : Part A) → ((b : List ℕ) → AllHold (part.checks b) → part.size b ≤ length b)
    → (count : ℕ) (b : List ℕ) (n : ℕ)
    → given n ≡ run_step part count b → n ≤ length b
run_fits part long count b n e =
    let p = rule_given (run_checks part count b) (run_size part count b) n (sym e) in
    let l = run_long part long count b (all_hold (run_checks part count b) p.0) in
    omega (arith, l, p.1)
