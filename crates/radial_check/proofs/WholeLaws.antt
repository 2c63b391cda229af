-- The steps of the check together are the rule. Assumes nothing.
use Prim.Native.Nat.{ℕ, ◌-◌}
use mathlib.Core.Path.{◌≡◌, sym, ap, ◌∙◌}
use mathlib.Core.List.{List, []}
use Rattle.wire.specs.Checks.{decide}
use Rattle.wire.specs.Answers.{Answer, refused, given, number_of, rule}
use Rattle.wire.proofs.CheckLaws.{all_hold, decide-map}
use Rattle.wire.proofs.AnswerLaws.{rule_given}
use Rattle.radial_spec.specs.Description.{Description, constants, radial_pointer, moment_pointer, first_place}
use Rattle.radial_spec.specs.Refusal.{size_in, count_in, description, header_checks, constants_checks, moments_checks, end_at, radial_of}
use Rattle.radial_spec.proofs.Held.{Started, start_holds}
use Rattle.radial_check.specs.Steps.{start_of, constants_of, moments_of}
use Rattle.radial_check.proofs.ChainLaws.{stops, goes, given_is}

pub started : (b : List ℕ) (z n : ℕ) → given (z, n) ≡ start_of b → Started b z n
started b z n e =
    let h = all_hold (header_checks b []) (rule_given (header_checks b []) (size_in b, count_in b) (z, n) (sym e)).0 in
    let v = given_is (header_checks b []) (size_in b, count_in b) (z, n) e in
    let s : z ≡ size_in b = ap (λ (p : ℕ × ℕ). p.0) v in
    let k : n ≡ count_in b = ap (λ (p : ℕ × ℕ). p.1) v in
    rw (s, k) (start_holds b [] h)

module _ (b : List ℕ) where
  abbrev moments : Answer Description
  moments = rule (moments_checks (size_in b) b (end_at b radial_pointer) moment_pointer [] (count_in b - constants)) (description b)

  abbrev blocks : Answer Description
  blocks = decide (constants_checks b (first_place (count_in b)) []) refused moments

  pub no_start : (k : ℕ) → refused k ≡ start_of b → k ≡ number_of (radial_of b)
  unfolding radial_of
  no_start k e = ap number_of (stops (header_checks b []) (size_in b, count_in b) k refused blocks e)

  module _ (z n : ℕ) (start : given (z, n) ≡ start_of b) where
    begun : blocks ≡ radial_of b
    unfolding radial_of
    begun = goes (header_checks b []) (size_in b, count_in b) (z, n) refused blocks start

    pub no-constants : (k : ℕ) → refused k ≡ constants_of b (first_place (count_in b)) → k ≡ number_of (radial_of b)
    no-constants k e = ap number_of (stops (constants_checks b (first_place (count_in b)) [])
        (end_at b radial_pointer) k refused moments e ∙ begun)

    pub the-moments : (end r : ℕ) → given end ≡ constants_of b (first_place (count_in b)) → r ≡ moments_of b z end (n - constants)
        → r ≡ number_of (radial_of b)
    the-moments end r three e =
        let s = started b z n start in
        let from = given_is (constants_checks b (first_place (count_in b)) []) (end_at b radial_pointer) end three in
        let ks = moments_checks (size_in b) b (end_at b radial_pointer) moment_pointer [] (count_in b - constants) in
        e
        ∙ (λ i. moments_of b (s.size i) (from i) (s.count i - constants))
        ∙ sym (decide-map number_of ks refused (given (description b)))
        ∙ ap number_of (goes (constants_checks b (first_place (count_in b)) []) (end_at b radial_pointer) end refused moments three ∙ begun)
