-- The theorems that specs/Theorems.antt states. Assumes nothing.
use Prim.Native.Nat.{ℕ, ◌-◌, ◌≤◌, ◌<◌}
use native.Mathlib.Omega.{arith}
use mathlib.Core.Path.{◌≡◌, sym, ap, ◌∙◌, subst}
use mathlib.Core.List.{List, []}
use lib.ListN.{length, get_or}
use Rattle.wire.proofs.EachLaws.{each_at}
use Rattle.wire.specs.Answers.{refused, given, rule}
use Rattle.wire.proofs.CheckLaws.{all_hold, none_broken, decide-none, decide-some, decide-append}
use Rattle.wire.proofs.AnswerLaws.{rule_given, rule_refused}
use Rattle.map_spec.specs.Map.{azimuths, FilterMap, map_bytes, AzimuthInRange, ElevationInRange, InRange, zones_at, code_at}
use Rattle.map_spec.specs.Reading.{segments_in, map_checks, map_in, map_of, summary, asked_checks}
use Rattle.map_spec.specs.Theorems.{AcceptedExactly, OneMap, OneCode, CheckAnswers, QueryAnswers, RefusedFirst}
use Rattle.map_spec.proofs.Accepted.{accepted_range, accepted-bytes}
use Rattle.map_spec.proofs.Rendered.{rendered_pass, rendered_read, segments_is}
use Rattle.map_spec.proofs.Coverage.{one-zone}

rendered_accepted : (m : FilterMap) → InRange m → map_of (map_bytes m) ≡ given m
rendered_accepted m r =
    decide-none (map_checks (map_bytes m)) refused (given (map_in (map_bytes m))) (none_broken (map_checks (map_bytes m)) (rendered_pass m r))
    ∙ ap given (rendered_read m r)

pub accepted_exactly : AcceptedExactly
accepted_exactly b o m = (there, back)
  where
    there : map_of b ≡ given m → InRange m × (b ≡ map_bytes m)
    there e =
        let p = rule_given (map_checks b) (map_in b) m e in
        let h = all_hold (map_checks b) p.0 in
        (subst InRange p.1 (accepted_range b o h), accepted-bytes b o h ∙ ap (λ (n : FilterMap). map_bytes n) p.1)

    back : InRange m × (b ≡ map_bytes m) → map_of b ≡ given m
    back p = ap (λ (l : List ℕ). map_of l) p.1 ∙ rendered_accepted m p.0

pub one_map : OneMap
one_map m n r s e = sym (rendered_read m r) ∙ ap (λ (l : List ℕ). map_in l) e ∙ rendered_read n s

pub azimuth_in_range : (m : FilterMap) → InRange m → (elevation azimuth : ℕ) → 1 ≤ elevation → elevation ≤ length m.elevations
    → azimuth < azimuths → AzimuthInRange (zones_at m elevation azimuth)
azimuth_in_range m r elevation azimuth low high around =
    let e = each_at ElevationInRange m.elevations [] (elevation - 1) r.each (omega arith) in
    each_at AzimuthInRange (get_or m.elevations (elevation - 1) []) [] azimuth e.each (omega (arith, e.all))

pub one_code : OneCode
one_code m r elevation azimuth kilometre low high around far =
    one-zone (zones_at m elevation azimuth) kilometre (azimuth_in_range m r elevation azimuth low high around) far

pub check-answers : CheckAnswers
check-answers m r =
    decide-none (map_checks (map_bytes m)) refused (given (summary (map_in (map_bytes m)))) (none_broken (map_checks (map_bytes m))
    (rendered_pass m r))
    ∙ ap (λ (n : FilterMap). given (summary n)) (rendered_read m r)

pub query_answers : QueryAnswers
query_answers m r elevation azimuth kilometre =
    let b = map_bytes m in
    let ask = asked_checks (segments_in b) elevation azimuth kilometre in
    decide-append (map_checks b) ask refused (given (code_at (map_in b) elevation azimuth kilometre))
    ∙ decide-none (map_checks b) refused (rule ask (code_at (map_in b) elevation azimuth kilometre))
    (none_broken (map_checks b) (rendered_pass m r))
    ∙ ap (λ (n : ℕ). rule (asked_checks n elevation azimuth kilometre) (code_at (map_in b) elevation azimuth kilometre)) (segments_is m r)
    ∙ ap (λ (n : FilterMap). rule (asked_checks (length m.elevations) elevation azimuth kilometre)
    (code_at n elevation azimuth kilometre)) (rendered_read m r)

pub refused-first : RefusedFirst
refused-first b n e =
    let p = rule_refused (map_checks b) (map_in b) n e in (
      decide-some (map_checks b) refused (given (summary (map_in b))) n p,
      λ elevation azimuth kilometre.
          let ask = asked_checks (segments_in b) elevation azimuth kilometre in
          let v = code_at (map_in b) elevation azimuth kilometre in
          decide-append (map_checks b) ask refused (given v) ∙ decide-some (map_checks b) refused (rule ask v) n p,
    )
