use Prim.Native.Nat.{ℕ, ◌-◌, ◌≤◌}
use native.Mathlib.Omega.{arith}
use mathlib.Core.Path.{◌≡◌, sym, ap, ◌∙◌}
use mathlib.Core.List.{List}
use lib.ListN.{length, take, drop, length-drop}
use Rattle.std.proofs.lemmas.Result.{err_from_is_err_and}
use Rattle.wire.specs.Answers.{Answer, given}
use Rattle.wire.proofs.ListLaws.{part_is}
use Rattle.map_spec.specs.Reading.{azimuth_part}
use Rattle.map_spec.proofs.Accepted.{azimuth_long}
use Rattle.map_check.specs.Told.{run_step}
use Rattle.map.specs.declared.Found.{Found}
use Rattle.map.proofs.StepLaws.{first_stops, first_ends, second-stops, both_end, both-pass, run_fits}
use Rattle.map.proofs.find_azimuth.Goals as goal

-- azimuths that pass lie within the bytes
fits : (n : ℕ) (b : List ℕ) {place : ℕ} → given place ≡ run_step azimuth_part n b → place ≤ length b
fits n b checked = run_fits azimuth_part azimuth_long n b _ checked

-- the second call checks what is left behind the first
behind : (n place : ℕ) (b : List ℕ) {a : Answer ℕ} → a ≡ run_step azimuth_part n (take (length b - place) (drop place b))
    → a ≡ run_step azimuth_part n (drop place b)
behind n place b checked = checked ∙ ap (λ (l : List ℕ). run_step azimuth_part n l) (part_is b place)

pub returns-in_err-place : goal.returns-in_err-place
returns-in_err-place c =
    let p = err_from_is_err_and c.from_residual.result c.from_residual.ensures.1 in
    let a = c.args in
    rw (p.1, p.2) (first_stops azimuth_part a.count a.index a.part.now c.requires _ _ c.in_err-place.ensures)

pub slice_bounds-check_azimuths-count : goal.slice_bounds-check_azimuths-count
slice_bounds-check_azimuths-count c = fits _ _ c.in_ok-place.ensures

pub slice_bounds-check_azimuths-start : goal.slice_bounds-check_azimuths-start
slice_bounds-check_azimuths-start c = omega (arith, fits _ _ c.in_ok-place.ensures)

pub returns-in_err-rest : goal.returns-in_err-rest
returns-in_err-rest c =
    let p = err_from_is_err_and c.from_residual-in_err-rest.result c.from_residual-in_err-rest.ensures.1 in
    let a = c.args in
    rw (p.1, p.2)
    (second-stops azimuth_part a.count a.index a.part.now c.requires _ c.in_ok-place.ensures _ _
    (behind _ c.in_ok-place.place a.part.now c.in_err-rest.ensures))

pub overflow_add-result : goal.overflow_add-result
overflow_add-result c =
    let b = c.args.part.now in
    let first = fits _ _ c.in_ok-place.ensures in
    let second = fits _ _ (behind _ c.in_ok-place.place b c.in_ok-rest.ensures) in
    record { fits = omega (arith, first, second, length-drop c.in_ok-place.place b, c.well_formed.0.0) }

pub returns : goal.returns
returns c =
    let a = c.args in
    let first = c.in_ok-place.ensures in
    let second = behind _ c.in_ok-place.place a.part.now c.in_ok-rest.ensures in
    let size = both_end azimuth_part a.count a.index a.part.now c.requires _ first _ second in
    let place = first_ends azimuth_part a.count a.index a.part.now c.requires _ first in
    let found : ◌≡◌ {A = Found} _ _ = λ i. record { size = sym size i; place = sym place i } in
    ap given found ∙ both-pass azimuth_part a.count a.index a.part.now c.requires _ first _ second _
