use native.Mathlib.Omega.{arith}
use Rattle.std.proofs.lemmas.Result.{err_from_is_err_and}
use Rattle.map.proofs.BodyLaws.{head-stop, head-long, head_most, azimuths-stop, azimuths-fit, place-fits, body-left, body-found}
use Rattle.map.proofs.check_body.Goals as goal

pub returns-in_err-elevations : goal.returns-in_err-elevations
returns-in_err-elevations c =
    let p = err_from_is_err_and c.from_residual.result c.from_residual.ensures.1 in
    rw (p.1, p.2) (head-stop _ _ _ c.in_err-elevations.ensures)

pub overflow_mul-all : goal.overflow_mul-all
overflow_mul-all c =
    let m = head_most _ _ c.in_ok-elevations.ensures in
    record { fits = omega (arith, m) }

pub slice_bounds-find_azimuth-count : goal.slice_bounds-find_azimuth-count
slice_bounds-find_azimuth-count c = omega (arith, head-long _ _ c.in_ok-elevations.ensures)

pub slice_bounds-find_azimuth-start : goal.slice_bounds-find_azimuth-start
slice_bounds-find_azimuth-start c = omega (arith, head-long _ _ c.in_ok-elevations.ensures)

pub find_azimuth-requires : goal.find_azimuth-requires
find_azimuth-requires c = omega (arith, c.min.ensures)

pub returns-in_err-found : goal.returns-in_err-found
returns-in_err-found c =
    let p = err_from_is_err_and c.from_residual-in_err-found.result c.from_residual-in_err-found.ensures.1 in
    rw (p.1, p.2) (azimuths-stop _ _ c.in_ok-elevations.ensures _ _ _ c.in_err-found.ensures)

pub overflow_add-found : goal.overflow_add-found
overflow_add-found c =
    let fit = azimuths-fit _ _ c.in_ok-elevations.ensures _ _ c.in_ok-found.ensures in
    record { fits = omega (arith, c.well_formed.0.0, fit) }

pub returns-then-found-body : goal.returns-then-found-body
returns-then-found-body c = body-left _ _ c.in_ok-elevations.ensures _ _ c.in_ok-found.ensures _ c.if-found-body.true

pub overflow_add-result : goal.overflow_add-result
overflow_add-result c =
    let fit = azimuths-fit _ _ c.in_ok-elevations.ensures _ _ c.in_ok-found.ensures in
    let place = place-fits _ _ c.in_ok-elevations.ensures _ _ c.in_ok-found.ensures (omega (arith, c.min.ensures)) in
    record { fits = omega (arith, c.well_formed.0.0, fit, place) }

pub returns : goal.returns
returns c = body-found _ _ c.in_ok-elevations.ensures _ _ c.in_ok-found.ensures _ c.min.ensures c.if-found-body.false
