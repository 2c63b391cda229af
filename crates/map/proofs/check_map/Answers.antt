use mathlib.Core.Path.{◌≡◌, ap, ◌∙◌}
use Rattle.std.proofs.lemmas.Result.{err_from_is_err_and}
use Rattle.wire.specs.Answers.{given}
use Rattle.map_spec.specs.Reading.{Summary}
use Rattle.map.proofs.BodyLaws.{map-stop, map-given}
use Rattle.map.proofs.check_map.Goals as goal

pub returns-in_err-check_body : goal.returns-in_err-check_body
returns-in_err-check_body c =
    let p = err_from_is_err_and c.from_residual.result c.from_residual.ensures.1 in
    rw (p.1, p.2) (map-stop _ _ _ c.in_err-check_body.ensures)

pub returns : goal.returns
returns c =
    let s : ◌≡◌ {A = Summary} _ _
    = λ i. record { date = c.fetch.ensures i; minutes = c.fetch-2.ensures i; elevations = c.fetch-3.ensures i } in
    ap given s ∙ map-given _ _ _ c.in_ok-check_body.ensures
