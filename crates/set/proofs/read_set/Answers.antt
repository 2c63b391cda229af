use mathlib.Core.Path.{sym, ◌∙◌}
use Rattle.std.proofs.lemmas.Result.{err_from_is_err_and}
use Rattle.set.proofs.SetLaws.{met_is, broken_off, one-absent, some-absent, too_small, accepts}
use Rattle.set.proofs.read_set.Goals as goal

pub returns-in_err-gather : goal.returns-in_err-gather
returns-in_err-gather c =
    let p = err_from_is_err_and c.from_residual.result c.from_residual.ensures.1 in
    rw (p.1, p.2) (broken_off c.gather.ensures _ c.in_err-gather.was)

pub returns-then-not-met : goal.returns-then-not-met
returns-then-not-met c = one-absent (met_is c.gather.ensures c.in_ok-gather.was) _ c.if-not-met.true

pub returns-then-not-all_seen : goal.returns-then-not-all_seen
returns-then-not-all_seen c =
    some-absent (met_is c.gather.ensures c.in_ok-gather.was) _ c.if-not-met.false (sym c.all_seen.ensures ∙ c.if-not-all_seen.true)

pub returns-then-out-long : goal.returns-then-out-long
returns-then-out-long c =
    too_small (met_is c.gather.ensures c.in_ok-gather.was) _ c.if-not-met.false (sym c.all_seen.ensures ∙ c.if-not-all_seen.false)
    c.joined_length-long.ensures.0 c.if-out-long.true

pub returns : goal.returns
returns c =
    accepts (met_is c.gather.ensures c.in_ok-gather.was) _ c.if-not-met.false (sym c.all_seen.ensures ∙ c.if-not-all_seen.false)
    c.joined_length-long.ensures.0 c.if-out-long.false c.join.ensures
