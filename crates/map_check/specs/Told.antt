-- What the check of a part means: the bytes that it takes, or the number of its refusal.
use Rattle.std.specs.Prelude.{ℕ, List, Result}
use Rattle.form_spec.specs.Parts.{Part, run_size, run_checks}
use Rattle.wire.specs.Answers.{Answer, rule}
use Rattle.wire.specs.Refusals.{tell}
use Rattle.wire.specs.declared.refusal.Refusal.{Refusal}

abbrev pub tell_step : Result ℕ Refusal → Answer ℕ
tell_step = tell (λ size. size)

-- the check of one part, and of `count` parts in a row: the bytes that they take, or a refusal
abbrev pub part_step : {A : Type 0} → Part A → List ℕ → Answer ℕ
part_step part b = rule (part.checks b) (part.size b)

abbrev pub run_step : {A : Type 0} → Part A → ℕ → List ℕ → Answer ℕ
run_step part count b = rule (run_checks part count b) (run_size part count b)
