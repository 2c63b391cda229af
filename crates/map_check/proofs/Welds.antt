-- What the contract of each public function says of a call, as Rattle reads it from src/ (`Learnt`): its promise, and that no two results
-- of one call meet it. Assumes nothing.
use mathlib.Core.Path.{◌≡◌}
use Rattle.std.specs.Prelude.{ℕ, Result}
use Rattle.wire.specs.declared.refusal.Refusal.{Refusal}
use Rattle.wire.proofs.AnswerLaws.{only_answer}
use Rattle.wire.proofs.RefusalLaws.{tell_apart}
use Rattle.map_spec.specs.Reading.{azimuth_part}
use Rattle.map_check.specs.Told.{tell_step, run_step}
use Rattle.map_check.proofs.check_azimuths.Reads as check_azimuths

pub step_apart : (a b : Result ℕ Refusal) → tell_step a ≡ tell_step b → a ≡ b
step_apart = tell_apart (λ size. size) (λ x y e. e)

pub check_azimuths-says : (κs part count r last : _) → check_azimuths.Learnt κs (part, (count, tt)) r last
    → tell_step r ≡ run_step azimuth_part count part.now
check_azimuths-says κs part count r last l = l

pub check_azimuths-one : (κs part count r r₂ last last₂ : _) → check_azimuths.Learnt κs (part, (count, tt)) r last
    → check_azimuths.Learnt κs (part, (count, tt)) r₂ last₂ → r ≡ r₂
check_azimuths-one κs part count r r₂ last last₂ l l₂ = only_answer tell_step step_apart (run_step azimuth_part count part.now) r r₂ l l₂
