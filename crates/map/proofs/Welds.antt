-- What the contract of each public function says of a call, as Rattle reads it from src/ (`Learnt`): its promise, and that no two results
-- of one call meet it. Assumes nothing.
use mathlib.Core.Path.{◌≡◌}
use Rattle.wire.proofs.AnswerLaws.{only_answer}
use Rattle.wire.proofs.RefusalLaws.{tell_apart}
use Rattle.std.specs.Prelude.{ℕ, Result}
use Rattle.wire.specs.declared.refusal.Refusal.{Refusal}
use Rattle.map_spec.specs.Reading.{code_of, summary_of}
use Rattle.map.specs.Told.{tell_code, tell_map}
use Rattle.map.specs.declared.MapSummary.{MapSummary}
use Rattle.map.proofs.check_map.Reads as check_map
use Rattle.map.proofs.code_at.Reads as code_at

pub map_apart : (a b : Result MapSummary Refusal) → tell_map a ≡ tell_map b → a ≡ b
map_apart = tell_apart (λ s. record { date = s.date; minutes = s.minutes; elevations = s.elevations })
    (λ x y e. λ i. record { date = (e i).date; minutes = (e i).minutes; elevations = (e i).elevations })

pub code_apart : (a b : Result ℕ Refusal) → tell_code a ≡ tell_code b → a ≡ b
code_apart = tell_apart (λ code. code) (λ x y e. e)

pub check_map-says : (κs body r last : _) → check_map.Learnt κs (body, tt) r last → tell_map r ≡ summary_of body.now
check_map-says κs body r last l = l

pub check_map-one : (κs body r r₂ last last₂ : _) → check_map.Learnt κs (body, tt) r last → check_map.Learnt κs (body, tt) r₂ last₂ → r ≡ r₂
check_map-one κs body r r₂ last last₂ l l₂ = only_answer tell_map map_apart (summary_of body.now) r r₂ l l₂

pub code_at-says : (κs body elevation azimuth kilometre r last : _)
    → code_at.Learnt κs (body, (elevation, (azimuth, (kilometre, tt)))) r last
    → tell_code r ≡ code_of body.now elevation azimuth kilometre
code_at-says κs body elevation azimuth kilometre r last l = l

pub code_at-one : (κs body elevation azimuth kilometre r r₂ last last₂ : _)
    → code_at.Learnt κs (body, (elevation, (azimuth, (kilometre, tt)))) r last
    → code_at.Learnt κs (body, (elevation, (azimuth, (kilometre, tt)))) r₂ last₂ → r ≡ r₂
code_at-one κs body elevation azimuth kilometre r r₂ last last₂ l l₂ =
    only_answer tell_code code_apart (code_of body.now elevation azimuth kilometre) r r₂ l l₂
