-- What the contract of each public function says of a call, as Rattle reads it from src/ (`Learnt`): its promise, and that no two results
-- of one call meet it. Assumes nothing.
use mathlib.Core.Path.{◌≡◌, sym, ◌∙◌}
use Rattle.radial_spec.specs.Refusal.{radial_of}
use Rattle.wire.specs.Answers.{number_of}
use Rattle.wire.specs.Refusals.{number_in}
use Rattle.wire.proofs.RefusalLaws.{number_in-apart}
use Rattle.radial_check.proofs.check_radial.Reads as check_radial

pub check_radial-says : (κs body r last : _) → check_radial.Learnt κs (body, tt) r last → number_in r ≡ number_of (radial_of body.now)
check_radial-says κs body r last l = l

pub check_radial-one : (κs body r r₂ last last₂ : _) → check_radial.Learnt κs (body, tt) r last
    → check_radial.Learnt κs (body, tt) r₂ last₂ → r ≡ r₂
check_radial-one κs body r r₂ last last₂ l l₂ = number_in-apart r r₂ (l ∙ sym l₂)
