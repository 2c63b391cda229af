-- What the contract of each public function says of a call, as Rattle reads it from src/ (`Learnt`): its promise, and that no two results
-- of one call meet it. Assumes nothing.
use mathlib.Core.Path.{◌≡◌, sym, ◌∙◌}
use Rattle.std.specs.Prelude.{Result}
use Rattle.wire.specs.declared.refusal.Refusal.{Refusal}
use Rattle.wire.proofs.RefusalLaws.{tell_apart}
use Rattle.radial_spec.specs.Refusal.{radial_of}
use Rattle.radial_heading.specs.declared.Heading.{Heading}
use Rattle.radial_heading.specs.Told.{tell_heading, heading_shown}
use Rattle.radial_heading.proofs.read_heading.Reads as read_heading

pub heading_apart : (a b : Result Heading Refusal) → tell_heading a ≡ tell_heading b → a ≡ b
heading_apart = tell_apart (λ h. h) (λ x y e. e)

pub read_heading-says : (κs body r last : _) → read_heading.Learnt κs (body, tt) r last → tell_heading r ≡ heading_shown (radial_of body.now)
read_heading-says κs body r last l = l

pub read_heading-one : (κs body r r₂ last last₂ : _) → read_heading.Learnt κs (body, tt) r last
    → read_heading.Learnt κs (body, tt) r₂ last₂ → r ≡ r₂
read_heading-one κs body r r₂ last last₂ l l₂ = heading_apart r r₂ (l ∙ sym l₂)
