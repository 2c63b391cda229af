-- What the contract of each public function says of a call, as Rattle reads it from src/ (`Learnt`): its promise, and that no two results
-- of one call meet it. Assumes nothing.
use mathlib.Core.Path.{◌≡◌, refl}
use Rattle.std.specs.Prelude.{Result}
use Rattle.wire.specs.declared.refusal.Refusal.{Refusal}
use Rattle.wire.proofs.AnswerLaws.{only_answer}
use Rattle.wire.proofs.RefusalLaws.{tell_apart}
use Rattle.wire.proofs.CheckLaws.{never}
use Rattle.wire.specs.Numbers.{num}
use Rattle.gate_value.specs.Told.{meaning, tell_gate}
use Rattle.gate_value.specs.Value.{gate_of, value_of}
use Rattle.gate_value.specs.declared.Gate.{Gate}
use Rattle.gate_value.specs.declared.Gate.TheVariants.{Value, BelowThreshold, RangeFolded}
use Rattle.gate_value.proofs.value.Reads as value
use Rattle.gate_value.proofs.gate_value.Reads as gate_value

meaning_apart : (a b : Gate) → meaning a ≡ meaning b → a ≡ b
meaning_apart (Value v) (Value w) e = cc e
meaning_apart (Value v) BelowThreshold e = never (cc e)
meaning_apart (Value v) RangeFolded e = never (cc e)
meaning_apart BelowThreshold (Value w) e = never (cc e)
meaning_apart BelowThreshold BelowThreshold e = refl
meaning_apart BelowThreshold RangeFolded e = never (cc e)
meaning_apart RangeFolded (Value w) e = never (cc e)
meaning_apart RangeFolded BelowThreshold e = never (cc e)
meaning_apart RangeFolded RangeFolded e = refl

pub gate_apart : (a b : Result Gate Refusal) → tell_gate a ≡ tell_gate b → a ≡ b
gate_apart = tell_apart meaning meaning_apart

pub value-says : (κs code scale offset r last : _) → value.Learnt κs (code, (scale, (offset, tt))) r last
    → tell_gate r ≡ value_of code scale offset
value-says κs code scale offset r last l = l

pub value-one : (κs code scale offset r r₂ last last₂ : _) → value.Learnt κs (code, (scale, (offset, tt))) r last
    → value.Learnt κs (code, (scale, (offset, tt))) r₂ last₂ → r ≡ r₂
value-one κs code scale offset r r₂ last last₂ l l₂ = only_answer tell_gate gate_apart (value_of code scale offset) r r₂ l l₂

pub gate_value-says : (κs body name gate r last : _) → gate_value.Learnt κs (body, (name, (gate, tt))) r last
    → tell_gate r ≡ gate_of body.now (num 4 name 0) gate
gate_value-says κs body name gate r last l = l

pub gate_value-one : (κs body name gate r r₂ last last₂ : _) → gate_value.Learnt κs (body, (name, (gate, tt))) r last
    → gate_value.Learnt κs (body, (name, (gate, tt))) r₂ last₂ → r ≡ r₂
gate_value-one κs body name gate r r₂ last last₂ l l₂ = only_answer tell_gate gate_apart (gate_of body.now (num 4 name 0) gate) r r₂ l l₂
