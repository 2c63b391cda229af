-- What the contract of each public function says of a call, as Rattle reads it from src/ (`Learnt`): its promise, and that no two results
-- of one call meet it. Assumes nothing.
use mathlib.Core.Path.{◌≡◌}
use Rattle.wire.proofs.AnswerLaws.{only}
use Rattle.wire.proofs.RefusalLaws.{tell_apart}
use Rattle.std.specs.Prelude.{Result}
use Rattle.wire.specs.declared.refusal.Refusal.{Refusal}
use Rattle.wire.specs.Answers.{Promise}
use Rattle.compare_spec.specs.Comparing.{comparison_of}
use Rattle.compare.specs.Told.{tell_compare}
use Rattle.compare.specs.declared.Comparison.{Comparison as Compared}
use Rattle.compare.proofs.compare.Reads as compare

pub compare_apart : (a b : Result Compared Refusal) → tell_compare a ≡ tell_compare b → a ≡ b
compare_apart =
    tell_apart
    (λ c. record { old_elevations = c.old_elevations; new_elevations = c.new_elevations; differences = c.differences })
    (λ x y e. λ i. record { old_elevations = (e i).old_elevations; new_elevations = (e i).new_elevations; differences = (e i).differences })

pub compare-says : (κs old new out r old' new' out' : _) → compare.Learnt κs (old, (new, (out, tt))) r (old', (new', (out', tt)))
    → Promise tell_compare (comparison_of old.now new.now out.now) r out'.now
compare-says κs old new out r old' new' out' l = l

pub compare-one : (κs old new out r r₂ old' new' out' old'' new'' out'' : _) → compare.Learnt κs (old, (new, (out, tt))) r
    (old', (new', (out', tt)))
    → compare.Learnt κs (old, (new, (out, tt))) r₂ (old'', (new'', (out'', tt))) → (r ≡ r₂) × (out'.now ≡ out''.now)
compare-one κs old new out r r₂ old' new' out' old'' new'' out'' l l₂ =
    only tell_compare compare_apart (comparison_of old.now new.now out.now) r r₂ out'.now out''.now l l₂
