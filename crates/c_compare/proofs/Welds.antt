-- What the contract of each public function says of a call, as Rattle reads it from src/ (`Learnt`): its promise, and that no two results
-- of one call meet it. Assumes nothing.
use mathlib.Core.Path.{◌≡◌, sym, ◌∙◌}
use Rattle.c_lent.specs.Face.{Leaves}
use Rattle.compare_spec.specs.Comparing.{comparison_of}
use Rattle.c_compare.specs.Face.{comparison_face}
use Rattle.c_compare.proofs.compare_maps.Reads as compare_maps

pub compare_maps-says : (κs old new out r old' new' out' : _) → compare_maps.Learnt κs (old, (new, (out, tt))) r (old', (new', (out', tt)))
    → Leaves comparison_face (comparison_of old.now new.now out.now) r out'.now
compare_maps-says κs old new out r old' new' out' l = l

pub compare_maps-one : (κs old new out r r₂ old' new' out' old'' new'' out'' : _)
    → compare_maps.Learnt κs (old, (new, (out, tt))) r (old', (new', (out', tt)))
    → compare_maps.Learnt κs (old, (new, (out, tt))) r₂ (old'', (new'', (out'', tt))) → (r ≡ r₂) × (out'.now ≡ out''.now)
compare_maps-one κs old new out r r₂ old' new' out' old'' new'' out'' l l₂ = (l.answers ∙ sym l₂.answers, l.leaves ∙ sym l₂.leaves)
