-- What the contract of each public function says of a call, as Rattle reads it from src/ (`Learnt`): its promise, and that no two results
-- of one call meet it. Assumes nothing.
use mathlib.Core.Path.{◌≡◌, sym, ◌∙◌}
use Rattle.copy.specs.Copying.{copied}
use Rattle.copy.proofs.copy.Reads as copy

pub copy-says : (κs from to r from' to' : _) → copy.Learnt κs (from, (to, tt)) r (from', (to', tt)) → to'.now ≡ copied from.now to.now
copy-says κs from to r from' to' l = l

pub copy-one : (κs from to r r₂ from' to' from'' to'' : _) → copy.Learnt κs (from, (to, tt)) r (from', (to', tt))
    → copy.Learnt κs (from, (to, tt)) r₂ (from'', (to'', tt)) → to'.now ≡ to''.now
copy-one κs from to r r₂ from' to' from'' to'' l l₂ = l ∙ sym l₂
