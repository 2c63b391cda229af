-- What the contract of each public function says of a call, as Rattle reads it from src/ (`Learnt`): its promise, and that no two results
-- of one call meet it. Assumes nothing.
use mathlib.Core.Path.{◌≡◌, sym, ◌∙◌}
use Rattle.salvage_spec.specs.Walk.{next_kept, whole_at}
use Rattle.salvage_find.specs.Told.{size_told}
use Rattle.salvage_find.proofs.whole_at.Reads as whole_at_reads
use Rattle.salvage_find.proofs.next_kept.Reads as next_kept_reads

pub whole_at-says : (κs buf place r last : _) → whole_at_reads.Learnt κs (buf, (place, tt)) r last → r ≡ size_told (whole_at buf.now place)
whole_at-says κs buf place r last l = l

pub whole_at-one : (κs buf place r r₂ last last₂ : _) → whole_at_reads.Learnt κs (buf, (place, tt)) r last
    → whole_at_reads.Learnt κs (buf, (place, tt)) r₂ last₂
    → r ≡ r₂
whole_at-one κs buf place r r₂ last last₂ l l₂ = l ∙ sym l₂

pub next_kept-says : (κs buf place r last : _) → next_kept_reads.Learnt κs (buf, (place, tt)) r last → r ≡ next_kept buf.now place
next_kept-says κs buf place r last l = l

pub next_kept-one : (κs buf place r r₂ last last₂ : _) → next_kept_reads.Learnt κs (buf, (place, tt)) r last
    → next_kept_reads.Learnt κs (buf, (place, tt)) r₂ last₂ → r ≡ r₂
next_kept-one κs buf place r r₂ last last₂ l l₂ = l ∙ sym l₂
