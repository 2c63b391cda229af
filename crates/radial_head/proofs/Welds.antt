-- What the contract of each public function says of a call, as Rattle reads it from src/ (`Learnt`): its promise, and that no two results
-- of one call meet it. Assumes nothing.
use mathlib.Core.Path.{◌≡◌, sym, ◌∙◌}
use Rattle.radial_spec.specs.Description.{moment_bytes}
use Rattle.radial_head.specs.Told.{fetched_head, head_told, key_of}
use Rattle.radial_head.proofs.moment_size.Reads as moment_size
use Rattle.radial_head.proofs.key_of.Reads as key_of_reads
use Rattle.radial_head.proofs.head_of.Reads as head_of

pub moment_size-says : (κs gates word r last : _) → moment_size.Learnt κs (gates, (word, tt)) r last → r ≡ moment_bytes gates word
moment_size-says κs gates word r last l = l

pub moment_size-one : (κs gates word r r₂ last last₂ : _) → moment_size.Learnt κs (gates, (word, tt)) r last
    → moment_size.Learnt κs (gates, (word, tt)) r₂ last₂ → r ≡ r₂
moment_size-one κs gates word r r₂ last last₂ l l₂ = l ∙ sym l₂

pub key_of-says : (κs part r last : _) → key_of_reads.Learnt κs (part, tt) r last → r ≡ key_of (fetched_head part.now)
key_of-says κs part r last l = l

pub key_of-one : (κs part r r₂ last last₂ : _) → key_of_reads.Learnt κs (part, tt) r last
    → key_of_reads.Learnt κs (part, tt) r₂ last₂ → r ≡ r₂
key_of-one κs part r r₂ last last₂ l l₂ = l ∙ sym l₂

pub head_of-says : (κs part place r last : _) → head_of.Learnt κs (part, (place, tt)) r last → r ≡ head_told place (fetched_head part.now)
head_of-says κs part place r last l = l

pub head_of-one : (κs part place r r₂ last last₂ : _) → head_of.Learnt κs (part, (place, tt)) r last
    → head_of.Learnt κs (part, (place, tt)) r₂ last₂ → r ≡ r₂
head_of-one κs part place r r₂ last last₂ l l₂ = l ∙ sym l₂
