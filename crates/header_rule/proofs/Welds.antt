-- What the contract of each public function says of a call, as Rattle reads it from src/ (`Learnt`): its promise, and that no two results
-- of one call meet it. Assumes nothing.
use mathlib.Core.Path.{◌≡◌, sym, ◌∙◌}
use Rattle.wire.specs.Checks.{some_broken}
use Rattle.header_rule.specs.Rules.{form_checks, not_permitted, reported_count, reported_number, reported_size, segment_checks, size_checks}
use Rattle.header_rule.specs.Rules.{time_checks}
use Rattle.header_rule.proofs.breaks_size.Reads as breaks_size
use Rattle.header_rule.proofs.breaks_form.Reads as breaks_form
use Rattle.header_rule.proofs.size_of.Reads as type_size
use Rattle.header_rule.proofs.count_of.Reads as count_of
use Rattle.header_rule.proofs.breaks_type.Reads as breaks_type
use Rattle.header_rule.proofs.breaks_segment.Reads as breaks_segment
use Rattle.header_rule.proofs.breaks_time.Reads as breaks_time

pub breaks_size-says : (κs size long r last : _) → breaks_size.Learnt κs (size, (long, tt)) r last → r ≡ some_broken (size_checks size long)
breaks_size-says κs size long r last l = l

pub breaks_size-one : (κs size long r r₂ last last₂ : _) → breaks_size.Learnt κs (size, (long, tt)) r last
    → breaks_size.Learnt κs (size, (long, tt)) r₂ last₂ → r ≡ r₂
breaks_size-one κs size long r r₂ last last₂ l l₂ = l ∙ sym l₂

pub breaks_form-says : (κs size kind high low long r last : _)
    → breaks_form.Learnt κs (size, (kind, (high, (low, (long, tt))))) r last → r ≡ some_broken (form_checks size kind high low long)
breaks_form-says κs size kind high low long r last l = l

pub breaks_form-one : (κs size kind high low long r r₂ last last₂ : _)
    → breaks_form.Learnt κs (size, (kind, (high, (low, (long, tt))))) r last
    → breaks_form.Learnt κs (size, (kind, (high, (low, (long, tt))))) r₂ last₂ → r ≡ r₂
breaks_form-one κs size kind high low long r r₂ last last₂ l l₂ = l ∙ sym l₂

pub size_of-says : (κs size kind high low r last : _) → type_size.Learnt κs (size, (kind, (high, (low, tt)))) r last
    → r ≡ reported_size size kind high low
size_of-says κs size kind high low r last l = l

pub size_of-one : (κs size kind high low r r₂ last last₂ : _) → type_size.Learnt κs (size, (kind, (high, (low, tt)))) r last
    → type_size.Learnt κs (size, (kind, (high, (low, tt)))) r₂ last₂ → r ≡ r₂
size_of-one κs size kind high low r r₂ last last₂ l l₂ = l ∙ sym l₂

pub count_of-says : (κs size kind segments r last : _) → count_of.Learnt κs (size, (kind, (segments, tt))) r last
    → r ≡ reported_count size kind segments
count_of-says κs size kind segments r last l = l

pub count_of-one : (κs size kind segments r r₂ last last₂ : _) → count_of.Learnt κs (size, (kind, (segments, tt))) r last
    → count_of.Learnt κs (size, (kind, (segments, tt))) r₂ last₂ → r ≡ r₂
count_of-one κs size kind segments r r₂ last last₂ l l₂ = l ∙ sym l₂

pub breaks_type-says : (κs kind r last : _) → breaks_type.Learnt κs (kind, tt) r last → r ≡ not_permitted kind
breaks_type-says κs kind r last l = l

pub breaks_type-one : (κs kind r r₂ last last₂ : _) → breaks_type.Learnt κs (kind, tt) r last
    → breaks_type.Learnt κs (kind, tt) r₂ last₂ → r ≡ r₂
breaks_type-one κs kind r r₂ last last₂ l l₂ = l ∙ sym l₂

pub breaks_segment-says : (κs size kind segments number r last : _)
    → breaks_segment.Learnt κs (size, (kind, (segments, (number, tt)))) r last
    → r ≡ some_broken (segment_checks size kind segments (reported_number segments number))
breaks_segment-says κs size kind segments number r last l = l

pub breaks_segment-one : (κs size kind segments number r r₂ last last₂ : _)
    → breaks_segment.Learnt κs (size, (kind, (segments, (number, tt)))) r last
    → breaks_segment.Learnt κs (size, (kind, (segments, (number, tt)))) r₂ last₂ → r ≡ r₂
breaks_segment-one κs size kind segments number r r₂ last last₂ l l₂ = l ∙ sym l₂

pub breaks_time-says : (κs date milliseconds r last : _) → breaks_time.Learnt κs (date, (milliseconds, tt)) r last
    → r ≡ some_broken (time_checks date milliseconds)
breaks_time-says κs date milliseconds r last l = l

pub breaks_time-one : (κs date milliseconds r r₂ last last₂ : _) → breaks_time.Learnt κs (date, (milliseconds, tt)) r last
    → breaks_time.Learnt κs (date, (milliseconds, tt)) r₂ last₂ → r ≡ r₂
breaks_time-one κs date milliseconds r r₂ last last₂ l l₂ = l ∙ sym l₂
