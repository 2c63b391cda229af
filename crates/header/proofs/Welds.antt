-- What the contract of each public function says of a call, as Rattle reads it from src/ (`Learnt`): its promise, and that no two results
-- of one call meet it. Assumes nothing.
use mathlib.Core.List.{[]}
use mathlib.Core.Path.{◌≡◌, sym, ◌∙◌}
use Rattle.wire.proofs.AnswerLaws.{only_answer}
use Rattle.wire.proofs.RefusalLaws.{tell_apart, number_in-apart}
use Rattle.wire.specs.Refusals.{number_in}
use Rattle.wire.specs.declared.refusal.Refusal.{Refusal}
use Rattle.std.specs.Prelude.{Result}
use Rattle.header.specs.Header.{as_stored, header_in, header_of}
use Rattle.header.specs.Steps.{accepted_short, refusal_of, reported_short, stored_or0}
use Rattle.header.specs.Told.{tell_header}
use Rattle.header.specs.declared.Header.{Header}
use Rattle.header.proofs.read_header.Reads as read_header
use Rattle.header.proofs.stored_in.Reads as stored_in
use Rattle.header.proofs.as_stored.Reads as as_Stored
use Rattle.header.proofs.no_header.Reads as no_Header
use Rattle.header.proofs.read_either.Reads as read_either
use Rattle.header.proofs.accepts_short.Reads as accepts_short
use Rattle.header.proofs.report_short.Reads as report_short
use Rattle.header.proofs.check_header.Reads as check_header

pub header_apart : (a b : Result Header Refusal) → tell_header a ≡ tell_header b → a ≡ b
header_apart = tell_apart (λ h. h) (λ g h e. e)

pub read_header-says : (κs message r last : _) → read_header.Learnt κs (message, tt) r last → tell_header r ≡ header_of message.now
read_header-says κs message r last l = l

pub read_header-one : (κs message r r₂ last last₂ : _) → read_header.Learnt κs (message, tt) r last
    → read_header.Learnt κs (message, tt) r₂ last₂
    → r ≡ r₂
read_header-one κs message r r₂ last last₂ l l₂ = only_answer tell_header header_apart (header_of message.now) r r₂ l l₂

pub stored_in-says : (κs message r last : _) → stored_in.Learnt κs (message, tt) r last → r ≡ stored_or0 message.now
stored_in-says κs message r last l = l

pub stored_in-one : (κs message r r₂ last last₂ : _) → stored_in.Learnt κs (message, tt) r last
    → stored_in.Learnt κs (message, tt) r₂ last₂ → r ≡ r₂
stored_in-one κs message r r₂ last last₂ l l₂ = l ∙ sym l₂

pub as_stored-says : (κs h r last : _) → as_Stored.Learnt κs (h, tt) r last → r ≡ as_stored h
as_stored-says κs h r last l = l

pub as_stored-one : (κs h r r₂ last last₂ : _) → as_Stored.Learnt κs (h, tt) r last → as_Stored.Learnt κs (h, tt) r₂ last₂ → r ≡ r₂
as_stored-one κs h r r₂ last last₂ l l₂ = l ∙ sym l₂

pub no_header-says : (κs r last : _) → no_Header.Learnt κs tt r last → r ≡ header_in []
no_header-says κs r last l = l

pub no_header-one : (κs r r₂ last last₂ : _) → no_Header.Learnt κs tt r last → no_Header.Learnt κs tt r₂ last₂ → r ≡ r₂
no_header-one κs r r₂ last last₂ l l₂ = l ∙ sym l₂

pub read_either-says : (κs body r last : _) → read_either.Learnt κs (body, tt) r last → tell_header r ≡ header_of body.now
read_either-says κs body r last l = l

pub read_either-one : (κs body r r₂ last last₂ : _) → read_either.Learnt κs (body, tt) r last → read_either.Learnt κs (body, tt) r₂ last₂
    → r ≡ r₂
read_either-one κs body r r₂ last last₂ l l₂ = only_answer tell_header header_apart (header_of body.now) r r₂ l l₂

pub accepts_short-says : (κs s long r last : _) → accepts_short.Learnt κs (s, (long, tt)) r last → r ≡ accepted_short s long
accepts_short-says κs s long r last l = l

pub accepts_short-one : (κs s long r r₂ last last₂ : _) → accepts_short.Learnt κs (s, (long, tt)) r last
    → accepts_short.Learnt κs (s, (long, tt)) r₂ last₂ → r ≡ r₂
accepts_short-one κs s long r r₂ last last₂ l l₂ = l ∙ sym l₂

pub report_short-says : (κs message s r last : _) → report_short.Learnt κs (message, (s, tt)) r last → r ≡ reported_short message.now s
report_short-says κs message s r last l = l

pub report_short-one : (κs message s r r₂ last last₂ : _) → report_short.Learnt κs (message, (s, tt)) r last
    → report_short.Learnt κs (message, (s, tt)) r₂ last₂
    → r ≡ r₂
report_short-one κs message s r r₂ last last₂ l l₂ = l ∙ sym l₂

pub check_header-says : (κs s long r last : _) → check_header.Learnt κs (s, (long, tt)) r last → number_in r ≡ refusal_of s long
check_header-says κs s long r last l = l

pub check_header-one : (κs s long r r₂ last last₂ : _) → check_header.Learnt κs (s, (long, tt)) r last
    → check_header.Learnt κs (s, (long, tt)) r₂ last₂ → r ≡ r₂
check_header-one κs s long r r₂ last last₂ l l₂ = number_in-apart r r₂ (l ∙ sym l₂)
