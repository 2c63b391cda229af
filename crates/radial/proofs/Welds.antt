-- What the contract of each public function says of a call, as Rattle reads it from src/ (`Learnt`): its promise, and that no two results
-- of one call meet it. Assumes nothing.
use mathlib.Core.Option.{Option, none, some}
use mathlib.Core.Path.{◌≡◌, sym, ◌∙◌, refl, ap}
use Rattle.std.specs.Prelude.{Result, Option as Maybe, None, Some}
use Rattle.wire.specs.declared.refusal.Refusal.{Refusal}
use Rattle.wire.proofs.AnswerLaws.{only_answer}
use Rattle.wire.proofs.RefusalLaws.{tell_apart}
use Rattle.wire.proofs.CheckLaws.{never}
use Rattle.wire.specs.Numbers.{num}
use Rattle.radial_spec.specs.Lookups.{block_of, coded_of, moment_of}
use Rattle.radial_spec.specs.Refusal.{radial_of}
use Rattle.radial.specs.Told.{shown, tell_radial, head_shown, tell_moment, code_shown, tell_coded, Told, block_told, if_any, block_shown, tell_block}
use Rattle.radial.specs.declared.Coded.{Coded}
use Rattle.radial.specs.declared.Lying.{Lying}
use Rattle.radial.specs.declared.Radial.{Radial}
use Rattle.radial.specs.declared.RadialBlock.{RadialBlock}
use Rattle.radial.specs.declared.RadialBlock.TheVariants.{Constant, Moment}
use Rattle.radial_head.specs.declared.MomentHead.{MomentHead}
use Rattle.radial.proofs.read_radial.Reads as read_radial
use Rattle.radial.proofs.moment.Reads as moment
use Rattle.radial.proofs.code.Reads as code
use Rattle.radial.proofs.block.Reads as block

pub radial_apart : (a b : Result Radial Refusal) → tell_radial a ≡ tell_radial b → a ≡ b
radial_apart = tell_apart (λ r. r) (λ x y e. e)

pub moment_apart : (a b : Result MomentHead Refusal) → tell_moment a ≡ tell_moment b → a ≡ b
moment_apart = tell_apart (λ h. h) (λ x y e. e)

pub code_apart : (a b : Result Coded Refusal) → tell_coded a ≡ tell_coded b → a ≡ b
code_apart = tell_apart (λ c. c) (λ x y e. e)

abbrev told : Lying → Option MomentHead → Told
told k h = record { name = k.name; place = k.place; size = k.size; head = h }

lying_same : (k l : Lying) (g h : Option MomentHead) → told k g ≡ told l h → k ≡ l
lying_same k l g h p = λ i. record { name = (p i).name; place = (p i).place; size = (p i).size }

told_apart : (a b : RadialBlock) → block_told a ≡ block_told b → a ≡ b
told_apart (Constant k) (Constant l) e = ap Constant (lying_same k l none none e)
told_apart (Constant k) (Moment l h) e = never (cc (ap (λ (x : Told). x.head) e))
told_apart (Moment k h) (Constant l) e = never (cc (ap (λ (x : Told). x.head) e))
told_apart (Moment k h) (Moment l j) e =
    let q : h ≡ j = cc (ap (λ (x : Told). x.head) e) in
    λ i. Moment (lying_same k l (some h) (some j) e i) (q i)

if_any_apart : (a b : Maybe RadialBlock) → if_any a ≡ if_any b → a ≡ b
if_any_apart None None e = refl
if_any_apart None (Some k) e = never (cc e)
if_any_apart (Some k) None e = never (cc e)
if_any_apart (Some k) (Some l) e = ap Some (told_apart k l (cc e))

pub block_apart : (a b : Result (Maybe RadialBlock) Refusal) → tell_block a ≡ tell_block b → a ≡ b
block_apart = tell_apart if_any if_any_apart

pub read_radial-says : (κs body r last : _) → read_radial.Learnt κs (body, tt) r last → tell_radial r ≡ shown (radial_of body.now)
read_radial-says κs body r last l = l

pub read_radial-one : (κs body r r₂ last last₂ : _) → read_radial.Learnt κs (body, tt) r last
    → read_radial.Learnt κs (body, tt) r₂ last₂ → r ≡ r₂
read_radial-one κs body r r₂ last last₂ l l₂ = radial_apart r r₂ (l ∙ sym l₂)

pub moment-says : (κs body name r last : _) → moment.Learnt κs (body, (name, tt)) r last
    → tell_moment r ≡ head_shown (moment_of body.now (num 4 name 0))
moment-says κs body name r last l = l

pub moment-one : (κs body name r r₂ last last₂ : _) → moment.Learnt κs (body, (name, tt)) r last
    → moment.Learnt κs (body, (name, tt)) r₂ last₂
    → r ≡ r₂
moment-one κs body name r r₂ last last₂ l l₂ = only_answer tell_moment moment_apart
    (head_shown (moment_of body.now (num 4 name 0))) r r₂ l l₂

pub code-says : (κs body name gate r last : _) → code.Learnt κs (body, (name, (gate, tt))) r last
    → tell_coded r ≡ code_shown (coded_of body.now (num 4 name 0) gate)
code-says κs body name gate r last l = l

pub code-one : (κs body name gate r r₂ last last₂ : _) → code.Learnt κs (body, (name, (gate, tt))) r last
    → code.Learnt κs (body, (name, (gate, tt))) r₂ last₂ → r ≡ r₂
code-one κs body name gate r r₂ last last₂ l l₂ = only_answer tell_coded code_apart
    (code_shown (coded_of body.now (num 4 name 0) gate)) r r₂ l l₂

pub block-says : (κs body k r last : _) → block.Learnt κs (body, (k, tt)) r last → tell_block r ≡ block_shown (block_of body.now k)
block-says κs body k r last l = l

pub block-one : (κs body k r r₂ last last₂ : _) → block.Learnt κs (body, (k, tt)) r last → block.Learnt κs (body, (k, tt)) r₂ last₂ → r ≡ r₂
block-one κs body k r r₂ last last₂ l l₂ = only_answer tell_block block_apart (block_shown (block_of body.now k)) r r₂ l l₂
