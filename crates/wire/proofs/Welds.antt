-- What the contract of each public function says of a call, as Rattle reads it from src/ (`Learnt`): its promise, and that no two results
-- of one call meet it. Assumes nothing.
use lib.Ieee.{binary32, of_bits}
use mathlib.Core.Path.{◌≡◌, sym, ◌∙◌}
use Rattle.wire.specs.Numbers.{fetched, stored}
use Rattle.wire.specs.Sizes.{halved}
use Rattle.wire.proofs.to_halfwords.Reads as to_halfwords
use denote.RattleType.{RattleType}
use denote.Builtin.{u8, u16, u32}
use Rattle.wire.specs.declared.number.Number.{Ghosts}
use Rattle.wire.specs.contracts.number.U8Number.TheImpl as of8
use Rattle.wire.specs.contracts.number.U16Number.TheImpl as of16
use Rattle.wire.specs.contracts.number.U32Number.TheImpl as of32
use Rattle.wire.proofs.fetch.Reads as fetch
use Rattle.wire.proofs.store.Reads as store
use Rattle.wire.proofs.float_of.Reads as float_of
use Rattle.wire.proofs.refusal.Refusal.number.Reads as number_of
use Rattle.wire.specs.Refusals.{number}

pub to_halfwords-says : (κs size r last : _) → to_halfwords.Learnt κs (size, tt) r last → r ≡ halved size
to_halfwords-says κs size r last l = l

pub to_halfwords-one : (κs size r r₂ last last₂ : _) → to_halfwords.Learnt κs (size, tt) r last
    → to_halfwords.Learnt κs (size, tt) r₂ last₂ → r ≡ r₂
to_halfwords-one κs size r r₂ last last₂ l l₂ = l ∙ sym l₂

-- of each type T of numbers, N being what its bytes and its values are
pub fetch-says : (T : RattleType) (laws copies : _) (N : Ghosts T.Denot) (dict clone clone_dict : _) (κs b at r last : _)
    → fetch.Learnt T laws copies N dict clone clone_dict κs (b, (at, tt)) r last → N.value r ≡ fetched N.WIDTH b.now at
fetch-says T laws copies N dict clone clone_dict κs b at r last l = l

pub fetch-one : (T : RattleType) (laws copies : _) (N : Ghosts T.Denot) (dict clone clone_dict : _)
    → ((x y : T.Denot) → N.value x ≡ N.value y → x ≡ y) → (κs b at r r₂ last last₂ : _)
    → fetch.Learnt T laws copies N dict clone clone_dict κs (b, (at, tt)) r last
    → fetch.Learnt T laws copies N dict clone clone_dict κs (b, (at, tt)) r₂ last₂ → r ≡ r₂
fetch-one T laws copies N dict clone clone_dict apart κs b at r r₂ last last₂ l l₂ = apart r r₂ (l ∙ sym l₂)

pub store-says : (T : RattleType) (laws copies : _) (N : Ghosts T.Denot) (dict clone clone_dict : _) (κs out at x r out' at' x' : _)
    → store.Learnt T laws copies N dict clone clone_dict κs (out, (at, (x, tt))) r (out', (at', (x', tt)))
    → out'.now ≡ stored N.WIDTH out.now at (N.value x)
store-says T laws copies N dict clone clone_dict κs out at x r out' at' x' l = l

pub store-one : (T : RattleType) (laws copies : _) (N : Ghosts T.Denot) (dict clone clone_dict : _)
    (κs out at x r r₂ out' at' x' out'' at'' x'' : _)
    → store.Learnt T laws copies N dict clone clone_dict κs (out, (at, (x, tt))) r (out', (at', (x', tt)))
    → store.Learnt T laws copies N dict clone clone_dict κs (out, (at, (x, tt))) r₂ (out'', (at'', (x'', tt))) → out'.now ≡ out''.now
store-one T laws copies N dict clone clone_dict κs out at x r r₂ out' at' x' out'' at'' x'' l l₂ = l ∙ sym l₂

-- the same of each of the three types: the number is the value itself, and no two results of one call meet the contract
pub fetch8-says : (laws copies dict clone clone_dict : _) (κs b at r last : _)
    → fetch.Learnt u8 laws copies of8.ghosts dict clone clone_dict κs (b, (at, tt)) r last → r ≡ fetched 1 b.now at
fetch8-says laws copies dict clone clone_dict κs b at r last l = l

pub fetch8-one : (laws copies dict clone clone_dict : _) (κs b at r r₂ last last₂ : _)
    → fetch.Learnt u8 laws copies of8.ghosts dict clone clone_dict κs (b, (at, tt)) r last
    → fetch.Learnt u8 laws copies of8.ghosts dict clone clone_dict κs (b, (at, tt)) r₂ last₂ → r ≡ r₂
fetch8-one laws copies dict clone clone_dict κs b at r r₂ last last₂ l l₂ = l ∙ sym l₂

pub fetch16-says : (laws copies dict clone clone_dict : _) (κs b at r last : _)
    → fetch.Learnt u16 laws copies of16.ghosts dict clone clone_dict κs (b, (at, tt)) r last → r ≡ fetched 2 b.now at
fetch16-says laws copies dict clone clone_dict κs b at r last l = l

pub fetch16-one : (laws copies dict clone clone_dict : _) (κs b at r r₂ last last₂ : _)
    → fetch.Learnt u16 laws copies of16.ghosts dict clone clone_dict κs (b, (at, tt)) r last
    → fetch.Learnt u16 laws copies of16.ghosts dict clone clone_dict κs (b, (at, tt)) r₂ last₂ → r ≡ r₂
fetch16-one laws copies dict clone clone_dict κs b at r r₂ last last₂ l l₂ = l ∙ sym l₂

pub fetch32-says : (laws copies dict clone clone_dict : _) (κs b at r last : _)
    → fetch.Learnt u32 laws copies of32.ghosts dict clone clone_dict κs (b, (at, tt)) r last → r ≡ fetched 4 b.now at
fetch32-says laws copies dict clone clone_dict κs b at r last l = l

pub fetch32-one : (laws copies dict clone clone_dict : _) (κs b at r r₂ last last₂ : _)
    → fetch.Learnt u32 laws copies of32.ghosts dict clone clone_dict κs (b, (at, tt)) r last
    → fetch.Learnt u32 laws copies of32.ghosts dict clone clone_dict κs (b, (at, tt)) r₂ last₂ → r ≡ r₂
fetch32-one laws copies dict clone clone_dict κs b at r r₂ last last₂ l l₂ = l ∙ sym l₂

pub store8-says : (laws copies dict clone clone_dict : _) (κs out at x r out' at' x' : _)
    → store.Learnt u8 laws copies of8.ghosts dict clone clone_dict κs (out, (at, (x, tt))) r (out', (at', (x', tt)))
    → out'.now ≡ stored 1 out.now at x
store8-says laws copies dict clone clone_dict κs out at x r out' at' x' l = l

pub store8-one : (laws copies dict clone clone_dict : _) (κs out at x r r₂ out' at' x' out'' at'' x'' : _)
    → store.Learnt u8 laws copies of8.ghosts dict clone clone_dict κs (out, (at, (x, tt))) r (out', (at', (x', tt)))
    → store.Learnt u8 laws copies of8.ghosts dict clone clone_dict κs (out, (at, (x, tt))) r₂ (out'', (at'', (x'', tt))) → out'.now ≡ out''.now
store8-one laws copies dict clone clone_dict κs out at x r r₂ out' at' x' out'' at'' x'' l l₂ = l ∙ sym l₂

pub store16-says : (laws copies dict clone clone_dict : _) (κs out at x r out' at' x' : _)
    → store.Learnt u16 laws copies of16.ghosts dict clone clone_dict κs (out, (at, (x, tt))) r (out', (at', (x', tt)))
    → out'.now ≡ stored 2 out.now at x
store16-says laws copies dict clone clone_dict κs out at x r out' at' x' l = l

pub store16-one : (laws copies dict clone clone_dict : _) (κs out at x r r₂ out' at' x' out'' at'' x'' : _)
    → store.Learnt u16 laws copies of16.ghosts dict clone clone_dict κs (out, (at, (x, tt))) r (out', (at', (x', tt)))
    → store.Learnt u16 laws copies of16.ghosts dict clone clone_dict κs (out, (at, (x, tt))) r₂ (out'', (at'', (x'', tt))) → out'.now ≡ out''.now
store16-one laws copies dict clone clone_dict κs out at x r r₂ out' at' x' out'' at'' x'' l l₂ = l ∙ sym l₂

pub store32-says : (laws copies dict clone clone_dict : _) (κs out at x r out' at' x' : _)
    → store.Learnt u32 laws copies of32.ghosts dict clone clone_dict κs (out, (at, (x, tt))) r (out', (at', (x', tt)))
    → out'.now ≡ stored 4 out.now at x
store32-says laws copies dict clone clone_dict κs out at x r out' at' x' l = l

pub store32-one : (laws copies dict clone clone_dict : _) (κs out at x r r₂ out' at' x' out'' at'' x'' : _)
    → store.Learnt u32 laws copies of32.ghosts dict clone clone_dict κs (out, (at, (x, tt))) r (out', (at', (x', tt)))
    → store.Learnt u32 laws copies of32.ghosts dict clone clone_dict κs (out, (at, (x, tt))) r₂ (out'', (at'', (x'', tt))) → out'.now ≡ out''.now
store32-one laws copies dict clone clone_dict κs out at x r r₂ out' at' x' out'' at'' x'' l l₂ = l ∙ sym l₂

pub float_of-says : (κs bits r last : _) → float_of.Learnt κs (bits, tt) r last → r ≡ of_bits binary32 bits
float_of-says κs bits r last l = l

pub float_of-one : (κs bits r r₂ last last₂ : _) → float_of.Learnt κs (bits, tt) r last → float_of.Learnt κs (bits, tt) r₂ last₂ → r ≡ r₂
float_of-one κs bits r r₂ last last₂ l l₂ = l ∙ sym l₂

pub number-says : (κs self r last : _) → number_of.Learnt κs (self, tt) r last → r ≡ number self
number-says κs self r last l = l

pub number-one : (κs self r r₂ last last₂ : _) → number_of.Learnt κs (self, tt) r last → number_of.Learnt κs (self, tt) r₂ last₂ → r ≡ r₂
number-one κs self r r₂ last last₂ l l₂ = l ∙ sym l₂
