-- What the contract of each public function says of a call, as Rattle reads it from src/ (`Learnt`): its promise, and that no two results
-- of one call meet it. Assumes nothing.
use mathlib.Core.Path.{◌≡◌, sym, ◌∙◌}
use Rattle.writer_head.specs.Head.{heads}
use Rattle.writer_head.proofs.heads_of.Reads as heads_of

pub heads_of-says : (κs given n k size r last : _) → heads_of.Learnt κs (given, (n, (k, (size, tt)))) r last → r ≡ heads given n k size
heads_of-says κs given n k size r last l = l

pub heads_of-one : (κs given n k size r r₂ last last₂ : _) → heads_of.Learnt κs (given, (n, (k, (size, tt)))) r last
    → heads_of.Learnt κs (given, (n, (k, (size, tt)))) r₂ last₂ → r ≡ r₂
heads_of-one κs given n k size r r₂ last last₂ l l₂ = l ∙ sym l₂
