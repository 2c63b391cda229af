-- An answer by tests in their order: what stands at the first broken one, or else at the end. `search (needs, tests)` goes by these laws
-- through the tests that a function made before it returned. Assumes nothing.
use mathlib.Core.Path.{◌≡◌}
use mathlib.Core.Bool.{Bool, true, false}
use borrow.Author.Tests.{lt-ltb, le-ltb, le-leb, lt-leb, eq-eqb, ne_eqb}
use Rattle.wire.specs.Checks.{pick}
use Rattle.wire.proofs.CheckLaws.{last}

pub at_broken {ℓ} : {X : Type ℓ} (x y z : X) (t : Bool) → t ≡ true → x ≡ y → x ≡ pick t y z
at_broken x y z t h e = rw h e

pub past-held {ℓ} : {X : Type ℓ} (x y z : X) (t : Bool) → t ≡ false → x ≡ z → x ≡ pick t y z
past-held x y z t h e = rw h e

-- the same where a function answered r for the test
pub at_told {ℓ} : {X : Type ℓ} (x y z : X) (r t : Bool) → r ≡ t → r ≡ true → x ≡ y → x ≡ pick t y z
at_told x y z r t told h e = rw (← told, h) e

pub past_told {ℓ} : {X : Type ℓ} (x y z : X) (r t : Bool) → r ≡ t → r ≡ false → x ≡ z → x ≡ pick t y z
past_told x y z r t told h e = rw (← told, h) e

-- whichever it is
pub either_way {ℓ} : {X : Type ℓ} (x y z : X) (t : Bool) → x ≡ y → x ≡ z → x ≡ pick t y z
either_way x y z true h e = h
either_way x y z false h e = e

pub ruleset tests = (at_broken, past-held, at_told, past_told, last, lt-ltb, le-ltb, le-leb, lt-leb, eq-eqb, ne_eqb)
