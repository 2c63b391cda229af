-- Laws of the refusals' numbers: no two refusals share one, so a result says what it is by what it tells. Assumes nothing.
use Prim.Native.Nat.{ℕ, ◌-◌, ◌+◌, ◌<◌}
use native.Mathlib.Omega.{arith}
use mathlib.Core.Path.{◌≡◌, refl, ap, sym, ◌∙◌}
use mathlib.Core.Bool.{Bool, true, false}
use mathlib.Core.List.{List, [], ◌∷◌, map}
use borrow.Author.Tests.{eqb-true}
use lib.Dec.{eqb}
use lib.ListN.{get_or}
use Rattle.std.specs.Prelude.{Result, Ok, Err}
use denote.Enum.Declared.{tag_of}
use Rattle.wire.specs.contracts.refusal.Refusal.{the_type}
use Rattle.wire.specs.Checks.{pick, among}
use Rattle.wire.specs.Refusals.{number, tell, number_in}
use Rattle.wire.specs.declared.refusal.Refusal.{Refusal}
use Rattle.wire.specs.declared.refusal.Refusal.TheVariants.{FrameCutOff, SessionKind, SessionBody, MessageShort, Size, «Type», Segment, DateOrTime, NotData, Disagrees, AlreadySeen, Absent, OutputSmall, RadialShort, Compression, RadialLength, BlockCount, Pointer, Name, Block, AskedFor, ScaleOrOffset, Length, Field, OddBody, LongBody}
use Rattle.wire.proofs.CheckLaws.{never}

abbrev pub refusals : List Refusal
refusals = FrameCutOff ∷ SessionKind ∷ SessionBody ∷ MessageShort ∷ Size ∷ «Type» ∷ Segment ∷ DateOrTime ∷ NotData ∷ Disagrees ∷ AlreadySeen ∷ Absent ∷ OutputSmall ∷ RadialShort ∷ Compression ∷ RadialLength ∷ BlockCount ∷ Pointer ∷ Name ∷ Block ∷ AskedFor ∷ ScaleOrOffset ∷ Length ∷ Field ∷ OddBody ∷ LongBody ∷ []

-- the refusal with a number
abbrev pub refusal_of : ℕ → Refusal
refusal_of n = get_or refusals (n - 1) LongBody

back : (r : Refusal) → refusal_of (number r) ≡ r
back FrameCutOff = refl
back SessionKind = refl
back SessionBody = refl
back MessageShort = refl
back Size = refl
back «Type» = refl
back Segment = refl
back DateOrTime = refl
back NotData = refl
back Disagrees = refl
back AlreadySeen = refl
back Absent = refl
back OutputSmall = refl
back RadialShort = refl
back Compression = refl
back RadialLength = refl
back BlockCount = refl
back Pointer = refl
back Name = refl
back Block = refl
back AskedFor = refl
back ScaleOrOffset = refl
back Length = refl
back Field = refl
back OddBody = refl
back LongBody = refl

pub numbers-apart : (a b : Refusal) → number a ≡ number b → a ≡ b
numbers-apart a b e = sym (back a) ∙ ap refusal_of e ∙ back b

pub tell_apart : {T A : Type 0} (f : T → A) → ((x y : T) → f x ≡ f y → x ≡ y) → (a b : Result T Refusal) → tell f a ≡ tell f b → a ≡ b
tell_apart f one (Ok x) (Ok y) e = ap Ok (one x y (cc e))
tell_apart f one (Ok x) (Err r) e = never (cc e)
tell_apart f one (Err r) (Ok y) e = never (cc e)
tell_apart f one (Err r) (Err q) e = ap Err (numbers-apart r q (cc e))

-- a number of the list is that of its refusal
pub number_there : (n : ℕ) (rs : List Refusal) → among n (map number rs) ≡ true → number (refusal_of n) ≡ n
number_there n [] e = never (cc e)
number_there n (r ∷ rs) e = go (eqb n (number r)) refl e (λ q. number_there n rs q)
  where
    go : (t : Bool) → eqb n (number r) ≡ t → pick t true (among n (map number rs)) ≡ true → (among n (map number rs) ≡ true → number (refusal_of n) ≡ n)
        → number (refusal_of n) ≡ n
    go true p q later = rw (eqb-true n (number r) p) (ap number (back r))
    go false p q later = later q

-- the variants stand in the order of their numbers
pub tag_is : (r : Refusal) → tag_of the_type r + 1 ≡ number r
tag_is FrameCutOff = refl
tag_is SessionKind = refl
tag_is SessionBody = refl
tag_is MessageShort = refl
tag_is Size = refl
tag_is «Type» = refl
tag_is Segment = refl
tag_is DateOrTime = refl
tag_is NotData = refl
tag_is Disagrees = refl
tag_is AlreadySeen = refl
tag_is Absent = refl
tag_is OutputSmall = refl
tag_is RadialShort = refl
tag_is Compression = refl
tag_is RadialLength = refl
tag_is BlockCount = refl
tag_is Pointer = refl
tag_is Name = refl
tag_is Block = refl
tag_is AskedFor = refl
tag_is ScaleOrOffset = refl
tag_is Length = refl
tag_is Field = refl
tag_is OddBody = refl
tag_is LongBody = refl

-- no refusal has the number 0
pub number-above : (r : Refusal) → 0 < number r
number-above FrameCutOff = omega arith
number-above SessionKind = omega arith
number-above SessionBody = omega arith
number-above MessageShort = omega arith
number-above Size = omega arith
number-above «Type» = omega arith
number-above Segment = omega arith
number-above DateOrTime = omega arith
number-above NotData = omega arith
number-above Disagrees = omega arith
number-above AlreadySeen = omega arith
number-above Absent = omega arith
number-above OutputSmall = omega arith
number-above RadialShort = omega arith
number-above Compression = omega arith
number-above RadialLength = omega arith
number-above BlockCount = omega arith
number-above Pointer = omega arith
number-above Name = omega arith
number-above Block = omega arith
number-above AskedFor = omega arith
number-above ScaleOrOffset = omega arith
number-above Length = omega arith
number-above Field = omega arith
number-above OddBody = omega arith
number-above LongBody = omega arith

-- where an Ok says nothing more than that nothing is refused, the number says all
pub number_in-apart : (a b : Result (Unit {0}) Refusal) → number_in a ≡ number_in b → a ≡ b
number_in-apart (Ok u) (Ok v) e = refl
number_in-apart (Ok u) (Err r) e = absurd (omega (arith, number-above r, e))
number_in-apart (Err r) (Ok u) e = absurd (omega (arith, number-above r, e))
number_in-apart (Err r) (Err q) e = ap Err (numbers-apart r q e)
