-- "one refusal number": the number of each refusal, and what a result says as an answer of the rules.
use Rattle.std.specs.Prelude.{ℕ, Result, Ok, Err}
use Rattle.wire.specs.Answers.{Answer, refused, given}
use Rattle.wire.specs.declared.refusal.Refusal.{Refusal}
use Rattle.wire.specs.declared.refusal.Refusal.TheVariants.{FrameCutOff, SessionKind, SessionBody, MessageShort, Size, «Type», Segment, DateOrTime, NotData, Disagrees, AlreadySeen, Absent, OutputSmall, RadialShort, Compression, RadialLength, BlockCount, Pointer, Name, Block, AskedFor, ScaleOrOffset, Length, Field, OddBody, LongBody}

abbrev pub number : Refusal → ℕ
number FrameCutOff = 1
number SessionKind = 2
number SessionBody = 3
number MessageShort = 4
number Size = 5
number «Type» = 6
number Segment = 7
number DateOrTime = 8
number NotData = 9
number Disagrees = 10
number AlreadySeen = 11
number Absent = 12
number OutputSmall = 13
number RadialShort = 14
number Compression = 15
number RadialLength = 16
number BlockCount = 17
number Pointer = 18
number Name = 19
number Block = 20
number AskedFor = 21
number ScaleOrOffset = 22
number Length = 23
number Field = 24
number OddBody = 25
number LongBody = 26

-- an Ok is the answer that f reads in it, an Err the number of its refusal
abbrev pub tell : {T A : Type 0} → (T → A) → Result T Refusal → Answer A
tell f (Ok v) = given (f v)
tell f (Err r) = refused (number r)

-- the number of the refusal; 0 where there is none
abbrev pub number_in : {T : Type 0} → Result T Refusal → ℕ
number_in (Ok v) = 0
number_in (Err r) = number r
