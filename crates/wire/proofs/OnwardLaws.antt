-- Answers that are handed onward: what was given was given of something, and a refusal is the refusal before. Assumes nothing.
use mathlib.Core.Path.{◌≡◌, refl, sym}
use Rattle.wire.specs.Answers.{AnswerOf, refused, given, onward}
use Rattle.wire.proofs.CheckLaws.{never}

-- what f answered w of
pub record Went {N A B : Type 0} (a : AnswerOf N A) (f : A → AnswerOf N B) (w : B) : Type 0 where
  pub value : A
  pub was : a ≡ given value
  pub gave : f value ≡ given w

pub onward_given : {N A B : Type 0} (a : AnswerOf N A) (f : A → AnswerOf N B) (w : B) → onward a f ≡ given w → Went a f w
onward_given (refused n) f w e = never (cc e)
onward_given (given v) f w e = record { value = v; was = refl; gave = e }

-- one after the other
pub onward_twice : {N A B C : Type 0} (a : AnswerOf N A) (f : A → AnswerOf N B) (g : B → AnswerOf N C)
    → onward (onward a f) g ≡ onward a (λ v. onward (f v) g)
onward_twice (refused n) f g = refl
onward_twice (given v) f g = refl

-- ---- what is shown of an answer, where nothing more is refused
pub record Shows {N A B : Type 0} (a : AnswerOf N A) (f : A → B) (w : B) : Type 0 where
  pub value : A
  pub was : a ≡ given value
  pub is : w ≡ f value

pub shows_given : {N A B : Type 0} (a : AnswerOf N A) (f : A → B) (w : B) → given w ≡ onward a (λ v. given (f v)) → Shows a f w
shows_given (refused n) f w e = never (cc e)
shows_given (given v) f w e = record { value = v; was = refl; is = cc e }

pub shows_refused : {N A B : Type 0} (a : AnswerOf N A) (f : A → B) (n : N) → refused n ≡ onward a (λ v. given (f v)) → a ≡ refused n
shows_refused (refused k) f n e = sym (cc e)
shows_refused (given v) f n e = never (cc e)
