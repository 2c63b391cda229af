-- An accepted set, described by its frames in any order, apart from the walk.
use Rattle.std.specs.Prelude.{ℕ, zero, suc, ◌≡◌, length}
use mathlib.Core.List.{List, [], ◌∷◌, ◌++◌, map, flatten, Memᴰ}
use Rattle.wire.specs.Checks.{AllHold}
use Rattle.frame.specs.Session.{whole_long}
use Rattle.header.specs.declared.Header.{Header}
use Rattle.set_spec.specs.Segment.{segment_in, own_checks}

-- of a frame's bytes: its header as reported, its number, its data
abbrev pub header_from : List ℕ → Header
header_from f = (segment_in f).header

abbrev pub number_from : List ℕ → ℕ
number_from f = (header_from f).number

abbrev pub data_from : List ℕ → List ℕ
data_from f = (segment_in f).content

-- the bytes f are exactly one data frame that passes its own checks
pub record Passes (f : List ℕ) : Type 0 where
  pub checks : AllHold (own_checks f)
  pub exact : length f ≡ whole_long f

-- two headers agree in channel, type, date, milliseconds and N
pub record Agree (a b : Header) : Type 0 where
  pub channel : a.channel ≡ b.channel
  pub kind : a.kind ≡ b.kind
  pub date : a.date ≡ b.date
  pub milliseconds : a.milliseconds ≡ b.milliseconds
  pub segments : a.segments ≡ b.segments

-- no number twice
abbrev pub Distinct : List ℕ → Type 0
Distinct [] = Unit {0}
Distinct (x ∷ xs) = (Memᴰ x xs → ⊥) × Distinct xs

-- the buffer is exactly these frames, each passes, all agree with the header h, and no number appears twice
pub record Orderly (frames : List ℕ) (h : Header) (each : List (List ℕ)) : Type 0 where
  pub buffer : flatten each ≡ frames
  pub pass : (f : List ℕ) → Memᴰ f each → Passes f
  pub agree : (f : List ℕ) → Memᴰ f each → Agree (header_from f) h
  pub once : Distinct (map number_from each)

-- each of 1 to n is among the frames, and `body` is their data joined, 1 first
pub data Joined (each : List (List ℕ)) : ℕ → List ℕ → Type 0 where
  start : Joined each zero []
  next : {n : ℕ} {body : List ℕ} (f : List ℕ) → Memᴰ f each → number_from f ≡ suc n → Joined each n body
      → Joined each (suc n) (body ++ data_from f)

-- the buffer is a whole set: h is segment 1's header, and `body` the data of 1 to N joined
pub record Whole (frames : List ℕ) (h : Header) (body : List ℕ) : Type 0 where
  pub each : List (List ℕ)
  pub orderly : Orderly frames h each
  pub one : List ℕ
  pub there : Memᴰ one each
  pub first : number_from one ≡ 1
  pub header : header_from one ≡ h
  pub joined : Joined each h.segments body
