-- K12. "Our relay now takes segments by two lines. Show that if a set is accepted, then any rearrangement of its whole frames, with output
-- of the same length, is accepted too and gives the same header and the same body; and that a set refused as 12, or refused as 13, is
-- refused by the same number in every rearrangement. Other numbers are exempt." The results of every call of the compiled `read_set` and of
-- `ulm_set`. What a rearrangement is, and which numbers are the others, stands in Theorems of `set_order`.
use Rattle.std.specs.Prelude.{ℕ, ◌≡◌, length, Result, Ok, Err}
use Rattle.wire.specs.Refusals.{number}
use Rattle.wire.specs.declared.refusal.Refusal.{Refusal}
use mathlib.Core.List.{List, [], ◌∷◌, ◌++◌, flatten, Memᴰ}
use contract.Lifetimes.{Lfts}
use denote.Ref.{Bor, MutBor, at_last}
use Rattle.wire.specs.Properties.{One}
use Rattle.wire.specs.Sizes.{bytes}
use Rattle.wire.specs.Writing.{filled}
use Rattle.wire.specs.declared.Bytes.{Bytes}
use Rattle.frame.specs.Session.{body_in}
use Rattle.header.specs.declared.Header.{Header}
use Rattle.header.specs.Theorems.{Lone}
use Rattle.header_form.specs.Theorems.{Long}
use Rattle.set_spec.specs.Theorems.{Frames}
use Rattle.set_order.specs.Theorems.{Rearranged, Merged, AfterAll, InTurn, BothInTurn, Differ}
use Rattle.set.specs.declared.Set.{Set}
use Rattle.set.specs.Told.{tell_set}
use Rattle.set.proofs.read_set.Reads as read_set
use Rattle.c_set.specs.declared.UlmSet.{UlmSet}
use Rattle.c_set.specs.Face.{set_face}
use Rattle.ulm.proofs.ulm_set.Reads as ulm_set
use Rattle.demands.specs.Notions.{Comes, RefusedAs}
use Rattle.demands.specs.LoneSegment.{ButLoneNumber}

-- a call of either: its lifetimes, the buffer and the output that it is lent, and the buffer as it leaves it
pub record Call : Type 0 where
  pub κs : Lfts 2
  pub buf : Bor (List ℕ)
  pub out : MutBor (List ℕ)
  pub buf' : Bor (List ℕ)

-- what the contract says of a call that returned r and left this in the output: of `read_set`, and of `ulm_set`
abbrev pub Reads : Call → Result Set Refusal → List ℕ → Type 0
Reads c r after = read_set.Learnt c.κs (c.buf, (c.out, tt)) r (c.buf', (at_last c.out after, tt))

abbrev pub ReadsForC : Call → UlmSet → List ℕ → Type 0
ReadsForC c r after = ulm_set.Learnt c.κs (c.buf, (c.out, tt)) r (c.buf', (at_last c.out after, tt))

-- the result of both calls
abbrev pub Ends : Call → Result Set Refusal → List ℕ → Type 0
Ends c r after = Comes (Reads c) (ReadsForC c) r (set_face (tell_set r)) after

-- accepted: the header h, the body's length, and in the output the body and after it what stood there
abbrev pub Accepts : Call → Header → List ℕ → Type 0
Accepts c h body = Ends c (Ok (record { header = h; length = bytes (length body) })) (filled body c.out.now)

abbrev pub Refuses : Call → ℕ → Type 0
Refuses c n = RefusedAs (λ r. Ends c (Err r) c.out.now) n

-- the three ends that the request speaks of: known after all frames
pub data Settled (c : Call) : Type 0 where
  accepted : (h : Header) (body : List ℕ) → Accepts c h body → Settled c
  absent : Refuses c 12 → Settled c
  small : Refuses c 13 → Settled c

-- how the first call ends, the second ends too
pub record SameAnswer (c d : Call) : Type 0 where
  pub accepted : (h : Header) (body : List ℕ) → Accepts c h body → Accepts d h body
  pub absent : Refuses c 12 → Refuses d 12
  pub small : Refuses c 13 → Refuses d 13

-- the call d is lent the whole frames of the call c in some order, and an output as long
pub record Reordered (c d : Call) : Type 0 where
  pub frames : Rearranged c.buf.now d.buf.now
  pub room : length c.out.now ≡ length d.out.now

pub record OrderOfArrival : Type 0 where
  -- ---- every call accepts with one body, or refuses, so that what follows is about every call
  pub accepts : (c : Call) (set : Set) (after : List ℕ) → Reads c (Ok set) after → (body : List ℕ) × Accepts c set.header body
  pub accepts_for_c : (c : Call) (r : UlmSet) (after : List ℕ) → ReadsForC c r after → r.refusal ≡ 0
      → (p : Header × List ℕ) × Accepts c p.0 p.1
  pub refuses : (c : Call) (r : Refusal) (after : List ℕ) → Reads c (Err r) after → Refuses c (number r)
  pub refuses_for_c : (c : Call) (r : UlmSet) (after : List ℕ) → ReadsForC c r after → (r.refusal ≡ 0 → ⊥) → Refuses c r.refusal
  -- ---- "its whole frames": a buffer that is accepted, or refused as 12 or 13, is a list of them, and of one list only
  pub one_list : (c : Call) → Settled c → One (Frames c.buf.now)
  -- ---- "any rearrangement of its whole frames, with output of the same length"
  pub any_order : (c d : Call) → Reordered c d → SameAnswer c d
  -- two lines: the frames came by the lines a and b, merged in one way for c and in another for d
  pub two_lines : (c d : Call) (a b each each' : List (List ℕ)) → Frames c.buf.now each → Merged a b each → Merged a b each'
      → flatten each' ≡ d.buf.now → length c.out.now ≡ length d.out.now → SameAnswer c d
  -- ---- "to stand for K1's lone segments": whatever the two bytes of a lone segment are in the other order
  pub any_number : (c d : Call) (frames : List ℕ) → Rearranged c.buf.now frames → ButLoneNumber frames d.buf.now
      → length c.out.now ≡ length d.out.now → SameAnswer c d
  -- and such a segment is the only frame of its set, so that there is only one order
  pub lone : (c : Call) (each : List (List ℕ)) (f : List ℕ) → Settled c → Frames c.buf.now each → Memᴰ f each → Lone (body_in f)
      → each ≡ f ∷ []
  -- "and for K11's long form", which counts as one segment
  pub long : (c : Call) (each : List (List ℕ)) (f : List ℕ) → Settled c → Frames c.buf.now each → Memᴰ f each → Long (body_in f)
      → each ≡ f ∷ []
  -- ---- "Other numbers are exempt": of whole frames they are 2 to 11, in every order one of them
  pub others : (c d : Call) (n : ℕ) → Rearranged c.buf.now d.buf.now → Refuses c n → (AfterAll n → ⊥)
      → BothInTurn n (Refuses d)
  -- what comes after such frames does not mend it
  pub stays : (c d : Call) (each : List (List ℕ)) (rest : List ℕ) (n : ℕ) → Frames c.buf.now each → d.buf.now ≡ c.buf.now ++ rest
      → Refuses c n → (AfterAll n → ⊥) → Refuses d n
  -- and for any two of them there are frames that are refused as the one in one order and as the other in another
  pub exempt : (m n : ℕ) → InTurn m → InTurn n → Differ m n (λ frames k. (c : Call) → c.buf.now ≡ frames → Refuses c k)
