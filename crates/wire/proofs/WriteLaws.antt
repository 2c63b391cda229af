-- Laws of writers: what an accepted call says, and that its answers are told apart. Assumes nothing.
use Prim.Native.Nat.{ℕ, ◌≤◌}
use mathlib.Core.Path.{◌≡◌, ap, ◌∙◌}
use mathlib.Core.List.{List, [], ◌∷◌, ◌++◌}
use lib.ListN.{length, take, drop}
use lib.Seq.{take_at}
use borrow.Author.Tests.{le-ltb}
use Rattle.wire.specs.Checks.{Check, AllHold}
use Rattle.wire.specs.Answers.{given, refusal}
use Rattle.wire.specs.Sizes.{bytes}
use Rattle.wire.specs.declared.Bytes.{Bytes}
use Rattle.std.specs.Prelude.{Result}
use Rattle.wire.specs.declared.refusal.Refusal.{Refusal}
use Rattle.wire.specs.declared.Bytes.{Bytes}
use Rattle.wire.proofs.RefusalLaws.{tell_apart}
use Rattle.wire.specs.Writing.{filled, wrote, room_check, written, tell_write}
use Rattle.wire.proofs.CheckLaws.{decide-none, none_broken, all_hold, all_hold_append, all_hold_join}
use Rattle.wire.proofs.AnswerLaws.{outcome_given}

-- a call that wrote: its checks hold, and what stands in the length that it reports is the body
pub accepted : (ks : List Check) (body out : List ℕ) (size : Bytes) → (written ks body out).answer ≡ given size
    → AllHold ks × (take size.0 (written ks body out).output ≡ body)
accepted ks body out size e =
    let room = room_check (length out) body ∷ [] in
    let o = outcome_given (ks ++ room) out (bytes (length body)) (filled body out) size e in
    let l : length body ≡ size.0 = ap (λ (b : Bytes). b.0) o.1 in (
      (all_hold_append ks room (all_hold (ks ++ room) o.0)).0,
      ap (λ (x : List ℕ). take size.0 x) o.2 ∙ take_at body (drop (length body) out) size.0 l,
    )

-- and back: checks that hold, in an output with room
pub wrote_all : (ks : List Check) (body out : List ℕ) → AllHold ks → length body ≤ length out → written ks body out ≡ wrote body out
wrote_all ks body out h room =
    let k = ks ++ (room_check (length out) body ∷ []) in
    decide-none k (refusal out) (wrote body out)
    (none_broken k (all_hold_join ks (room_check (length out) body ∷ []) h (le-ltb (length out) (length body) room, tt)))

pub write_apart : (a b : Result Bytes Refusal) → tell_write a ≡ tell_write b → a ≡ b
write_apart = tell_apart (λ size. size) (λ s t e. e)
