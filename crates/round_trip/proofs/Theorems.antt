-- Demand 2, proved: what an accepted write put down comes back. Assumes nothing.
use Prim.Native.Nat.{ℕ, ◌%◌, ◌≤◌, ◌<◌}
use native.Mathlib.Omega.{arith}
use mathlib.Core.Path.{◌≡◌, refl, ap, ◌∙◌}
use mathlib.Core.List.{List, []}
use lib.ListN.{length}
use borrow.Author.Tests.{ltb-false, eqb-true, not-false}
use Rattle.wire.specs.Checks.{AllHold}
use Rattle.wire.proofs.WriteLaws.{accepted as accepted-write}
use Rattle.set_spec.specs.Walk.{finish, set_of}
use Rattle.set_spec.specs.Theorems.{accepted}
use Rattle.writer.specs.Writing.{segments_of, frames_of, longest, write_checks, write_of}
use Rattle.writer_head.specs.declared.Given.{Given}
use Rattle.writer.proofs.CutLaws.{cut-some, segments-cut, segments-joined, count_most}
use Rattle.round_trip.specs.Theorems.{Fits, header_back, RoundTrip}
use Rattle.round_trip.proofs.FrameBack.{Sound}
use Rattle.round_trip.proofs.PartLaws.{segments_fit}
use Rattle.round_trip.proofs.WalkBack.{written, walk_all}
use Rattle.round_trip.proofs.SetBack.{finish_back}

-- there is always a segment
some_segment : (kind : ℕ) (body : List ℕ) → 0 < length (segments_of kind body)
some_segment kind body = rw (segments-cut kind body) (cut-some _ body)

-- the frames of a message whose checks hold, read as a set
frames_back : (g : Given) (body room : List ℕ) → Fits g → AllHold (write_checks g body) → length body ≤ length room
    → set_of (frames_of g body) room ≡ accepted (header_back g body) body room
unfolding frames_of set_of written
frames_back g body room fits a r =
    let parts = segments_of g.kind body in
    let n = length parts in
    let even : length body % 2 ≡ 0 = eqb-true (length body % 2) 0 (not-false _ a.1.1.1.0) in
    let limit : length body ≤ (longest g.kind).0 = ltb-false (longest g.kind).0 (length body) a.1.1.1.1.0 in
    let f = segments_fit g.kind body even limit in
    let s : Sound g n =
    record { fits = fits; permitted = a.0; date = a.1.0; time = a.1.1.0; most = (count_most g.kind body limit).1; radial = f.1 }
    in
    ap (λ x. finish x room) (walk_all g n s parts [] 1 f.0 refl (omega arith))
    ∙ finish_back g n parts body room refl (some_segment g.kind body) (segments-joined g.kind body) r

pub round_trip : RoundTrip
unfolding write_of
round_trip g body out room size fits e r =
    let a = accepted-write (write_checks g body) (frames_of g body) out size e in
    ap (λ (x : List ℕ). set_of x room) a.1 ∙ frames_back g body room fits a.0 r
