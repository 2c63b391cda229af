-- A segment's frame alone and with more bytes after it. Assumes nothing.
use Prim.Native.Nat.{ℕ}
use mathlib.Core.Path.{◌≡◌, ap}
use mathlib.Core.Bool.{false, not}
use lib.Dec.{eqb}
use mathlib.Core.List.{List, [], ◌∷◌, ◌++◌}
use lib.ListN.{length}
use Rattle.wire.specs.Checks.{check, AllHold}
use Rattle.wire.proofs.CheckLaws.{all_hold_append}
use Rattle.frame.specs.Session.{data_kind, body_in, frame_checks, whole_long}
use Rattle.frame.proofs.WalkLaws.{OneTurn}
use Rattle.frame.proofs.FrontLaws.{whole_same, body_same, kind_same, checks_same}
use Rattle.header.specs.Header.{header_in, data_in, header_checks}
use Rattle.set_spec.specs.Segment.{Segment, segment_in, not_data, own_checks}
use Rattle.set_spec.specs.Walk.{met_checks, each_frame}

-- the parts of a frame's own checks
pub own_parts : (rest : List ℕ) → AllHold (own_checks rest)
    → AllHold (frame_checks rest) × (not_data rest ≡ false) × AllHold (header_checks (body_in rest))
own_parts rest a =
    let p = all_hold_append (frame_checks rest) (check 9 (not_data rest) ∷ header_checks (body_in rest)) a in
    (p.0, p.1.0, p.1.1)

-- the bytes f are as many as their own head says; t stands after them
module _ (f t : List ℕ) (exact : length f ≡ whole_long f) where
  segment_same : segment_in (f ++ t) ≡ segment_in f
  segment_same = λ i. record { header = header_in (body_same f t exact i); content = data_in (body_same f t exact i) }

  pub own_same : own_checks (f ++ t) ≡ own_checks f
  own_same = λ i.
      checks_same f t exact i ++ (check 9 (not (eqb (kind_same f t exact i) data_kind)) ∷ header_checks (body_same f t exact i))

-- such bytes are one turn of the walk
pub one_turn : (f : List ℕ) → length f ≡ whole_long f → OneTurn each_frame f
one_turn f exact = record {
  takes = λ gs t. whole_same f t exact;
  next = λ gs t. ap (λ (g : Segment). gs ++ (g ∷ [])) (segment_same f t exact);
  checks = λ gs t i. own_same f t exact i ++ met_checks gs (segment_same f t exact i).header;
}
