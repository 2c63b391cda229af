-- The segments of a body that may be written: each fits into a frame. Assumes nothing.
use Prim.Native.Nat.{ℕ, ◌+◌, ◌-◌, ◌/◌, ◌%◌, ◌≤◌}
use native.Mathlib.Omega.{arith}
use mathlib.Core.Path.{◌≡◌, refl, ap, ◌∙◌}
use mathlib.Core.Bool.{Bool, true, false, not}
use mathlib.Core.List.{List, [], ◌∷◌}
use lib.Dec.{ltb, eqb}
use lib.ListN.{length, length-drop}
use lib.Seq.{length-take-le}
use borrow.Author.Tests.{le-ltb}
use Rattle.wire.specs.Properties.{Each}
use Rattle.wire.specs.Checks.{pick, both}
use Rattle.wire.proofs.CheckLaws.{both_false}
use Rattle.header_rule.specs.Rules.{radial_type, radial_cut, segment_size}
use Rattle.header.specs.Header.{header_size}
use Rattle.writer.specs.Writing.{segment_data, cut, segments_of, longest, longest_radial, longest_body}
use Rattle.writer.proofs.CutLaws.{cut_off, left_over, by_cuts}
use Rattle.round_trip.proofs.FrameBack.{PartFits}

abbrev pub AllFit : ℕ → List (List ℕ) → Type 0
AllFit kind parts = Each (PartFits kind) parts

-- data of at most one full segment, of any type
short_fits : (kind : ℕ) (part : List ℕ) → length part % 2 ≡ 0 → length part ≤ segment_data.0 → PartFits kind part
short_fits kind part e h = record {
  even = e;
  most = omega arith;
  small =
      let size = (header_size + length part) / 2 in
      let z : ltb segment_size.0 size ≡ false = le-ltb segment_size.0 size (omega arith) in
      ap (λ (t : Bool). both (not (eqb kind radial_type)) t) z ∙ both_false (not (eqb kind radial_type));
}

cut_fits : (kind cuts : ℕ) (body : List ℕ) → length body % 2 ≡ 0 → length body ≤ cuts → AllFit kind (cut cuts body)
cut_fits kind = by_cuts (λ cuts body parts. length body % 2 ≡ 0 → length body ≤ cuts → AllFit kind parts)
    (λ cuts body short e h. (short_fits kind body e (short h), tt))
    (λ cuts body long later e h.
    let l : length (left_over body) ≡ length body - segment_data.0 = length-drop segment_data.0 body in
    let m : length (cut_off body) ≡ segment_data.0 = length-take-le segment_data.0 body (omega arith) in
    (short_fits kind (cut_off body) (omega arith) (omega arith), later (omega arith) (omega arith)))

-- every segment of a body of even length within the limit; type 31 has one alone
pub segments_fit : (kind : ℕ) (body : List ℕ) → length body % 2 ≡ 0 → length body ≤ (longest kind).0
    → AllFit kind (segments_of kind body) × (radial_cut kind (length (segments_of kind body)) ≡ false)
segments_fit kind body e h = go (eqb kind radial_type) refl h
  where
    go : (t : Bool) → eqb kind radial_type ≡ t → length body ≤ (pick t longest_radial longest_body).0
        → AllFit kind (pick t (body ∷ []) (cut (length body) body))
        × (both (eqb kind radial_type) (not (eqb (length (pick t (body ∷ []) (cut (length body) body))) 1)) ≡ false)
    go true p l = (
      (
        record { even = e; most = l; small = ap (λ (t : Bool). both (not t) (ltb segment_size.0 ((header_size + length body) / 2))) p },
        tt,
      ),
      ap (λ (t : Bool). both t false) p,
    )
    go false p l =
        (cut_fits kind (length body) body e (omega arith), ap (λ (t : Bool). both t (not (eqb (length (cut (length body) body)) 1))) p)
