-- The proofs of what is stated of written frames. Assumes nothing.
use Prim.Native.Nat.{ℕ, ◌+◌, ◌*◌, ◌/◌, ◌%◌, ◌≤◌, ◌<◌}
use native.Mathlib.Omega.{arith}
use mathlib.Core.Path.{◌≡◌, refl, sym, ap, subst, ◌∙◌}
use mathlib.Core.Bool.{Bool, true, false}
use mathlib.Core.List.{List, [], ◌∷◌, ◌++◌, append-nil, flatten}
use lib.Dec.{ltb}
use lib.ListN.{length, drop}
use borrow.Author.Tests.{lt-ltb, le-ltb, eq-eqb, ltb-true, ltb-false}
use Rattle.wire.specs.Numbers.{num}
use Rattle.wire.specs.Checks.{pick, AllHold}
use Rattle.wire.specs.Answers.{given}
use Rattle.wire.specs.Tables.{render}
use Rattle.wire.specs.Writing.{filled, room_check, then_room}
use Rattle.wire.specs.Sizes.{bytes, halved}
use Rattle.wire.specs.declared.Bytes.{Bytes}
use Rattle.wire.proofs.AnswerLaws.{outcome_given}
use Rattle.wire.proofs.CheckLaws.{all_hold, all_hold_append}
use Rattle.header_rule.proofs.RuleLaws.{even_from}
use Rattle.frame.specs.Session.{head_table, head_size, data_kind}
use Rattle.header_rule.specs.Rules.{most_size, too_large, long_mark, least_length, radial_type}
use Rattle.header.specs.declared.Header.{Header}
use Rattle.header.specs.Header.{short_table, long_table, header_size}
use Rattle.header.specs.Theorems.{count_place, number_place}
use Rattle.writer_head.specs.declared.Given.{Given}
use Rattle.writer_head.specs.Head.{header_for, heads}
use Rattle.writer.specs.Writing.{segments_of, frame_of, frames_from, frames_of, longest, longest_body, longest_radial, write_checks, write_of}
use Rattle.writer.specs.Theorems.{LoneNumber, RadialForm, FormWritten}
use Rattle.writer.proofs.CutLaws.{segments-joined, count-radial}

-- ---- the first bytes of a frame, by the form of its header
module _ (g : Given) (n k : ℕ) (part rest : List ℕ) where
  abbrev size : Bytes
  size = bytes (header_size + length part)

  abbrev h : Header
  h = header_for g n k size

  -- what stands at the start of the frame, with the form t
  abbrev with-form : Bool → List ℕ
  with-form t = ((render (head_table data_kind 0 size) ++ render (pick t (long_table h) (short_table h))) ++ part) ++ rest

  begins : (t : Bool) → too_large h.size ≡ t → frame_of g n k part ++ rest ≡ with-form t
  unfolding frame_of heads
  begins t e = ap with-form e

  mark_long : num 2 (with-form true) head_size ≡ long_mark.0
  unfolding num
  mark_long = refl

  length-long : size.0 < 65536 * 65536 → size.0 % 2 ≡ 0 → num 4 (with-form true) (head_size + count_place) ≡ size.0
  unfolding num
  length-long small even = omega (arith, small, even)

  mark_short : num 2 (with-form false) head_size ≡ h.size.0 / 256 % 256 * 256 + h.size.0 % 256
  unfolding num
  mark_short = omega arith

  number_short : num 2 (with-form false) (head_size + number_place) ≡ k / 256 % 256 * 256 + k % 256
  unfolding num
  number_short = omega arith

-- ---- the frame of a body that is one segment, whatever follows it
lone_part : (body : List ℕ) (parts : List (List ℕ)) → length parts ≡ 1 → flatten parts ≡ body → parts ≡ body ∷ []
unfolding flatten
lone_part body [] l e = absurd (omega (arith, l))
lone_part body (part ∷ []) l e = ap (λ (x : List ℕ). x ∷ []) (sym (append-nil part) ∙ e)
lone_part body (part ∷ next ∷ more) l e = absurd (omega (arith, l))

module _ (g : Given) (body out : List ℕ) (size : Bytes) (e : (write_of g body out).answer ≡ given size)
    (one : length (segments_of g.kind body) ≡ 1) where
  frames_are : frames_of g body ≡ frame_of g 1 1 body ++ []
  unfolding frames_of frames_from
  frames_are =
      ap (λ (parts : List (List ℕ)). frames_from g (length parts) 1 parts)
      (lone_part body (segments_of g.kind body) one (segments-joined g.kind body))

  abbrev left : List ℕ
  left = drop (length (frames_of g body)) out

  checked : AllHold (write_checks g body) × ((write_of g body out).output ≡ frame_of g 1 1 body ++ left)
  unfolding write_of
  checked =
      let frames = frames_of g body in
      let room = then_room (write_checks g body) frames (length out) in
      let o = outcome_given room out (bytes (length frames)) (filled frames out) size e in (
        (all_hold_append (write_checks g body) (room_check (length out) frames ∷ []) (all_hold room o.0)).0,
        o.2 ∙ ap (λ (x : List ℕ). x ++ left) (frames_are ∙ append-nil (frame_of g 1 1 body)),
      )

  even : length body % 2 ≡ 0
  even = even_from (length body) checked.0.1.1.1.0

  most : length body ≤ (longest g.kind).0
  most = ltb-false (longest g.kind).0 (length body) checked.0.1.1.1.1.0

  -- what is written begins as its form says
  output_is : (t : Bool) → too_large (halved (bytes (header_size + length body))) ≡ t
      → (write_of g body out).output ≡ with-form g 1 1 body left t
  output_is t q = checked.1 ∙ begins g 1 1 body left t q

  short_size : header_size + length body < least_length.0 → too_large (halved (bytes (header_size + length body))) ≡ false
  short_size h = le-ltb most_size.0 ((header_size + length body) / 2) (omega (arith, h))

  long_size : least_length.0 ≤ header_size + length body → too_large (halved (bytes (header_size + length body))) ≡ true
  long_size h = lt-ltb most_size.0 ((header_size + length body) / 2) (omega (arith, h))

  pub lone_is : header_size + length body < least_length.0 → num 2 (write_of g body out).output (head_size + number_place) ≡ 1
  lone_is h =
      ap (λ (x : List ℕ). num 2 x (head_size + number_place)) (output_is false (short_size h)) ∙ number_short g 1 1 body left

  radial_form : g.kind ≡ radial_type → RadialForm body (write_of g body out).output
  radial_form r = record {
    exactly = (is_long, λ h. ap (λ (x : List ℕ). num 2 x head_size) (output_is true (long_size h)) ∙ mark_long g 1 1 body left);
    told = λ h.
        let small : length body ≤ longest_radial.0 = subst (λ (t : Bool). length body ≤ (pick t longest_radial longest_body).0)
        (eq-eqb g.kind radial_type r) most in
        let whole : (header_size + length body) % 2 ≡ 0 = omega (arith, even) in
        ap (λ (x : List ℕ). num 4 x (head_size + count_place)) (output_is true (long_size h))
        ∙ length-long g 1 1 body left (omega (arith, small)) whole;
  }
    where
      is_long : num 2 (write_of g body out).output head_size ≡ long_mark.0 → least_length.0 ≤ header_size + length body
      is_long m = go (ltb (header_size + length body) least_length.0) refl
        where
          go : (t : Bool) → ltb (header_size + length body) least_length.0 ≡ t → least_length.0 ≤ header_size + length body
          go false q = ltb-false (header_size + length body) least_length.0 q
          go true q =
              let small = ltb-true (header_size + length body) least_length.0 q in
              let begun = ap (λ (x : List ℕ). num 2 x head_size) (output_is false (short_size small)) in
              let at = sym (mark_short g 1 1 body left) ∙ sym begun ∙ m in
              absurd (omega (arith, small, at))

pub lone_number : LoneNumber
lone_number = lone_is

pub form_written : FormWritten
form_written g body out size e r = radial_form g body out size e (sym (count-radial g.kind body r)) r
