-- A segment that was read, as it lies in the buffer; and two headers compared. Assumes nothing.
use Prim.Native.Nat.{ℕ, ◌+◌, ◌-◌, ◌≤◌}
use mathlib.Core.Path.{◌≡◌, refl, sym, ap, subst, ◌∙◌}
use mathlib.Core.Option.{none, some}
use mathlib.Core.List.{List}
use native.Mathlib.Omega.{arith}
use lib.ListN.{length, take, drop, length-take, length-drop}
use lib.Seq.{drop-drop}
use Rattle.wire.proofs.ListLaws.{drop-take}
use Rattle.wire.specs.Checks.{first}
use Rattle.wire.specs.Answers.{refused, given}
use Rattle.wire.proofs.CheckLaws.{all_hold}
use Rattle.wire.proofs.AnswerLaws.{rule_given, rule_refused}
use Rattle.frame.specs.Session.{head_size, size_in, body_in}
use Rattle.header.specs.declared.Header.{Header}
use Rattle.header.specs.Header.{header_size}
use Rattle.set_spec.specs.Segment.{Placed, placed_in, own_checks, segment_at}
use Rattle.set_spec.proofs.FrameFacts.{framed, header-fits}
use Rattle.set_spec.proofs.PrefixLaws.{own_parts}
use Rattle.set.specs.Steps.{SegmentLies}

pub segment_refused : (s : List ℕ) (at n : ℕ) → refused n ≡ segment_at s at → first (own_checks (drop at s)) ≡ some n
unfolding segment_at
segment_refused s at n e = rule_refused (own_checks (drop at s)) (placed_in (drop at s) at) n (sym e)

-- a segment whose checks hold
module _ (s : List ℕ) (at : ℕ) (passes : first (own_checks (drop at s)) ≡ none) where
  abbrev rest : List ℕ
  rest = drop at s

  abbrev z : ℕ
  z = (size_in rest).0

  lies_there : SegmentLies s at (placed_in rest at).header (placed_in rest at).start (placed_in rest at).next
  lies_there =
      let p = own_parts rest (all_hold (own_checks rest) passes) in
      let g = framed rest p.0 in
      let long = (header-fits (body_in rest) p.2).long in
      let room : header_size ≤ z = omega (arith, long, length-take z (drop head_size rest)) in
      let w : head_size + z ≤ length s - at = subst (λ (n : ℕ). head_size + z ≤ n) (length-drop at s) g.whole in
      let d : at + (head_size + z) - (at + (head_size + header_size)) ≡ z - header_size = omega arith in
      record {
        passes = passes;
        header = refl;
        content =
            ap (λ (n : ℕ). take n (drop (at + (head_size + header_size)) s)) d
            ∙ ap (λ (l : List ℕ). take (z - header_size) l) (sym (drop-drop header_size head_size rest
            ∙ drop-drop (head_size + header_size) at s))
            ∙ sym (drop-take header_size z (drop head_size rest));
        rest = sym (drop-drop (head_size + z) at s);
        forward = omega arith;
        order = omega arith;
        within = omega arith;
        small = omega (arith, g.small);
      }

pub segment_lies : (s : List ℕ) (at : ℕ) (h : Header) (start next : ℕ)
    → given (record { header = h; start = start; next = next }) ≡ segment_at s at
    → SegmentLies s at h start next
unfolding segment_at
segment_lies s at h start next e =
    let p = rule_given (own_checks (drop at s)) (placed_in (drop at s) at) (record { header = h; start = start; next = next }) (sym e) in
    subst (λ (x : Placed). SegmentLies s at x.header x.start x.next) p.1 (lies_there s at p.0)
