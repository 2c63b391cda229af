-- What an accepted frame and an accepted header say. Assumes nothing.
use Prim.Native.Nat.{ℕ, ◌+◌, ◌-◌, ◌≤◌}
use mathlib.Core.Path.{◌≡◌, refl, sym, ap, subst, ◌∙◌}
use mathlib.Core.Bool.{Bool, true, false}
use mathlib.Core.Option.{none, some}
use Rattle.std.specs.Prelude.{Option, None, Some, Result, Ok, Err}
use mathlib.Core.List.{List, ◌∷◌}
use native.Mathlib.Omega.{arith}
use lib.Dec.{eqb}
use lib.ListN.{length, take, drop, length-drop, drop_of_length-le}
use lib.Seq.{drop-drop}
use borrow.Author.Tests.{ltb-false, eqb-true, eq-eqb, ne_eqb}
use Rattle.wire.specs.Checks.{pick, check, first, AllHold}
use Rattle.wire.specs.Answers.{refused, given, rule}
use Rattle.wire.specs.Refusals.{number}
use Rattle.wire.specs.declared.refusal.Refusal.{Refusal}
use Rattle.wire.proofs.CheckLaws.{never, all_hold, first-append-none, first-append-some}
use Rattle.wire.proofs.AnswerLaws.{rule_given, rule_refused}
use Rattle.frame.specs.declared.Frame.{Frame}
use Rattle.frame.specs.Session.{head_size, session_limit, data_kind, kind_in, size_in, body_in, after, frame_checks, end, frame, frame_in, frame_at}
use Rattle.frame.specs.Told.{tell_frame}
use Rattle.frame.proofs.Welds.{frame_apart}
use Rattle.header.specs.declared.Header.{Header}
use Rattle.header_rule.specs.Rules.{most_segments}
use Rattle.header.specs.Header.{header_size, header_in, header_checks, header_of}
use Rattle.header.proofs.HeldLaws.{later_hold}
use Rattle.set_spec.specs.Segment.{not_data, own_checks}

-- ---- a frame
pub record Framed (rest : List ℕ) : Type 0 where
  pub head : head_size ≤ length rest
  pub small : (size_in rest).0 ≤ session_limit.0
  pub whole : head_size + (size_in rest).0 ≤ length rest

pub framed : (rest : List ℕ) → AllHold (frame_checks rest) → Framed rest
framed rest a = record {
  head = ltb-false (length rest) head_size a.0;
  small = ltb-false session_limit.0 (size_in rest).0 a.1.1.0;
  whole = ltb-false (length rest) (head_size + (size_in rest).0) a.1.1.1.0;
}

-- the frame at a place of a buffer, by what the stream answers there
pub record FrameLies (s : List ℕ) (at : ℕ) (f : Frame) : Type 0 where
  pub passes : first (frame_checks (drop at s)) ≡ none
  pub kind : f.kind ≡ kind_in (drop at s)
  pub start : f.start ≡ at + head_size
  pub next : f.next ≡ at + (head_size + (size_in (drop at s)).0)
  pub order : f.start ≤ f.next
  pub within : f.next ≤ length s
  pub small : f.next ≤ f.start + session_limit.0
  pub body : take (f.next - f.start) (drop f.start s) ≡ body_in (drop at s)
  pub rest : drop f.next s ≡ after (drop at s)

frame_lies : (s : List ℕ) (at : ℕ) → first (frame_checks (drop at s)) ≡ none → FrameLies s at (frame_in (drop at s) at)
frame_lies s at passes =
    let g = framed (drop at s) (all_hold (frame_checks (drop at s)) passes) in
    let z = (size_in (drop at s)).0 in
    let l = length-drop at s in
    let d : at + (head_size + z) - (at + head_size) ≡ z = omega arith in
    record {
      passes = passes;
      kind = refl;
      start = refl;
      next = refl;
      order = omega arith;
      within = omega arith;
      small = omega arith;
      body = ap (λ (n : ℕ). take n (drop (at + head_size) s)) d ∙ ap (λ (x : List ℕ). take z x) (sym (drop-drop head_size at s));
      rest = sym (drop-drop (head_size + z) at s);
    }

-- by the answer: where the stream ends nothing is left, so that a frame there is cut off
abbrev pub FrameSays : List ℕ → ℕ → Result (Option Frame) Refusal → Type 0
FrameSays s at (Ok None) = first (frame_checks (drop at s)) ≡ some 1
FrameSays s at (Ok (Some f)) = FrameLies s at f
FrameSays s at (Err r) = first (frame_checks (drop at s)) ≡ some (number r)

pub frame-says : (s : List ℕ) (at : ℕ) {r r' : Result (Option Frame) Refusal} → tell_frame r ≡ frame_at s at → r ≡ r' → FrameSays s at r'
unfolding frame_at
frame-says s at {r} {r'} e is = go (eqb at (length s)) refl (sym e ∙ ap tell_frame is)
  where
    by-checks : (r : Result (Option Frame) Refusal) → rule (frame_checks (drop at s)) (frame (frame_in (drop at s) at)) ≡ tell_frame r → FrameSays s at r
    by-checks (Ok None) q = never (cc (rule_given (frame_checks (drop at s)) (frame (frame_in (drop at s) at)) end q).1)
    by-checks (Ok (Some f)) q =
        let p = rule_given (frame_checks (drop at s)) (frame (frame_in (drop at s) at)) (frame f) q in
        subst (λ (x : Frame). FrameLies s at x) (cc p.1) (frame_lies s at p.0)
    by-checks (Err r) q = rule_refused (frame_checks (drop at s)) (frame (frame_in (drop at s) at)) (number r) q

    go : (t : Bool) → eqb at (length s) ≡ t
        → pick t (given end) (rule (frame_checks (drop at s)) (frame (frame_in (drop at s) at))) ≡ tell_frame r' → FrameSays s at r'
    go true p q =
        let l : length s ≤ at = omega (arith, eqb-true at (length s) p) in
        subst (λ (x : Result (Option Frame) Refusal). FrameSays s at x) (frame_apart (Ok None) r' q) (rw (drop_of_length-le s {i = at} l))
    go false p q = by-checks r' q

-- ---- a header
pub record HeaderFits (b : List ℕ) : Type 0 where
  pub long : header_size ≤ length b
  pub low : 1 ≤ (header_in b).number
  pub high : (header_in b).number ≤ (header_in b).segments
  pub most : (header_in b).segments ≤ most_segments

pub header-fits : (b : List ℕ) → AllHold (header_checks b) → HeaderFits b
header-fits b a =
    let later = later_hold b a in
    record {
      long = ltb-false (length b) header_size a.0;
      most = ltb-false most_segments (header_in b).segments later.1.1.0;
      low = ltb-false (header_in b).number 1 later.1.1.1.0;
      high = ltb-false (header_in b).segments (header_in b).number later.1.1.1.1.0;
    }

pub header-given : (b : List ℕ) (h : Header) → header_of b ≡ given h → (first (header_checks b) ≡ none) × (header_in b ≡ h)
unfolding header_of
header-given b h e = rule_given (header_checks b) (header_in b) h e

pub header_refused : (b : List ℕ) (n : ℕ) → header_of b ≡ refused n → first (header_checks b) ≡ some n
unfolding header_of
header_refused b n e = rule_refused (header_checks b) (header_in b) n e

-- ---- a frame's own checks: the frame's, 9, the header's
module _ (rest : List ℕ) where
  pub own_frame : (n : ℕ) → first (frame_checks rest) ≡ some n → first (own_checks rest) ≡ some n
  own_frame n e = first-append-some (frame_checks rest) (check 9 (not_data rest) ∷ header_checks (body_in rest)) n e

  pub own_kind : first (frame_checks rest) ≡ none → (kind_in rest ≡ data_kind → ⊥) → first (own_checks rest) ≡ some 9
  own_kind e ne =
      first-append-none (frame_checks rest) (check 9 (not_data rest) ∷ header_checks (body_in rest)) e ∙ simp (ne_eqb (kind_in rest) data_kind ne)

  pub own_header : first (frame_checks rest) ≡ none → kind_in rest ≡ data_kind → first (own_checks rest) ≡ first (header_checks (body_in rest))
  own_header e k =
      first-append-none (frame_checks rest) (check 9 (not_data rest) ∷ header_checks (body_in rest)) e ∙ simp (eq-eqb (kind_in rest) data_kind k)
