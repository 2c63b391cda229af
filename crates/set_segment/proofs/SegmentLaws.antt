-- A frame's body, read as a segment. Assumes nothing.
use Prim.Native.Nat.{ℕ, ◌+◌, ◌-◌}
use mathlib.Core.Path.{◌≡◌, sym, ap, ◌∙◌}
use mathlib.Core.Option.{none, some}
use mathlib.Core.List.{List}
use native.Mathlib.Omega.{arith}
use lib.ListN.{take, drop}
use Rattle.wire.specs.Checks.{first}
use Rattle.wire.specs.Answers.{refused, given}
use Rattle.wire.proofs.CheckLaws.{decide-none, decide-some}
use Rattle.frame.specs.declared.Frame.{Frame}
use Rattle.frame.specs.Session.{head_size, data_kind, body_in}
use Rattle.header.specs.declared.Header.{Header}
use Rattle.header.specs.Header.{header_size, header_of}
use Rattle.set_spec.specs.Segment.{placed_in, own_checks, segment_at}
use Rattle.set_spec.proofs.FrameFacts.{FrameLies, header-given, header_refused, own_header}

-- a check that refuses it
pub told_refused : (s : List ℕ) (at n : ℕ) → first (own_checks (drop at s)) ≡ some n → refused n ≡ segment_at s at
unfolding segment_at
told_refused s at n e = sym (decide-some (own_checks (drop at s)) refused (given (placed_in (drop at s) at)) n e)

module _ {s : List ℕ} {at : ℕ} {f : Frame} (l : FrameLies s at f) (k : f.kind ≡ data_kind) where
  pub header_broken : {n : ℕ} → header_of (take (f.next - f.start) (drop f.start s)) ≡ refused n → refused n ≡ segment_at s at
  header_broken {n} e =
      told_refused s at n
      (own_header (drop at s) l.passes (sym l.kind ∙ k) ∙ header_refused (body_in (drop at s)) n (ap header_of (sym l.body) ∙ e))

  pub told_read : {h : Header} → header_of (take (f.next - f.start) (drop f.start s)) ≡ given h
      → given (record { header = h; start = f.start + header_size; next = f.next }) ≡ segment_at s at
  unfolding segment_at
  told_read {h} e =
      let p = header-given (body_in (drop at s)) h (ap header_of (sym l.body) ∙ e) in
      let passes : first (own_checks (drop at s)) ≡ none = own_header (drop at s) l.passes (sym l.kind ∙ k) ∙ p.0 in
      let begins : f.start + header_size ≡ at + (head_size + header_size) = omega (arith, l.start) in
      (λ i. given (record { header = sym p.1 i; start = begins i; next = l.next i }))
      ∙ sym (decide-none (own_checks (drop at s)) refused (given (placed_in (drop at s) at)) passes)
