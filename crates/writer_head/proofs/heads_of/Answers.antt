-- `heads_of` meets its contract: its bytes are those of the two tables. Assumes nothing.
use mathlib.Core.Path.{◌≡◌, ap, ◌∙◌}
use Prim.Native.Nat.{◌%◌}
use native.Mathlib.Omega.{arith}
use Rattle.wire.specs.Numbers.{stored}
use Rattle.wire.specs.declared.Halfwords.{Halfwords}
use Rattle.writer_head.specs.Head.{header_for, heads}
use Rattle.writer_head.specs.Steps.{size_written, high_written, low_written}
use Rattle.writer_head.proofs.HeadLaws.{header-bytes}
use Rattle.writer_head.proofs.heads_of.Goals as goal

pub high_field-requires : goal.high_field-requires
high_field-requires c = omega (arith, ap (λ (h : Halfwords). h.0) c.to_halfwords-half.ensures)

pub low_field-requires : goal.low_field-requires
low_field-requires c = omega (arith, ap (λ (h : Halfwords). h.0) c.to_halfwords-half.ensures)

pub returns : goal.returns
unfolding heads stored
returns c =
    let a = c.args in
    let half = c.to_halfwords-half.ensures in
    let size = c.size_field.ensures ∙ ap size_written half in
    let high = c.high_field.ensures ∙ ap (high_written a.n) half in
    let low = c.low_field.ensures ∙ ap (low_written a.k) half in
    let channel : a.given.channel % 256 ≡ a.given.channel = omega arith in
    let kind : a.given.kind % 256 ≡ a.given.kind = omega arith in
    let header = header-bytes (header_for a.given a.n a.k a.size) in
    simp (
      ← header,
      channel,
      kind,
      c.store-8.ensures,
      c.store-7.ensures,
      c.store-6.ensures,
      c.store-5.ensures,
      c.store-4.ensures,
      c.store-3.ensures,
      c.store-2.ensures,
      c.store.ensures,
      ← size,
      ← high,
      ← low,
    )
