-- `write_frame` meets its contract: the heads, then the data, and the rest as it was. Assumes nothing.
use Rattle.writer.proofs.FrameLaws.{heads-length, frame_done}
use Rattle.writer_head.specs.Head.{heads_size}
use lib.Seq.{length-take-le}
use lib.ListN.{length, take}
use mathlib.Core.Path.{◌≡◌, sym, ap, ◌∙◌}
use Rattle.copy.proofs.CopyLaws.{copied-same}
use borrow.Author.Rules.{rules}
use Rattle.writer.proofs.write_frame.Goals as goal

pub slice_bounds-copy-end-3 : goal.slice_bounds-copy-end-3
slice_bounds-copy-end-3 c =
    let args = c.args in
    sym (length-take-le heads_size args.out.now (search rules))

pub returns : goal.returns
returns c =
    let copy = c.copy in
    let out = c.args.out.now in
    let l : length c.heads_of-head.result ≡ length (take heads_size out) =
    ap length c.heads_of-head.ensures ∙ heads-length _ _ _ _ ∙ sym (length-take-le heads_size out (search rules))
    in
    frame_done _ _ _ _ _ _ _
    (copy.ensures ∙ copied-same _ _ l ∙ c.heads_of-head.ensures)
    (c.copy-2.ensures ∙ copied-same _ _ (search rules))
