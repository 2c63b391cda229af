-- Laws of one written frame: its length, and the output after it is written. Assumes nothing.
use Prim.Native.Nat.{ℕ, ◌+◌, ◌-◌, ◌*◌}
use native.Mathlib.Omega.{arith}
use mathlib.Core.Path.{◌≡◌, refl, sym, ap, ◌∙◌}
use mathlib.Core.List.{List, [], ◌∷◌, ◌++◌, append_assoc, flatten}
use lib.ListN.{length, take, drop, length-append}
use lib.Seq.{take_at, drop_at, drop-drop}
use Rattle.wire.specs.Sizes.{bytes}
use Rattle.wire.specs.Writing.{filled}
use Rattle.wire.specs.declared.Bytes.{Bytes}
use Rattle.wire.specs.Tables.{render}
use Rattle.frame.specs.Session.{head_table, head_size, data_kind}
use Rattle.header.specs.Header.{header_size, header_table}
use Rattle.header_form.proofs.WrittenLaws.{header-long}
use Rattle.writer_head.specs.declared.Given.{Given}
use Rattle.writer_head.specs.Head.{header_for, heads_size, heads}
use Rattle.writer.specs.Writing.{frame_of, frames_from}

pub heads-length : (given : Given) (n k : ℕ) (size : Bytes) → length (heads given n k size) ≡ heads_size
unfolding heads
heads-length given n k size =
    let h = header_for given n k size in
    length-append (render (head_table data_kind 0 size)) (render (header_table h)) ∙ ap (λ (l : ℕ). head_size + l) (header-long h)

pub frame-length : (given : Given) (n k : ℕ) (part : List ℕ) → length (frame_of given n k part) ≡ heads_size + length part
unfolding frame_of
frame-length given n k part =
    let size = bytes (header_size + length part) in
    length-append (heads given n k size) part ∙ ap (λ (l : ℕ). l + length part) (heads-length given n k size)

pub frames_length : (given : Given) (n k : ℕ) (parts : List (List ℕ))
    → length (frames_from given n k parts) ≡ length (flatten parts) + heads_size * length parts
unfolding frames_from flatten
frames_length given n k [] = refl
frames_length given n k (part ∷ parts) =
    simp length-append (omega (arith, frame-length given n k part, frames_length given n (k + 1) parts))

-- the heads in front and then the data: the frame, and the rest as it was
pub frame_done : (given : Given) (n k : ℕ) (part out h d : List ℕ) → h ≡ heads given n k (bytes (header_size + length part)) → d ≡ part
    → take heads_size (h ++ drop heads_size out)
    ++ (d ++ drop (heads_size + length part - heads_size) (drop heads_size (h ++ drop heads_size out)))
    ≡ filled (frame_of given n k part) out
unfolding frame_of
frame_done given n k part out h d e f =
    let l : length h ≡ heads_size = ap length e ∙ heads-length given n k (bytes (header_size + length part)) in
    let z : heads_size + length part - heads_size ≡ length part = omega arith in
    let whole : length (h ++ part) ≡ heads_size + length part = length-append h part ∙ ap (λ (x : ℕ). x + length part) l in
    let left = drop heads_size out in
    rw (take_at h left heads_size l, drop_at h left heads_size l, z, drop-drop (length part) heads_size out, ← e, f, whole)
    (sym (append_assoc h part (drop (heads_size + length part) out)))
