-- The loop that writes the frames: what holds when its test is reached, and what a turn does to it. Assumes nothing.
use Prim.Native.Nat.{ℕ, ◌+◌, ◌-◌, ◌^◌, ◌≤◌, ◌<◌}
use native.Mathlib.Omega.{arith}
use mathlib.Core.Path.{◌≡◌, refl, sym, ap, ◌∙◌}
use mathlib.Core.List.{List, [], ◌∷◌, ◌++◌, append_assoc, append-nil}
use lib.Dec.{eqb}
use lib.ListN.{length, take, drop, length-append, length-drop, drop_of_length-le}
use lib.Seq.{drop-drop, length-take-le}
use Rattle.wire.specs.Checks.{pick}
use Rattle.wire.specs.Writing.{filled}
use Rattle.wire.specs.Sheets.{laid}
use Rattle.wire.proofs.ListLaws.{part_is}
use Rattle.wire.proofs.SheetLaws.{laid_more}
use Rattle.header_rule.specs.Rules.{radial_type}
use Rattle.writer_head.specs.declared.Given.{Given}
use Rattle.writer_head.specs.Head.{heads_size}
use Rattle.writer.specs.Writing.{segment_data, cut, segments_of, frame_of, frames_from, frames_of}
use Rattle.writer.proofs.CutLaws.{More, cut-some, cut_more, cut_last, segments-cut}
use Rattle.writer.proofs.FrameLaws.{frame-length}

-- frames `done` stand before the place and the rest is as it was; what is left of the body, from `start` on, gives the frames from k on
pub record Writing (given : Given) (n : ℕ) (body out₀ out : List ℕ) (k start place : ℕ) : Type 0 where
  pub done : List ℕ
  pub cuts : ℕ
  pub put : out ≡ filled done out₀
  pub long : length done ≡ place
  pub same : done ++ frames_from given n k (cut cuts (drop start body)) ≡ frames_of given body
  pub left : k + length (cut cuts (drop start body)) ≡ n + 1
  pub within : start ≤ length body
  pub room : length (frames_of given body) ≤ length out₀

pub begins : (given : Given) (n : ℕ) (body out : List ℕ) → n ≡ length (segments_of given.kind body)
    → length (frames_of given body) ≤ length out
    → Writing given n body out out 1 0 0
unfolding frames_of
begins given n body out e r =
    let s = segments-cut given.kind body in
    record {
      done = [];
      cuts = pick (eqb given.kind radial_type) 0 (length body);
      put = refl;
      long = refl;
      same = cc (s, e);
      left = omega (arith, e, ap length s);
      within = omega arith;
      room = r;
    }

-- what is written at the start of the output's part from a place on is laid there
part_filled : (whole out last : List ℕ) (place : ℕ) → last ≡ filled whole (take (length out - place) (drop place out))
    → take place out ++ (last ++ drop (length out - place) (drop place out)) ≡ laid out place whole
part_filled whole out last place e =
    let none : drop (length out - place) (drop place out) ≡ [] =
    drop_of_length-le (drop place out) {i = length out - place} (rw length-drop (omega arith))
    in
    rw (none, append-nil, e, part_is) refl

module _ (given : Given) (n : ℕ) (body out₀ out : List ℕ) (k start place : ℕ) (w : Writing given n body out₀ out k start place) where
  all : place + length (frames_from given n k (cut w.cuts (drop start body))) ≡ length (frames_of given body)
  all = let e = ap length w.same in omega (arith, simp length-append at e, w.long)

  pub kept : length out ≡ length out₀
  kept = let e = ap length w.put in omega (arith, simp (length-append, length-drop) at e, w.long, w.room, all)

  -- another part, of any length, and its frame
  module _ (part : List ℕ) (more : List (List ℕ)) (e : cut w.cuts (drop start body) ≡ part ∷ more) where
    frames : frames_from given n k (cut w.cuts (drop start body)) ≡ frame_of given n k part ++ frames_from given n (k + 1) more
    unfolding frames_from
    frames = rw e refl

    fits : place + (heads_size + length part) ≤ length out
    fits =
        let l = ap length frames in
        omega (arith, simp length-append at l, frame-length given n k part, all, w.room, kept)

    -- there is room for it in what is left of the output
    suits : heads_size + length part ≤ length (take (length out - place) (drop place out))
    suits = rw (part_is out place, length-drop) (omega (arith, fits))

    -- once it is written
    wrote : (last : List ℕ) → last ≡ filled (frame_of given n k part) (take (length out - place) (drop place out))
        → take place out ++ (last ++ drop (length out - place) (drop place out)) ≡ filled (w.done ++ frame_of given n k part) out₀
    wrote last f =
        part_filled (frame_of given n k part) out last place f
        ∙ (λ i. laid (w.put i) (sym w.long i) (frame_of given n k part))
        ∙ laid_more out₀ w.done (frame_of given n k part)

    done_more : (w.done ++ frame_of given n k part) ++ frames_from given n (k + 1) more ≡ frames_of given body
    done_more = append_assoc w.done (frame_of given n k part) (frames_from given n (k + 1) more)
        ∙ ap (λ (x : List ℕ). w.done ++ x) (sym frames) ∙ w.same

  -- a turn: a full segment more
  module _ (h : k < n) where
    more : More (drop start body) (cut w.cuts (drop start body))
    more = cut_more w.cuts (drop start body) (omega (arith, w.left))

    pub long : start + segment_data.0 ≤ length body
    long = let m = more.long in omega (arith, simp length-drop at m)

    -- its data, as the code has it, and the segments after it
    abbrev held : List ℕ
    held = take (start + segment_data.0 - start) (drop start body)

    abbrev later : List (List ℕ)
    later = cut more.cuts (drop (start + segment_data.0) body)

    held-is : held ≡ take segment_data.0 (drop start body)
    held-is = let z : start + segment_data.0 - start ≡ segment_data.0 = omega arith in rw z refl

    are : cut w.cuts (drop start body) ≡ held ∷ later
    are = more.are ∙ rw (held-is, drop-drop segment_data.0 start body) refl

    held-long : length held ≡ segment_data.0
    held-long = rw held-is (length-take-le segment_data.0 (drop start body) (rw length-drop (omega (arith, long))))

    pub turn_small : length held < 2 ^ 31
    turn_small = omega (arith, held-long)

    pub turn-room : heads_size + length held ≤ length (take (length out - place) (drop place out))
    turn-room = suits held later are

    pub again : (last : List ℕ) → last ≡ filled (frame_of given n k held) (take (length out - place) (drop place out))
        → Writing given n body out₀ (take place out ++ (last ++ drop (length out - place) (drop place out))) (k + 1)
        (start + segment_data.0) (place + (heads_size + segment_data.0))
    again last f = record {
      done = w.done ++ frame_of given n k held;
      cuts = more.cuts;
      put = wrote held later are last f;
      long = length-append w.done (frame_of given n k held) ∙ omega (arith, frame-length given n k held, w.long, held-long);
      same = done_more held later are;
      left = omega (arith, w.left, ap length are);
      within = long;
      room = w.room;
    }

  -- after the last turn: what is left is the last segment's data
  module _ (h : n ≤ k) where
    abbrev rest : List ℕ
    rest = take (length body - start) (drop start body)

    last-part : cut w.cuts (drop start body) ≡ rest ∷ []
    last-part =
        cut_last w.cuts (drop start body) (omega (arith, w.left, cut-some w.cuts (drop start body)))
        ∙ ap (λ (x : List ℕ). x ∷ []) (sym (part_is body start))

    pub last-small : length body < 2 ^ 31 → length rest < 2 ^ 31
    last-small l = rw (part_is body start, length-drop) (omega arith)

    pub last-room : heads_size + length rest ≤ length (take (length out - place) (drop place out))
    last-room = suits rest [] last-part

    -- its number is n
    ended : n ≡ k
    ended = omega (arith, w.left, cut-some w.cuts (drop start body))

    pub ends : (last : List ℕ) → last ≡ filled (frame_of given n n rest) (take (length out - place) (drop place out))
        → take place out ++ (last ++ drop (length out - place) (drop place out)) ≡ filled (frames_of given body) out₀
    unfolding frames_from
    ends last f =
        let all_done : w.done ++ frame_of given n k rest ≡ frames_of given body = sym (append-nil _) ∙ done_more rest [] last-part in
        let of_k = ap (λ (j : ℕ). filled (frame_of given n j rest) (take (length out - place) (drop place out))) ended in
        wrote rest [] last-part last (f ∙ of_k) ∙ ap (λ (x : List ℕ). filled x out₀) all_done
