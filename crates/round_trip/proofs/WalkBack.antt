-- All frames of a written message, walked: the segments met are those that were written, in order. Assumes nothing.
use Prim.Native.Nat.{ℕ, ◌+◌, ◌≤◌}
use native.Mathlib.Omega.{arith}
use mathlib.Core.Path.{◌≡◌, refl, sym, ap, subst, ◌∙◌}
use mathlib.Core.Bool.{false, not}
use mathlib.Core.Option.{none}
use mathlib.Core.List.{List, [], ◌∷◌, ◌++◌, append_assoc, append-nil}
use lib.Dec.{eqb}
use lib.ListN.{length, length-append}
use borrow.Author.Tests.{eq-eqb, ne_eqb}
use Rattle.wire.specs.Checks.{Check, check, AllHold}
use Rattle.wire.specs.Sizes.{bytes}
use Rattle.wire.specs.Answers.{given}
use Rattle.wire.proofs.CheckLaws.{none_broken, all_hold_join}
use Rattle.set_spec.specs.Segment.{Segment, segment_in, own_checks, agree_checks, numbered, found}
use Rattle.frame.specs.Walk.{answers}
use Rattle.frame.proofs.WalkLaws.{walked_end, walk_goes}
use Rattle.set_spec.specs.Walk.{first_or, seen, turn_checks, each_frame, walk}
use Rattle.frame.proofs.FrontLaws.{frames_take}
use Rattle.header.specs.Header.{header_size}
use Rattle.writer_head.specs.Head.{header_for, heads_size}
use Rattle.writer.specs.Writing.{frame_of, frames_from}
use Rattle.writer_head.specs.declared.Given.{Given}
use Rattle.writer.proofs.FrameLaws.{frame-length}
use Rattle.round_trip.proofs.FrameBack.{Sound, PartFits, segment_back, after_back, frame_holds}
use Rattle.round_trip.proofs.PartLaws.{AllFit}

-- the segments as they were written, from number k on
abbrev pub segment : Given → ℕ → ℕ → List ℕ → Segment
segment g n k part = record { header = header_for g n k (bytes (header_size + length part)); content = part }

unfoldable pub written : Given → ℕ → ℕ → List (List ℕ) → List Segment
written g n k [] = []
written g n k (part ∷ parts) = segment g n k part ∷ written g n (k + 1) parts

-- one more at the end
pub written_more : (g : Given) (n k : ℕ) (done : List (List ℕ)) (part : List ℕ) (j : ℕ) → k + length done ≡ j
    → written g n k done ++ (segment g n j part ∷ []) ≡ written g n k (done ++ (part ∷ []))
unfolding written
written_more g n k [] part j e = let z : j ≡ k = omega arith in rw z refl
written_more g n k (d ∷ done) part j e =
    ap (λ (l : List Segment). segment g n k d ∷ l) (written_more g n (k + 1) done part j (omega arith))

-- a number past the last is not met yet
pub unmet : (g : Given) (n k : ℕ) (done : List (List ℕ)) (j : ℕ) → k + length done ≤ j → numbered (written g n k done) j ≡ none
unfolding written numbered
unmet g n k [] j h = refl
unmet g n k (d ∷ done) j h = simp (ne_eqb k j (λ e. omega arith)) (unmet g n (k + 1) done j (omega arith))

same : (x : ℕ) → not (eqb x x) ≡ false
same x = simp (eq-eqb x x refl)

-- each agrees with the first of those written before it
agrees : (g : Given) (n : ℕ) (done : List (List ℕ)) (k : ℕ) (part : List ℕ)
    → AllHold (agree_checks (first_or (written g n 1 done) (segment g n k part).header) (segment g n k part).header)
unfolding written
agrees g n [] k part = (same g.channel, (same g.kind, (same g.date, (same g.milliseconds, (same n, tt)))))
agrees g n (d ∷ done) k part = (same g.channel, (same g.kind, (same g.date, (same g.milliseconds, (same n, tt)))))

-- what a frame is checked for after its own checks
abbrev after_own : List Segment → Segment → List Check
after_own gs x = agree_checks (first_or gs x.header) x.header ++ (check 11 (seen gs x.header.number) ∷ [])

module _ (g : Given) (n : ℕ) (s : Sound g n) where
  -- the checks of a frame's turn, where those before it were met
  turn_holds : (done : List (List ℕ)) (k : ℕ) (part rest : List ℕ) → PartFits g.kind part → 1 + length done ≡ k → k ≤ n
      → AllHold (turn_checks (written g n 1 done) (frame_of g n k part ++ rest))
  turn_holds done k part rest p e h =
      let gs = written g n 1 done in
      let f = frame_of g n k part ++ rest in
      let u : seen gs k ≡ false = ap found (unmet g n 1 done k (omega arith)) in
      all_hold_join (own_checks f) (after_own gs (segment_in f)) (frame_holds g n k part rest s p (omega arith) h)
      (subst (λ (x : Segment). AllHold (after_own gs x)) (sym (segment_back g n k part rest s p (omega arith) h))
      (all_hold_join
      (agree_checks (first_or gs (segment g n k part).header) (segment g n k part).header)
      (check 11 (seen gs k) ∷ [])
      (agrees g n done k part)
      (u, tt)))

  pub walk_all : (parts done : List (List ℕ)) (k : ℕ) → AllFit g.kind parts → 1 + length done ≡ k → k + length parts ≤ n + 1
      → walk (written g n 1 done) (frames_from g n k parts) ≡ given (written g n 1 (done ++ parts))
  unfolding frames_from
  walk_all [] done k a e h =
      walked_end (answers each_frame) frames_take (written g n 1 done) [] refl
      ∙ ap (λ (l : List (List ℕ)). given (written g n 1 l)) (sym (append-nil done))
  walk_all (part ∷ parts) done k a e h =
      let gs = written g n 1 done in
      let rest = frames_from g n (k + 1) parts in
      let f = frame_of g n k part ++ rest in
      let l : length f ≡ heads_size + length part + length rest
      = length-append (frame_of g n k part) rest ∙ omega (arith, frame-length g n k part) in
      let low : 1 ≤ k = omega arith in
      let high : k ≤ n = omega arith in
      let more : gs ++ (segment_in f ∷ []) ≡ written g n 1 (done ++ (part ∷ []))
      = ap (λ (x : Segment). gs ++ (x ∷ [])) (segment_back g n k part rest s a.0 low high) ∙ written_more g n 1 done part k e in
      let d : 1 + length (done ++ (part ∷ [])) ≡ k + 1 = simp length-append (omega arith) in
      walk_goes each_frame frames_take gs f (omega arith) (none_broken (turn_checks gs f) (turn_holds done k part rest a.0 e high))
      ∙ ap (λ (x : List ℕ). walk (gs ++ (segment_in f ∷ [])) x) (after_back g n k part rest s a.0 low high)
      ∙ ap (λ (x : List Segment). walk x rest) more
      ∙ walk_all parts (done ++ (part ∷ [])) (k + 1) a.1 d (omega arith)
      ∙ ap (λ (x : List (List ℕ)). given (written g n 1 x)) (append_assoc done (part ∷ []) parts)
