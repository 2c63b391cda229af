-- What stands in the first bytes of a recording, and in all of it. Assumes nothing.
use Prim.Native.Nat.{ℕ, ◌-◌, ◌≤◌}
use native.Mathlib.Omega.{arith}
use mathlib.Core.Path.{◌≡◌, refl, sym, ap, subst, ◌∙◌}
use mathlib.Core.Bool.{Bool, true, false}
use mathlib.Core.List.{List, ◌++◌, append_assoc}
use lib.ListN.{length, take, drop, length-drop, take-append-drop}
use lib.Seq.{take-append-le, drop-append-le}
use Rattle.wire.proofs.CheckLaws.{never}
use Rattle.set_spec.specs.Whole.{Passes}
use Rattle.frame.specs.Session.{whole_long}
use Rattle.salvage_spec.specs.Walk.{stands, whole}
use Rattle.salvage_spec.specs.Theorems.{most_frame, ByWindow}
use Rattle.salvage_spec.proofs.WalkLaws.{stands-not, stands-long, whole-joined, whole-passes, passes-stands}

-- a frame that stands still stands with more bytes after it
stands_more : (part rest : List ℕ) → stands part ≡ true → stands (part ++ rest) ≡ true
stands_more part rest e =
    let after = drop (whole_long part) part in
    ap stands (ap (λ (b : List ℕ). b ++ rest) (sym (whole-joined part)) ∙ append_assoc (whole part) after rest)
    ∙ passes-stands (whole part) (after ++ rest) (whole-passes part e)

-- and with fewer, if the longest frame fits in
stands-less : (part rest : List ℕ) → most_frame ≤ length part → stands (part ++ rest) ≡ true → stands part ≡ true
stands-less part rest h e =
    let s = stands-long (part ++ rest) e in
    let n = whole_long (part ++ rest) in
    let p : Passes (take n part) = subst Passes (take-append-le n part rest (omega (arith, s.most))) (whole-passes (part ++ rest) e) in
    ap stands (sym (take-append-drop n part)) ∙ passes-stands (take n part) (drop n part) p

stands_same : (part rest : List ℕ) → most_frame ≤ length part → stands (part ++ rest) ≡ stands part
stands_same part rest h = go (stands part) refl
  where
    go : (t : Bool) → stands part ≡ t → stands (part ++ rest) ≡ t
    go true e = stands_more part rest e
    go false e = stands-not (part ++ rest) (λ q. never (cc (sym (stands-less part rest h q) ∙ e)))

pub through : ByWindow
through window rest place =
    let part = drop place window in
    let l : length part ≡ length window - place = length-drop place window in
    record {
      stays = λ e.
          let s = stands-long part e in
          ap stands (drop-append-le place window rest (omega (arith, s.inside, s.least))) ∙ stands_more part rest e;
      same = λ h. ap stands (drop-append-le place window rest (omega arith)) ∙ stands_same part rest (omega arith);
    }
