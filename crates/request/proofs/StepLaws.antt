-- What each way through the reader and the writer comes to. Assumes nothing.
use Prim.Native.Nat.{ℕ, ◌≤◌, ◌<◌}
use native.Mathlib.Omega.{arith}
use mathlib.Core.Path.{◌≡◌}
use mathlib.Core.Bool.{true, false}
use mathlib.Core.List.{List}
use borrow.Author.Tests.{eq-eqb, ne_eqb, lt-ltb, le-ltb}
use lib.Dec.{ltb}
use lib.ListN.{length, get_or}
use Rattle.wire.specs.Numbers.{num, be}
use Rattle.wire.specs.Answers.{refused, given, refusal}
use Rattle.wire.specs.Writing.{wrote}
use Rattle.form_spec.specs.Forms.{outside}
use Rattle.wire.proofs.NumberLaws.{number_is, stored-whole}
use Rattle.wire.proofs.CheckLaws.{pick_same}
use Rattle.request.specs.Request.{permitted, request_of, request_written}

-- ---- the reader
module _ (body : List ℕ) where
  pub body_long : (length body ≡ 2 → ⊥) → request_of body ≡ refused 23
  unfolding request_of
  body_long h = simp (ne_eqb (length body) 2 h) (pick_same (ltb (length body) 2) (refused 23))

  module _ (code : ℕ) (h : length body ≡ 2) (e : num 2 body 0 ≡ code) where
    pub body-code : outside permitted code ≡ true → request_of body ≡ refused 24
    unfolding request_of
    body-code p = simp (le-ltb (length body) 2 (omega arith), eq-eqb (length body) 2 h, e, p)

    pub body-fine : outside permitted code ≡ false → request_of body ≡ given code
    unfolding request_of
    body-fine p = simp (le-ltb (length body) 2 (omega arith), eq-eqb (length body) 2 h, e, p)

-- ---- the writer
module _ (list out : List ℕ) where
  pub list-long : (length list ≡ 1 → ⊥) → request_written list out ≡ refusal out 23
  unfolding request_written
  list-long h = simp (ne_eqb (length list) 1 h) (pick_same (ltb (length list) 1) (refusal out 23))

  module _ (h : length list ≡ 1) where
    pub list_code : outside permitted (get_or list 0 0) ≡ true → request_written list out ≡ refusal out 24
    unfolding request_written
    list_code p = simp (le-ltb (length list) 1 (omega arith), eq-eqb (length list) 1 h, p)

    pub list-room : outside permitted (get_or list 0 0) ≡ false → length out < 2 → request_written list out ≡ refusal out 13
    unfolding request_written
    list-room p r = simp (le-ltb (length list) 1 (omega arith), eq-eqb (length list) 1 h, p, lt-ltb (length out) 2 r)

    pub list-fine : outside permitted (get_or list 0 0) ≡ false → 2 ≤ length out → request_written list out ≡ wrote (be 2 (get_or list 0 0)) out
    unfolding request_written
    list-fine p r = simp (le-ltb (length list) 1 (omega arith), eq-eqb (length list) 1 h, p, le-ltb (length out) 2 r)

-- ---- what the check tries on the reader and on the writer
pub ruleset reads = (body_long, body-code, body-fine, number_is)

pub ruleset writes = (list-long, list_code, list-room, list-fine, stored-whole)
