-- Laws of the whole message: its length, and the writer's answer by one test for each number. Assumes nothing.
use Prim.Native.Nat.{ℕ, ◌+◌, ◌*◌, ◌%◌, ◌^◌, ◌≤◌, ◌<◌}
use native.Mathlib.Omega.{arith}
use mathlib.Core.Path.{◌≡◌, refl, sym, ap, ◌∙◌}
use mathlib.Core.Bool.{Bool, true, false}
use mathlib.Core.List.{List, [], ◌∷◌}
use lib.Dec.{ltb}
use lib.ListN.{length}
use borrow.Author.Tests.{lt-ltb, le-ltb, eq-eqb, ne_eqb}
use Rattle.wire.specs.Checks.{pick, Check, check, some_broken}
use Rattle.wire.specs.Answers.{Outcome, Promise, refusal}
use Rattle.wire.specs.Writing.{filled, wrote, tell_write}
use Rattle.wire.specs.Sizes.{bytes, odd}
use Rattle.wire.specs.declared.Bytes.{Bytes}
use Rattle.std.specs.Prelude.{Result, Ok, Err}
use Rattle.wire.specs.Refusals.{number}
use Rattle.wire.specs.declared.refusal.Refusal.{Refusal}
use Rattle.wire.specs.declared.refusal.Refusal.TheVariants.{«Type», DateOrTime, OddBody, LongBody, OutputSmall}
use Rattle.wire.proofs.AnswerLaws.{kept}
use Rattle.wire.proofs.CheckLaws.{decide-same}
use Rattle.header_rule.specs.Rules.{not_permitted, most_segments, time_checks}
use Rattle.writer_head.specs.declared.Given.{Given}
use Rattle.writer_head.specs.Head.{heads_size}
use Rattle.writer.specs.Writing.{segments_of, frames_of, longest, write_of}
use Rattle.writer.proofs.CutLaws.{segments-joined, count_most}
use Rattle.writer.proofs.FrameLaws.{frames_length}

pub message_length : (g : Given) (body : List ℕ) → length (frames_of g body) ≡ length body + heads_size * length (segments_of g.kind body)
unfolding frames_of
message_length g body =
    let parts = segments_of g.kind body in
    frames_length g (length parts) 1 parts ∙ ap (λ (l : List ℕ). length l + heads_size * length parts) (segments-joined g.kind body)

-- the length as it is computed
whole_is : (g : Given) (body : List ℕ) (n : ℕ) → n ≡ length (segments_of g.kind body)
    → length body + heads_size * n ≡ length (frames_of g body)
whole_is g body n e = rw e (sym (message_length g body))

-- what is computed of a body within the limit is small
module _ (kind : ℕ) (body : List ℕ) (limit : ℕ) (l : limit ≡ (longest kind).0) (h : length body ≤ limit) where
  pub body_small : length body < 2 ^ 31
  body_small = (count_most kind body (omega arith)).0

  pub few_segments : (n : ℕ) → n ≡ length (segments_of kind body) → n ≤ most_segments
  few_segments n e = omega (arith, (count_most kind body (omega arith)).1)

pub has_room : (g : Given) (body out : List ℕ) (n : ℕ) → n ≡ length (segments_of g.kind body) → length body + heads_size * n ≤ length out
    → length (frames_of g body) ≤ length out
has_room g body out n e h = rw (← whole_is g body n e) h

write_decides : (g : Given) (body out : List ℕ)
    → write_of g body out
    ≡ pick (not_permitted g.kind) (refusal out 6)
    (pick (some_broken (time_checks g.date g.milliseconds)) (refusal out 8)
    (pick (odd (length body)) (refusal out 25)
    (pick (ltb (longest g.kind).0 (length body)) (refusal out 26)
    (pick (ltb (length out) (length (frames_of g body))) (refusal out 13) (wrote (frames_of g body) out)))))
unfolding write_of
write_decides g body out =
    let last : List Check =
    check 25 (odd (length body)) ∷ check 26 (ltb (longest g.kind).0 (length body)) ∷ check 13
    (ltb (length out) (length (frames_of g body))) ∷ []
    in
    ap (λ (x : Outcome (List ℕ) Bytes). pick (not_permitted g.kind) (refusal out 6) x)
    (decide-same 8 (time_checks g.date g.milliseconds) last (refusal out) (wrote (frames_of g body) out) (refl, (refl, tt)))

-- the writer's answer by the tests in their order, with what was computed for them
module _ (g : Given) (body out : List ℕ) where
  abbrev Writes : Result Bytes Refusal → List ℕ → Type 0
  Writes r after = Promise tell_write (write_of g body out) r after

  refuses : (r : Refusal) → write_of g body out ≡ refusal out (number r) → Writes (Err r) out
  refuses r e = kept tell_write (write_of g body out) (Err r) out out e refl

  module _ (type : Bool) (t : type ≡ not_permitted g.kind) where
    pub type-refused : type ≡ true → Writes (Err «Type») out
    type-refused b = refuses «Type» (write_decides g body out ∙ simp (← t, b))

    module _ (permitted : type ≡ false) (time : Bool) (s : time ≡ some_broken (time_checks g.date g.milliseconds)) where
      pub time-refused : time ≡ true → Writes (Err DateOrTime) out
      time-refused b = refuses DateOrTime (write_decides g body out ∙ simp (← t, permitted, ← s, b))

      module _ (timely : time ≡ false) where
        pub odd_refused : (length body % 2 ≡ 0 → ⊥) → Writes (Err OddBody) out
        odd_refused b = refuses OddBody (write_decides g body out ∙ simp (← t, permitted, ← s, timely, ne_eqb (length body % 2) 0 b))

        module _ (even : length body % 2 ≡ 0) (limit : ℕ) (l : limit ≡ (longest g.kind).0) where
          by-limit : write_of g body out
              ≡ pick (ltb limit (length body)) (refusal out 26)
              (pick (ltb (length out) (length (frames_of g body))) (refusal out 13) (wrote (frames_of g body) out))
          by-limit = write_decides g body out ∙ simp (← t, permitted, ← s, timely, eq-eqb (length body % 2) 0 even, ← l)

          pub long-refused : limit < length body → Writes (Err LongBody) out
          long-refused b = refuses LongBody (by-limit ∙ simp (lt-ltb limit (length body) b))

          module _ (short : length body ≤ limit) (n : ℕ) (e : n ≡ length (segments_of g.kind body)) where
            by_room : write_of g body out
                ≡ pick (ltb (length out) (length body + heads_size * n)) (refusal out 13) (wrote (frames_of g body) out)
            by_room = by-limit ∙ simp (le-ltb limit (length body) short, whole_is g body n e)

            pub room-refused : length out < length body + heads_size * n → Writes (Err OutputSmall) out
            room-refused b = refuses OutputSmall (by_room ∙ simp (lt-ltb (length out) (length body + heads_size * n) b))

            pub wrote-frames : length body + heads_size * n ≤ length out → (after : List ℕ) → after ≡ filled (frames_of g body) out
                → Writes (Ok (bytes (length body + heads_size * n))) after
            wrote-frames b after a =
                kept tell_write (write_of g body out) (Ok (bytes (length body + heads_size * n))) after (filled (frames_of g body) out)
                (by_room ∙ simp (le-ltb (length out) (length body + heads_size * n) b) (rw (whole_is g body n e) refl)) a
