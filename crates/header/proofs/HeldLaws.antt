-- What the checks of an accepted header say, in either form. Assumes nothing.
use Prim.Native.Nat.{ℕ, ◌*◌, ◌/◌}
use native.Mathlib.Omega.{arith}
use mathlib.Core.Path.{◌≡◌, refl, sym, ap, ◌∙◌, subst}
use mathlib.Core.Bool.{Bool, true, false}
use mathlib.Core.List.{List, []}
use lib.Dec.{ltb, eqb}
use lib.ListN.{length}
use borrow.Author.Tests.{lt-ltb, eqb-true, not-false}
use Rattle.wire.specs.Checks.{pick, Check, AllHold}
use Rattle.wire.proofs.CheckLaws.{never, all_hold_append}
use Rattle.header.specs.declared.Header.{Header}
use Rattle.header.specs.declared.Stored.{Stored}
use Rattle.header_rule.specs.Rules.{size_checks, long_mark, marked, length_in, length_checks, radial_type, segment_size, segment_too_large}
use Rattle.header.specs.Header.{stored_in, is_long, header_in, form_checks_of, later_checks, header_checks}
use Rattle.header_rule.proofs.RuleLaws.{form_long, form_other, even_from}
use Rattle.header.proofs.HeaderLaws.{short_shape, long_shape}

-- what an accepted header's checks say
module _ (b : List ℕ) (a : AllHold (header_checks b)) where
  abbrev s : Stored
  s = stored_in b

  form_holds : AllHold (form_checks_of s (length b))
  form_holds = (all_hold_append (form_checks_of s (length b)) (later_checks (header_in b)) a.1).0

  pub later_hold : AllHold (later_checks (header_in b))
  later_hold = (all_hold_append (form_checks_of s (length b)) (later_checks (header_in b)) a.1).1

  -- in the long form the length's
  pub length_holds : is_long s ≡ true → AllHold (length_checks (length_in s.segments s.number) (length b))
  length_holds e =
      subst (λ (ks : List Check). AllHold ks) (form_long s.size s.kind s.segments s.number (length b) e) form_holds

  -- else the size's: of another type 65,535 is above 1,208
  pub size_holds : is_long s ≡ false → AllHold (size_checks s.size (length b))
  unfolding header_in
  size_holds e = go (marked s.size) refl
      (subst (λ (ks : List Check). AllHold ks) (form_other s.size s.kind s.segments s.number (length b) e) form_holds)
    where
      small : segment_too_large s.size s.kind ≡ false
      small = sym (ap (λ (h : Header). segment_too_large h.size h.kind) (short_shape s e)) ∙ later_hold.1.1.1.1.1.1.0

      other : (u : Bool) → eqb s.kind radial_type ≡ u → marked s.size ≡ true → AllHold (size_checks s.size (length b))
      other true u m = let long : is_long s ≡ true = rw (m, u) in never (cc (sym e ∙ long))
      other false u m =
          let is : s.size.0 ≡ long_mark.0 = eqb-true s.size.0 long_mark.0 m in
          let large : ltb segment_size.0 s.size.0 ≡ true = lt-ltb segment_size.0 s.size.0 (omega (arith, is)) in
          let broken : segment_too_large s.size s.kind ≡ true = rw (u, large) in
          never (cc (sym small ∙ broken))

      go : (t : Bool) → marked s.size ≡ t → AllHold (pick t [] (size_checks s.size (length b)))
          → AllHold (size_checks s.size (length b))
      go true m h = other (eqb s.kind radial_type) refl m
      go false m h = h

  -- and the size that is reported is the true one
  pub true_size : (header_in b).size.0 * 2 ≡ length b
  unfolding header_in
  true_size = go (is_long s) refl
    where
      go : (t : Bool) → is_long s ≡ t → (header_in b).size.0 * 2 ≡ length b
      go true e =
          let z = length_in s.segments s.number in
          let size : (header_in b).size.0 ≡ z.0 / 2 = ap (λ (h : Header). h.size.0) (long_shape s e) in
          let is : z.0 ≡ length b = eqb-true z.0 (length b) (not-false _ (length_holds e).1.1.1.0) in
          omega (arith, size, is, even_from z.0 (length_holds e).0)
      go false e =
          let h = size_holds e in
          let size : (header_in b).size.0 ≡ s.size.0 = ap (λ (h : Header). h.size.0) (short_shape s e) in
          let half : length b / 2 ≡ s.size.0 = eqb-true (length b / 2) s.size.0 (not-false _ h.1.1.1.0) in
          omega (arith, size, half, even_from (length b) h.1.1.0)
