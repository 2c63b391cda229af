-- The steps of the reader one after the other: a refusal of one is the radial's, and what one hands on the next begins with. Assumes
-- nothing.
use Prim.Native.Nat.{ℕ}
use mathlib.Core.Path.{◌≡◌, refl, sym, ◌∙◌}
use mathlib.Core.List.{List, []}
use Rattle.wire.specs.Checks.{Check, decide}
use Rattle.wire.specs.Answers.{Answer, refused, given, rule}
use Rattle.wire.proofs.CheckLaws.{decide-none, decide-some}
use Rattle.wire.proofs.AnswerLaws.{rule_given, rule_refused}
use Rattle.radial_spec.specs.Description.{RVOL, RELV, RRAD, volume_least, elevation_least, radial_least, volume_pointer, elevation_pointer}
use Rattle.radial_spec.specs.Description.{radial_pointer}
use Rattle.radial_spec.specs.Refusal.{size_in, pointer, part, block_checks, end_at}
use Rattle.radial_check.specs.Steps.{constant_at, constants_of}

-- if the checks refuse, their number is the result
pub stops : {A B : Type 0} (ks : List Check) (v : A) (n : ℕ) (f : ℕ → B) (x : B) → refused n ≡ rule ks v → f n ≡ decide ks f x
stops ks v n f x e = sym (decide-some ks f x n (rule_refused ks v n (sym e)))

-- if they hold, what follows is the result
pub goes : {A B : Type 0} (ks : List Check) (v w : A) (f : ℕ → B) (x : B) → given w ≡ rule ks v → x ≡ decide ks f x
goes ks v w f x e = sym (decide-none ks f x (rule_given ks v w (sym e)).0)

pub given_is : {A : Type 0} (ks : List Check) (v w : A) → given w ≡ rule ks v → w ≡ v
given_is ks v w e = sym (rule_given ks v w (sym e)).1

-- ---- the three constant blocks: n stands for a name as the code has it
module _ (b : List ℕ) (z from : ℕ) (size : z ≡ size_in b) where
  abbrev checks : ℕ → ℕ → ℕ → ℕ → List Check
  checks from q name least = block_checks q (size_in b) from (pointer b q) (part b q) name least []

  abbrev third : Answer ℕ
  third = decide (checks (end_at b elevation_pointer) radial_pointer RRAD radial_least) refused (given (end_at b radial_pointer))

  abbrev second : Answer ℕ
  second = decide (checks (end_at b volume_pointer) elevation_pointer RELV elevation_least) refused third

  by_rule : {x : Answer ℕ} (f f' q n name least : ℕ) → f ≡ f' → n ≡ name → x ≡ constant_at b z f q n least
      → x ≡ constant_at b (size_in b) f' q name least
  by_rule f f' q n name least p r e = e ∙ (λ i. constant_at b (size i) (p i) q (r i) least)

  pub no_volume : (n k : ℕ) → n ≡ RVOL → refused k ≡ constant_at b z from volume_pointer n volume_least → refused k ≡ constants_of b from
  no_volume n k r e =
      stops (checks from volume_pointer RVOL volume_least) (end_at b volume_pointer) k refused second
      (by_rule from from volume_pointer n RVOL volume_least refl r e)

  module _ (n₁ e₁ : ℕ) (r₁ : n₁ ≡ RVOL) (g₁ : given e₁ ≡ constant_at b z from volume_pointer n₁ volume_least) where
    volume : given e₁ ≡ constant_at b (size_in b) from volume_pointer RVOL volume_least
    volume = by_rule from from volume_pointer n₁ RVOL volume_least refl r₁ g₁

    from₁ : e₁ ≡ end_at b volume_pointer
    from₁ = given_is (checks from volume_pointer RVOL volume_least) (end_at b volume_pointer) e₁ volume

    passes₁ : second ≡ constants_of b from
    passes₁ = goes (checks from volume_pointer RVOL volume_least) (end_at b volume_pointer) e₁ refused second volume

    pub no-elevation : (n k : ℕ) → n ≡ RELV → refused k ≡ constant_at b z e₁ elevation_pointer n elevation_least
        → refused k ≡ constants_of b from
    no-elevation n k r e =
        stops (checks (end_at b volume_pointer) elevation_pointer RELV elevation_least) (end_at b elevation_pointer) k refused third
        (by_rule e₁ (end_at b volume_pointer) elevation_pointer n RELV elevation_least from₁ r e)
        ∙ passes₁

    module _ (n₂ e₂ : ℕ) (r₂ : n₂ ≡ RELV) (g₂ : given e₂ ≡ constant_at b z e₁ elevation_pointer n₂ elevation_least) where
      elevation : given e₂ ≡ constant_at b (size_in b) (end_at b volume_pointer) elevation_pointer RELV elevation_least
      elevation = by_rule e₁ (end_at b volume_pointer) elevation_pointer n₂ RELV elevation_least from₁ r₂ g₂

      from₂ : e₂ ≡ end_at b elevation_pointer
      from₂ =
          given_is (checks (end_at b volume_pointer) elevation_pointer RELV elevation_least) (end_at b elevation_pointer) e₂ elevation

      -- the third block decides
      pub the-third : {x : Answer ℕ} (n : ℕ) → n ≡ RRAD → x ≡ constant_at b z e₂ radial_pointer n radial_least → x ≡ constants_of b from
      the-third n r e =
          by_rule e₂ (end_at b elevation_pointer) radial_pointer n RRAD radial_least from₂ r e
          ∙ goes (checks (end_at b volume_pointer) elevation_pointer RELV elevation_least) (end_at b elevation_pointer) e₂ refused third elevation
          ∙ passes₁
