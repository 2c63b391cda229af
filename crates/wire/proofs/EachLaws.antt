-- Laws of a property that each element of a list has. Assumes nothing.
use Prim.Native.Nat.{ℕ, zero, suc, ◌<◌}
use native.Mathlib.Omega.{arith}
use mathlib.Core.List.{List, [], ◌∷◌, ◌++◌, map}
use lib.ListN.{length, get_or}
use Rattle.wire.specs.Properties.{Each}

pub each_append : {A : Type 0} (P : A → Type 0) (xs ys : List A) → Each P xs → Each P ys → Each P (xs ++ ys)
each_append P [] ys p q = q
each_append P (x ∷ xs) ys p q = (p.0, each_append P xs ys p.1 q)

pub each_split : {A : Type 0} (P : A → Type 0) (xs ys : List A) → Each P (xs ++ ys) → Each P xs × Each P ys
each_split P [] ys p = (tt, p)
each_split P (x ∷ xs) ys p = let q = each_split P xs ys p.1 in ((p.0, q.0), q.1)

pub each_map : {A B : Type 0} (P : A → Type 0) (Q : B → Type 0) (f : A → B) (xs : List A) → ((x : A) → P x → Q (f x)) → Each P xs
    → Each Q (map f xs)
each_map P Q f [] h p = tt
each_map P Q f (x ∷ xs) h p = (h x p.0, each_map P Q f xs h p.1)

pub each_so : {A : Type 0} (P Q : A → Type 0) (xs : List A) → ((x : A) → P x → Q x) → Each P xs → Each Q xs
each_so P Q [] h p = tt
each_so P Q (x ∷ xs) h p = (h x p.0, each_so P Q xs h p.1)

pub each_both : {A : Type 0} (P Q S : A → Type 0) (xs : List A) → ((x : A) → P x → Q x → S x) → Each P xs → Each Q xs → Each S xs
each_both P Q S [] h p q = tt
each_both P Q S (x ∷ xs) h p q = (h x p.0 q.0, each_both P Q S xs h p.1 q.1)

pub each_at : {A : Type 0} (P : A → Type 0) (xs : List A) (d : A) (k : ℕ) → Each P xs → k < length xs → P (get_or xs k d)
each_at P [] d k p h = absurd (omega arith)
each_at P (x ∷ xs) d zero p h = p.0
each_at P (x ∷ xs) d (suc k) p h = each_at P xs d k p.1 (omega arith)
