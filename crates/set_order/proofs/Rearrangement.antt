-- A set's frames in another order: the walk goes to the end again, with segments that say the same. Assumes nothing.
use Prim.Native.Nat.{ℕ, zero, suc}
use mathlib.Core.Path.{◌≡◌, refl, sym, ap, ◌∙◌}
use mathlib.Core.Logic.{⊎_elim}
use mathlib.Core.Option.{Option, none, some}
use mathlib.Core.List.Memᴰ
use mathlib.Core.List.Permᴰ
use mathlib.Core.List.{List, [], ◌∷◌, ◌++◌, map, flatten, Memᴰ, Permᴰ}
use lib.ListN.{length}
use Rattle.wire.specs.Answers.{given, rule}
use Rattle.wire.specs.Sizes.{bytes}
use Rattle.header.specs.declared.Header.{Header}
use Rattle.set_spec.specs.Segment.{Segment, segment_in, numbered, or_nothing, header_numbered}
use Rattle.set_spec.specs.Walk.{walk, count, all_seen, joined, body_of, end_checks, says, finish}
use Rattle.set_spec.specs.Whole.{header_from, number_from, Agree, Distinct, Orderly}
use Rattle.set_spec.specs.Theorems.{WholeFrames}
use Rattle.set_spec.proofs.FrameLists.{Ended, ended}
use Rattle.set_spec.proofs.OrderFree.{leader, all_agree, distinct, found_in, is_found, count_is}
use Rattle.set_spec.proofs.Accepted.{orderly_walked}
use Rattle.set_spec.proofs.OutputApart.{finish-answer}

-- ---- rearrangement
pub perm_mem : {A : Type 0} {l l' : List A} → Permᴰ l l' → (x : A) → Memᴰ x l → Memᴰ x l'
perm_mem Permᴰ.nil x m = m
perm_mem (Permᴰ.cons e d) x m = ⊎_elim (λ q. Memᴰ.head (q ∙ e)) (λ n. Memᴰ.tail (perm_mem d x n)) (Memᴰ.cases_cons m)
perm_mem (Permᴰ.swap e₁ e₂) x m =
    ⊎_elim (λ q. Memᴰ.tail (Memᴰ.head (q ∙ e₁)))
    (λ n. ⊎_elim (λ q. Memᴰ.head (q ∙ e₂)) (λ k. Memᴰ.tail (Memᴰ.tail k)) (Memᴰ.cases_cons n))
    (Memᴰ.cases_cons m)
perm_mem (Permᴰ.trans d₁ d₂) x m = perm_mem d₂ x (perm_mem d₁ x m)

perm_distinct : {l l' : List ℕ} → Permᴰ l l' → Distinct l → Distinct l'
perm_distinct Permᴰ.nil d = d
perm_distinct (Permᴰ.cons {b = b} e p) d = ((λ m. d.0 (Memᴰ.cast e (perm_mem (Permᴰ.symm p) b m))), perm_distinct p d.1)
perm_distinct (Permᴰ.swap e₁ e₂) d = (
  (λ m. ⊎_elim (λ q. d.0 (Memᴰ.head (e₁ ∙ sym q ∙ sym e₂))) (λ n. d.1.0 (Memᴰ.cast e₂ n)) (Memᴰ.cases_cons m)),
  ((λ m. d.0 (Memᴰ.tail (Memᴰ.cast e₁ m))), d.1.1),
)
perm_distinct (Permᴰ.trans p₁ p₂) d = perm_distinct p₂ (perm_distinct p₁ d)

-- ---- the segment with a number is the same
numbered_moves : {each each' : List (List ℕ)} → Permᴰ each each' → Distinct (map number_from each') → (k : ℕ) (g : Segment)
    → numbered (map segment_in each) k ≡ some g → numbered (map segment_in each') k ≡ some g
numbered_moves {each} {each'} p once k g e =
    let f = found_in each k g e in
    ap (λ (i : ℕ). numbered (map segment_in each') i) (sym f.number)
    ∙ is_found each' f.frame (perm_mem p f.frame f.there) once ∙ ap some f.segment

same-numbered : (each each' : List (List ℕ)) → Permᴰ each each' → Distinct (map number_from each) → (k : ℕ)
    → numbered (map segment_in each) k ≡ numbered (map segment_in each') k
same-numbered each each' p once k = go (numbered (map segment_in each) k) (numbered (map segment_in each') k) refl refl
  where
    go : (o o' : Option Segment) → numbered (map segment_in each) k ≡ o → numbered (map segment_in each') k ≡ o'
        → numbered (map segment_in each) k ≡ numbered (map segment_in each') k
    go none none e e' = e ∙ sym e'
    go none (some g) e e' = numbered_moves (Permᴰ.symm p) once k g e' ∙ sym e'
    go (some g) o' e e' = e ∙ sym (numbered_moves p (perm_distinct (Permᴰ.map number_from p) once) k g e)

-- and then so is all that is made of them
pub record Alike (gs gs' : List Segment) : Type 0 where
  pub same : (k : ℕ) → numbered gs k ≡ numbered gs' k
  pub counts : count gs ≡ count gs'

module _ {gs gs' : List Segment} (a : Alike gs gs') where
  same_seen : (n : ℕ) → all_seen gs n ≡ all_seen gs' n
  unfolding all_seen
  same_seen zero = refl
  same_seen (suc n) = rw (same_seen n, a.same (suc n))

  same-joined : (n : ℕ) → joined gs n ≡ joined gs' n
  unfolding joined
  same-joined zero = refl
  same-joined (suc n) = λ i. same-joined n i ++ (or_nothing (a.same (suc n) i)).content

  pub same_body : body_of gs ≡ body_of gs'
  same_body = same-joined (count gs) ∙ ap (λ (n : ℕ). joined gs' n) a.counts

  pub same-header : header_numbered gs 1 ≡ header_numbered gs' 1
  same-header = ap (λ (o : Option Segment). (or_nothing o).header) (a.same 1)

  pub same_ends : (room : ℕ) → end_checks gs room ≡ end_checks gs' room
  same_ends room = rw (a.same 1, same_seen (count gs) ∙ ap (λ (n : ℕ). all_seen gs' n) a.counts, same_body)

  -- the answers at two ends that are alike
  pub same_answer : (out out' : List ℕ) → length out ≡ length out' → (finish (given gs) out).answer ≡ (finish (given gs') out').answer
  same_answer out out' l =
      finish-answer gs out
      ∙ ap (λ (n : ℕ). rule (end_checks gs n) (says gs)) l
      ∙ (λ i. rule (same_ends (length out') i) (record { header = same-header i; long = bytes (length (same_body i)) }))
      ∙ sym (finish-answer gs' out')

same_count : (each each' : List (List ℕ)) (h : Header) → Permᴰ each each' → ((f : List ℕ) → Memᴰ f each → Agree (header_from f) h)
    → ((f : List ℕ) → Memᴰ f each' → Agree (header_from f) h)
    → count (map segment_in each) ≡ count (map segment_in each')
same_count [] [] h p a a' = refl
same_count [] (x ∷ xs) h p a a' = absurd (Memᴰ.not-nil (perm_mem (Permᴰ.symm p) x (Memᴰ.head refl)))
same_count (x ∷ xs) each' h p a a' =
    count_is (x ∷ xs) h a x (Memᴰ.head refl) ∙ sym (count_is each' h a' x (perm_mem p x (Memᴰ.head refl)))

-- ---- a walk that goes to the end goes to the end in every rearrangement, with segments that say the same
pub record Again (each' : List (List ℕ)) (gs : List Segment) : Type 0 where
  pub gs' : List Segment
  pub walked : walk [] (flatten each') ≡ given gs'
  pub alike : Alike gs gs'

pub again : (each each' : List (List ℕ)) → Permᴰ each each' → WholeFrames each → (gs : List Segment)
    → walk [] (flatten each) ≡ given gs → Again each' gs
again each each' p w gs e =
    let d : Ended [] gs each = ended each [] gs w e in
    let back = perm_mem (Permᴰ.symm p) in
    let a : (f : List ℕ) → Memᴰ f each → Agree (header_from f) (leader each) = all_agree each d.met in
    let once : Distinct (map number_from each) = distinct [] each d.met in
    let a' : (f : List ℕ) → Memᴰ f each' → Agree (header_from f) (leader each) = λ f m. a f (back f m) in
    let o : Orderly (flatten each') (leader each) each' =
    record { buffer = refl; pass = λ f m. d.pass f (back f m); agree = a'; once = perm_distinct (Permᴰ.map number_from p) once }
    in
    record {
      gs' = map segment_in each';
      walked = orderly_walked (flatten each') (leader each) each' o;
      alike = record {
        same = λ k. ap (λ (x : List Segment). numbered x k) d.grown ∙ same-numbered each each' p once k;
        counts = ap count d.grown ∙ same_count each each' (leader each) p a a';
      };
    }
