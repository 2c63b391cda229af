-- What does not depend on the order of a set's frames, and by which numbers the rest is refused. Assumes nothing.
use Prim.Native.Nat.{ℕ, ◌<◌}
use mathlib.Core.Path.{◌≡◌, refl, sym, ap, subst, ◌∙◌}
use mathlib.Core.Logic.{inl, inr, ⊎_elim}
use mathlib.Core.Bool.{Bool, true, false, not}
use mathlib.Core.Option.{some}
use mathlib.Core.List.Memᴰ
use mathlib.Core.List.Permᴰ
use mathlib.Core.List.{List, [], ◌∷◌, ◌++◌, map, flatten, Memᴰ, Permᴰ}
use native.Mathlib.Omega.{arith}
use lib.Dec.{ltb}
use lib.ListN.{length}
use Rattle.wire.specs.Checks.{Check, check, first, AllHold}
use Rattle.wire.specs.Answers.{Answer, refused, given, onward, number_of, Outcome, refusal}
use Rattle.wire.specs.Sizes.{bytes}
use Rattle.wire.specs.Writing.{filled}
use Rattle.wire.proofs.CheckLaws.{never}
use Rattle.wire.proofs.AnswerLaws.{rule_refused, outcome_refused}
use Rattle.frame.specs.Session.{body_in}
use Rattle.frame.proofs.WalkLaws.{walk_on}
use Rattle.frame.proofs.FrontLaws.{frames_take}
use Rattle.header.specs.declared.Header.{Header}
use Rattle.set_spec.specs.Segment.{Segment, header_numbered}
use Rattle.set_spec.specs.Walk.{SetSays, seen, count, all_seen, each_frame, walk, body_of, end_checks, says, finish, set_of}
use Rattle.set_spec.specs.Whole.{header_from, number_from, Agree, Distinct}
use Rattle.set_spec.specs.Theorems.{accepted, WholeFrames}
use Rattle.set_spec.proofs.FrameFacts.{header-fits}
use Rattle.set_spec.proofs.PrefixLaws.{own_parts, one_turn}
use Rattle.set_spec.proofs.FrameLists.{cut, Ended, ended}
use Rattle.set_spec.proofs.OrderFree.{leader, all_agree, distinct}
use Rattle.set_spec.proofs.Accepted.{accepting, finished}
use Rattle.set_spec.proofs.OutputApart.{finish-answer}
use Rattle.set_spec.proofs.TurnNumbers.{walk-numbers, whole-walk}
use Rattle.set_order.specs.Theorems.{Rearranged, Merged, no_more, by_one, by_other, TwoLines, AfterAll, OneList, AnyOrder, OneFrame}
use Rattle.set_order.specs.Theorems.{InTurn, BothInTurn, OtherNumbers, Stays}
use Rattle.set_order.proofs.Rearrangement.{perm_mem, same_body, same-header, same_ends, same_answer, Again, again}

-- ---- which numbers come from the walk, and which from its end
end-first : (a b c : Bool) (n : ℕ) → first {N = ℕ} (check 12 a ∷ check 12 b ∷ check 13 c ∷ []) ≡ some n → AfterAll n
end-first true b c n e = let z : ◌≡◌ {A = ℕ} 12 n = cc e in inr (inl (sym z))
end-first false true c n e = let z : ◌≡◌ {A = ℕ} 12 n = cc e in inr (inl (sym z))
end-first false false true n e = let z : ◌≡◌ {A = ℕ} 13 n = cc e in inr (inr (sym z))
end-first false false false n e = never (cc e)

end_number : (gs : List Segment) (out : List ℕ) (n : ℕ) → (finish (given gs) out).answer ≡ refused n → AfterAll n
end_number gs out n e =
    end-first (not (seen gs 1)) (not (all_seen gs (count gs))) (ltb (length out) (length (body_of gs))) n
    (rule_refused (end_checks gs (length out)) (says gs) n (sym (finish-answer gs out) ∙ e))

after_all : (n : ℕ) → AfterAll n → (0 < n) × (n < 12) → ⊥
after_all n t b = ⊎_elim (λ z. omega (arith, z, b.0)) (⊎_elim (λ z. omega (arith, z, b.1)) (λ z. omega (arith, z, b.1))) t

-- what is known after all frames is known at the walk's end
walked_all : (frames out : List ℕ) → AfterAll (number_of (set_of frames out).answer) → (gs : List Segment) × (walk [] frames ≡ given gs)
unfolding set_of
walked_all frames out t = go (walk [] frames) refl t
  where
    go : (a : Answer (List Segment)) → walk [] frames ≡ a → AfterAll (number_of (finish a out).answer)
        → (gs : List Segment) × (walk [] frames ≡ given gs)
    go (refused n) w q = absurd (after_all n q (walk-numbers frames n w))
    go (given gs) w q = (gs, w)

pub one_list : OneList
one_list frames out t = let w = walked_all frames out t in cut [] w.0 frames w.1

-- ---- in any order
module _ (frames frames' out out' : List ℕ) (r : Rearranged frames frames') (l : length out ≡ length out') where
  walked_again : (gs : List Segment) → walk [] frames ≡ given gs → Again r.each' gs
  walked_again gs e =
      again r.each r.each' r.order r.from.whole gs (ap (λ (x : List ℕ). walk [] x) r.from.joined ∙ e)

  -- the outcome at the end of the other walk
  ends_again : (gs' : List Segment) → walk [] (flatten r.each') ≡ given gs' → set_of frames' out' ≡ finish (given gs') out'
  unfolding set_of
  ends_again gs' e = ap (λ (x : List ℕ). finish (walk [] x) out') (sym r.joined) ∙ ap (λ (a : Answer (List Segment)). finish a out') e

  refused_again : (n : ℕ) → AfterAll n → set_of frames out ≡ refusal out n → set_of frames' out' ≡ refusal out' n
  unfolding set_of
  refused_again n t e = go (walk [] frames) refl (ap (λ (o : Outcome (List ℕ) SetSays). o.answer) e)
    where
      go : (a : Answer (List Segment)) → walk [] frames ≡ a → (finish a out).answer ≡ refused n → set_of frames' out' ≡ refusal out' n
      go (refused m) k q =
          let z : m ≡ n = cc q in absurd (after_all n t (subst (λ (x : ℕ). (0 < x) × (x < 12)) z (walk-numbers frames m k)))
      go (given gs) k q =
          let w = walked_again gs k in
          let g = w.gs' in
          ends_again g w.walked
          ∙ outcome_refused (end_checks g (length out')) out' (says g) (filled (body_of g) out') n
          (sym (same_answer w.alike out out' l) ∙ q)

  taken_again : (h : Header) (body : List ℕ) → set_of frames out ≡ accepted h body out → set_of frames' out' ≡ accepted h body out'
  taken_again h body e =
      let a = accepting frames out h body e in
      let w = walked_again a.gs a.walked in
      let b : body_of w.gs' ≡ body = sym (same_body w.alike) ∙ a.contents in
      let g : header_numbered w.gs' 1 ≡ h = sym (same-header w.alike) ∙ a.header in
      let ends : AllHold (end_checks w.gs' (length out')) =
      subst (λ (ks : List Check). AllHold ks) (ap (end_checks a.gs) l ∙ same_ends w.alike (length out')) a.ends
      in
      ends_again w.gs' w.walked
      ∙ finished w.gs' out' ends
      ∙ (λ i. record { answer = given (record { header = g i; long = bytes (length (b i)) }); output = filled (b i) out' })

pub any_order : AnyOrder
any_order frames frames' out out' r l = record {
  taken = taken_again frames frames' out out' r l;
  absent = refused_again frames frames' out out' r l 12 (inr (inl refl));
  small = refused_again frames frames' out out' r l 13 (inr (inr refl));
}

-- ---- one frame
single : (each : List (List ℕ)) (f : List ℕ) → Memᴰ f each → ((g : List ℕ) → Memᴰ g each → number_from g ≡ 1)
    → Distinct (map number_from each) → each ≡ f ∷ []
single [] f m one d = absurd (Memᴰ.not-nil m)
single (x ∷ []) f m one d = ⊎_elim (λ e i. sym e i ∷ []) (λ n. absurd (Memᴰ.not-nil n)) (Memᴰ.cases_cons m)
single (x ∷ y ∷ rest) f m one d =
    absurd (d.0 (Memᴰ.head (one x (Memᴰ.head refl) ∙ sym (one y (Memᴰ.tail (Memᴰ.head refl))))))

pub one-frame : OneFrame
one-frame frames out each f t k m n =
    let w = walked_all frames out t in
    let d = ended each [] w.0 k.whole (ap (λ (x : List ℕ). walk [] x) k.joined ∙ w.1) in
    let agree = all_agree each d.met in
    single each f m (number-one d agree) (distinct [] each d.met)
  where
    number-one : {gs : List Segment} → Ended [] gs each → ((g : List ℕ) → Memᴰ g each → Agree (header_from g) (leader each))
        → (g : List ℕ) → Memᴰ g each → number_from g ≡ 1
    number-one d agree g o =
        let fits = header-fits (body_in g) (own_parts g (d.pass g o).checks).2 in
        let count : (header_from g).segments ≡ 1 = (agree g o).segments ∙ sym (agree f m).segments ∙ n in
        omega (arith, count, fits.low, fits.high)

-- ---- other numbers
other_turn : (n : ℕ) → (1 < n) × (n < 12) → InTurn n
other_turn n b = record { least = omega (arith, b.0); most = omega (arith, b.1) }

pub other_numbers : OtherNumbers
unfolding set_of
other_numbers frames frames' out out' n r e not_end = first_walk (walk [] (flatten r.each)) refl
    (ap (λ (x : List ℕ). (finish (walk [] x) out).answer) r.from.joined ∙ e)
  where
    whole' : WholeFrames r.each'
    whole' f m = r.from.whole f (perm_mem (Permᴰ.symm r.order) f m)

    second_walk : walk [] (flatten r.each) ≡ refused n → (a : Answer (List Segment)) → walk [] (flatten r.each') ≡ a
        → BothInTurn n (λ m. set_of frames' out' ≡ refusal out' m)
    second_walk w (refused m) q = record {
      own = other_turn n (whole-walk r.each [] n r.from.whole w);
      number = m;
      other = other_turn m (whole-walk r.each' [] m whole' q);
      is = ap (λ (x : List ℕ). finish (walk [] x) out') (sym r.joined) ∙ ap (λ (a : Answer (List Segment)). finish a out') q;
    }
    second_walk w (given gs) q = never (cc (sym w ∙ (again r.each' r.each (Permᴰ.symm r.order) whole' gs q).walked))

    first_walk : (a : Answer (List Segment)) → walk [] (flatten r.each) ≡ a → (finish a out).answer ≡ refused n
        → BothInTurn n (λ m. set_of frames' out' ≡ refusal out' m)
    first_walk (refused k) w q = let z : k ≡ n = cc q in second_walk (w ∙ ap refused z) (walk [] (flatten r.each')) refl
    first_walk (given gs) w q = absurd (not_end (end_number gs out n q))

pub stays : Stays
unfolding set_of
stays frames rest out out' each n k e not_end = go (walk [] (flatten each)) refl
    (ap (λ (x : List ℕ). (finish (walk [] x) out).answer) k.joined ∙ e)
  where
    go : (a : Answer (List Segment)) → walk [] (flatten each) ≡ a → (finish a out).answer ≡ refused n
        → finish (walk [] (frames ++ rest)) out' ≡ refusal out' n
    go (given gs) w q = absurd (not_end (end_number gs out n q))
    go (refused m) w q =
        let z : m ≡ n = cc q in
        let on = walk_on each_frame frames_take each (λ f o. one_turn f (k.whole f o)) [] rest in
        ap (λ (x : List ℕ). finish (walk [] (x ++ rest)) out') (sym k.joined)
        ∙ ap (λ (a : Answer (List Segment)). finish a out')
        (on ∙ ap (λ (a : Answer (List Segment)). onward a (λ gs. walk gs rest)) w ∙ ap refused z)

-- ---- two lines, merged
merged : {a b each : List (List ℕ)} → Merged a b each → Permᴰ (a ++ b) each
merged no_more = Permᴰ.nil
merged (by_one f m) = Permᴰ.cons refl (merged m)
merged (by_other {a} {b} f m) = Permᴰ.trans (Permᴰ.middle f a b) (Permᴰ.cons refl (merged m))

pub two_lines : TwoLines
two_lines a b each each' frames frames' k m m' e =
    record { each = each; each' = each'; from = k; order = Permᴰ.trans (Permᴰ.symm (merged m)) (merged m'); joined = e }
