-- The code of a gate: the word of its moment's block that its number counts to. Assumes nothing.
use Prim.Native.Nat.{ℕ, ◌+◌, ◌-◌, ◌*◌, ◌/◌, ◌≤◌}
use native.Mathlib.Nat.{add-zero}
use native.Mathlib.Omega.{arith}
use mathlib.Core.Path.{◌≡◌, refl, sym, ap, subst, ◌∙◌}
use mathlib.Core.Bool.{Bool, true, false}
use mathlib.Core.List.{List}
use lib.Dec.{leb}
use lib.ListN.{length, get_or, take, drop}
use borrow.Author.Tests.{leb-false}
use Rattle.wire.specs.Numbers.{num, fetched, Octets}
use Rattle.wire.specs.Checks.{pick}
use Rattle.wire.specs.Answers.{Answer, refused, given, onward}
use Rattle.wire.proofs.NumberLaws.{cut_is, num-drop}
use Rattle.radial_spec.specs.Description.{Moment, gates, moment_head}
use Rattle.radial_spec.specs.Lookups.{moment_of, coded_in, coded_of}
use Rattle.wire.proofs.OnwardLaws.{shows_given, shows_refused}
use Rattle.radial_spec.proofs.Naming.{code_at, found_lies}
use Rattle.radial_head.specs.declared.MomentHead.{MomentHead}
use Rattle.radial.specs.Told.{head_of, head_shown, code_shown}
use Rattle.radial.specs.Steps.{code_in, GatesThere, coded_by}

-- ---- the code of a gate, one fact over the word width
-- a fetch of k bytes at the gate's word
pub fetched-code : (k : ℕ) (b : List ℕ) (p w i n r : ℕ) → w / 8 ≡ k → n ≡ p + (moment_head + i * k) → p + (moment_head + i * k + k) ≤ length b
    → r ≡ fetched k (take (n + k - n) (drop n b)) 0 → r ≡ code_in b p w i
fetched-code k b p w i n r e f h g =
    cut_is k (n + k - n) b n 0 r (omega arith) (omega (arith, f)) g
    ∙ ap (num k b) (add-zero n ∙ f)
    ∙ sym (num-drop k b p (moment_head + i * k))
    ∙ ap (λ (x : ℕ). num x (drop p b) (moment_head + i * x)) (sym e)

-- ---- what a moment's head says
pub gates_there : (b : List ℕ) (name : ℕ) (h : MomentHead) → Octets b → given h ≡ head_shown (moment_of b name) → GatesThere b h
gates_there b name h o e =
    let s = shows_given (moment_of b name) head_of h e in
    let l = found_lies b name s.value o s.was in
    subst (GatesThere b) (sym s.is) (record { sized = l.1; few = l.0; within = l.2 })

pub code-refused : (b : List ℕ) (name n i : ℕ) → refused n ≡ head_shown (moment_of b name) → refused n ≡ code_shown (coded_of b name i)
unfolding coded_of
code-refused b name n i e = rw (shows_refused (moment_of b name) head_of n e) refl

pub code-given : (b : List ℕ) (name i : ℕ) (h : MomentHead) → given h ≡ head_shown (moment_of b name)
    → coded_by b h i ≡ code_shown (coded_of b name i)
unfolding coded_of
code-given b name i h e =
    let s = shows_given (moment_of b name) head_of h e in
    ap (λ (y : MomentHead). coded_by b y i) s.is
    ∙ by s.value s.was (leb (gates s.value) i) refl
    ∙ ap (λ (a : Answer Moment). code_shown (onward a (λ m. coded_in m i))) (sym s.was)
  where
    by : (m : Moment) → moment_of b name ≡ given m → (t : Bool) → leb (gates m) i ≡ t
        → pick t (refused 21) (given (record { code = code_in b m.place m.word i; head = head_of m }))
        ≡ code_shown (pick t (refused 21) (given (record { code = get_or m.codes i 0; moment = m })))
    by m q true k = refl
    by m q false k = ap (λ (x : ℕ). given (record { code = x; head = head_of m })) (sym (code_at b name m i q (leb-false (gates m) i k)))
