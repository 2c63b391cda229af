-- Where the gates of a moment lie is what the rule answers. Assumes nothing.
use Prim.Native.Nat.{ℕ, ◌+◌, ◌-◌, ◌*◌, ◌/◌}
use native.Mathlib.Omega.{arith}
use mathlib.Core.Path.{◌≡◌, refl, sym, ap, ◌∙◌}
use mathlib.Core.List.{List}
use Rattle.std.specs.Prelude.{Ok}
use Rattle.wire.specs.Numbers.{Octets}
use Rattle.wire.specs.Answers.{Answer, refused, given, number_of, onward}
use Rattle.radial_spec.specs.Description.{moment_head, Moment, moment_bytes}
use Rattle.radial_spec.specs.Lookups.{moment_of, gates_of}
use Rattle.wire.proofs.OnwardLaws.{shows_given, shows_refused}
use Rattle.radial_spec.proofs.Naming.{gate-words}
use Rattle.radial_head.specs.declared.MomentHead.{MomentHead}
use Rattle.radial.specs.Told.{head_of, head_shown}
use Rattle.radial_gates.specs.declared.Located.{Located}
use Rattle.radial_gates.specs.Told.{count_of, part_of}
use Rattle.radial_gates.specs.Steps.{located, Locates}

-- one that is given lies where its head says, inside the body
pub located-given : (b : List ℕ) (n : ℕ) (h : MomentHead) (z : ℕ) → Octets b → given h ≡ head_shown (moment_of b n)
    → z ≡ moment_bytes h.gates h.word
    → Locates b n (Ok (record { gates = h.gates; start = h.place + moment_head; size = z - moment_head }))
located-given b n h z o e f =
    let s = shows_given (moment_of b n) head_of h e in
    let q : z - moment_head ≡ h.gates * (h.word / 8) = omega (arith, f) in
    let p = s.is in
    let l : record { gates = h.gates; start = h.place + moment_head; size = z - moment_head } ≡ located s.value
    = (λ i. record { gates = h.gates; start = h.place + moment_head; size = q i })
    ∙ (λ i. record { gates = (p i).gates; start = (p i).place + moment_head; size = (p i).gates * ((p i).word / 8) }) in
    record {
      is = ap given l ∙ sym (ap (λ (a : Answer Moment). onward a (λ m. given (located m))) s.was);
      inside = rw (ap (λ (x : Located). x.start + x.size) l) (gate-words b n s.value o s.was).0;
    }

-- what was located is the rule's part, and its number of gates the rule's
pub located-part : (b : List ℕ) (n : ℕ) (l : Located) → given l ≡ onward (moment_of b n) (λ m. given (located m))
    → (number_of (moment_of b n) ≡ 0) × (l.gates ≡ count_of (moment_of b n))
    × (record { place = l.start; size = l.size } ≡ part_of (gates_of b n))
unfolding gates_of
located-part b n l e =
    let s = shows_given (moment_of b n) located l e in
    let p = s.is in
    rw s.was (refl, ap (λ (x : Located). x.gates) p, ap (λ (x : Located). record { place = x.start; size = x.size }) p)

-- and nothing where it was refused
pub refused-part : (b : List ℕ) (n k : ℕ) → refused k ≡ onward (moment_of b n) (λ m. given (located m))
    → (number_of (moment_of b n) ≡ k) × (count_of (moment_of b n) ≡ 0) × (record { place = 0; size = 0 } ≡ part_of (gates_of b n))
unfolding gates_of
refused-part b n k e = rw (shows_refused (moment_of b n) located k e) (refl, refl, refl)
