use Prim.Native.Nat.{ℕ, ◌+◌, ◌-◌, ◌*◌, ◌<◌, ◌≤◌}
use native.Mathlib.Omega.{arith}
use mathlib.Core.Path.{◌≡◌, sym, ap, ◌∙◌}
use mathlib.Core.List.{List}
use Rattle.wire.specs.Numbers.{fetched}
use Rattle.wire.specs.Answers.{given}
use Rattle.wire.proofs.NumberLaws.{number_is}
use Rattle.radial_spec.specs.Description.{constants, most_moments, moment_pointer}
use Rattle.radial_spec.specs.Refusal.{pointer, moments_at, description, radial_of}
use Rattle.radial_spec.proofs.Held.{held}
use Rattle.radial.specs.Told.{heads_of}
use Rattle.radial.specs.Steps.{head_at}
use Rattle.radial.proofs.HeadLaws.{fill-turns, fill_ends}
use Rattle.radial.proofs.Accepted.all_heads.Goals as goal

-- the place that was fetched is where the pointer of moment i points
pointed : (b : List ℕ) (n i p : ℕ) → radial_of b ≡ given (description b) → i < n → n ≤ most_moments
    → p ≡ fetched 4 b (moment_pointer + 4 * i) → pointer b (moment_pointer + 4 * i) ≡ p
pointed b n i p accepted more few e =
    number_is 4 b _ p e (omega (arith, (held b (description b) accepted).start.long, more, few))

pub head_at-head-requires : goal.head_at-head-requires
head_at-head-requires c =
    let n = c.count.ensures in
    let points = pointed _ _ _ _ c.args.self.accepted c.loop-i-test.true (omega (arith, n.few.1)) c.fetch.ensures in
    let m = (held _ _ c.args.self.accepted).moment c.loop-i.i (omega (arith, n.is, c.loop-i-test.true)) in
    omega (arith, m.inside, points)

pub loop-i-preserved : goal.loop-i-preserved
loop-i-preserved c =
    let points = pointed _ _ _ _ c.args.self.accepted c.loop-i-test.true (omega (arith, c.count.ensures.few.1)) c.fetch.ensures in
    let l = c.loop-i in
    let b = c.args.self.body.now in
    fill-turns b _ l.heads l.i l.invariant c.head_at-head.result c.loop-i-test.true
    (c.head_at-head.ensures ∙ ap (λ (k : ℕ). head_at b k) (sym points))

pub returns : goal.returns
returns c =
    let l = c.loop-i in
    let b = c.args.self.body.now in
    fill_ends b _ l.heads l.i l.invariant c.loop-i-test.false
    ∙ ap (λ (n : ℕ). heads_of (moments_at b moment_pointer (n - constants))) c.count.ensures.is
