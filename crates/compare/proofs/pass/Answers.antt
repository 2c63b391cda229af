use native.Mathlib.Omega.{arith}
use mathlib.Core.Path.{◌≡◌, sym, ap, ◌∙◌}
use Prim.Native.Nat.{ℕ}
use Rattle.form_spec.specs.Parts.{run_size}
use Rattle.map_spec.specs.Reading.{azimuth_part}
use Rattle.form_spec.proofs.PartLaws.{run_none}
use Rattle.compare.proofs.AzimuthWalk.{run_on}
use Rattle.compare.proofs.pass.Goals as goal

pub loop-count-init : goal.loop-count-init
loop-count-init c = (c.requires, omega arith, sym (run_none azimuth_part c.args.part.now))

pub returns-then-same-at : goal.returns-then-same-at
returns-then-same-at c = let l = c.loop-count in (l.auto.count-end, l.invariant.1, l.invariant.2)

pub loop-count-preserved : goal.loop-count-preserved
loop-count-preserved c =
    let a = c.args in
    let l = c.loop-count in
    let z = c.size_of-size in (
      l.invariant.0,
      omega (arith, l.invariant.1, c.if-same-at.false),
      run_on a.part.now l.count l.at z.result a.same l.invariant.0 l.invariant.1 l.invariant.2 z.ensures c.if-same-at.false,
    )

pub returns : goal.returns
returns c =
    let l = c.loop-count in
    let e : l.count ≡ c.args.most = omega arith in
    (omega arith, l.invariant.1, l.invariant.2 ∙ ap (λ (n : ℕ). run_size azimuth_part n c.args.part.now) e)
