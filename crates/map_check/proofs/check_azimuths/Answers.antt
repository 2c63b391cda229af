use Prim.Native.Nat.{ℕ, ◌+◌, ◌-◌, ◌≤◌}
use mathlib.Core.Path.{◌≡◌, ap, ◌∙◌}
use mathlib.Core.List.{List}
use native.Mathlib.Omega.{arith}
use lib.ListN.{length, take, drop}
use Rattle.std.proofs.lemmas.Result.{err_from_is_err_and}
use Rattle.wire.specs.Answers.{Answer, given}
use Rattle.wire.proofs.ListLaws.{part_is}
use Rattle.map_spec.specs.Reading.{azimuth_part}
use Rattle.map_spec.proofs.Accepted.{azimuth_long}
use Rattle.map_check.specs.Told.{part_step}
use Rattle.map_check.proofs.StepLaws.{walk_turn, walk-stop, walk_start, walk_done, part-fits}
use borrow.Author.Rules.{rules}
use Rattle.map_check.proofs.check_azimuths.Goals as goal

-- the azimuth checked is the first of what is left
first_left : (at : ℕ) (b : List ℕ) {a : Answer ℕ} → a ≡ part_step azimuth_part (take (length b - at) (drop at b))
    → a ≡ part_step azimuth_part (drop at b)
first_left at b checked = checked ∙ ap (λ (l : List ℕ). part_step azimuth_part l) (part_is b at)

-- if it passes, it lies within the bytes
inside : (at : ℕ) (b : List ℕ) {size : ℕ} → at ≤ length b → given size ≡ part_step azimuth_part (take (length b - at) (drop at b))
    → at + size ≤ length b
inside at b h checked = part-fits azimuth_part azimuth_long at b _ h (first_left at b checked)

pub loop-init : goal.loop-init
loop-init c = (search rules, walk_start azimuth_part c.args.count c.args.part.now)

pub returns-in_err-at : goal.returns-in_err-at
returns-in_err-at c =
    let p = err_from_is_err_and c.from_residual.result c.from_residual.ensures.1 in
    let l = c.loop in
    rw (p.1, p.2)
    (walk-stop azimuth_part l.counter l.at c.args.part.now _ c.loop-test.true
    (first_left l.at c.args.part.now c.in_err-at.ensures) ∙ l.invariant.1)

pub overflow_add-at : goal.overflow_add-at
overflow_add-at c =
    let i = inside c.loop.at c.args.part.now c.loop.invariant.0 c.in_ok-at.ensures in
    record { fits = omega (arith, i, c.well_formed.0.0) }

pub loop-preserved : goal.loop-preserved
loop-preserved c =
    let l = c.loop in (
      inside l.at c.args.part.now l.invariant.0 c.in_ok-at.ensures,
      walk_turn azimuth_part l.counter l.at c.args.part.now _ c.loop-test.true
          (first_left l.at c.args.part.now c.in_ok-at.ensures) ∙ l.invariant.1,
    )

pub returns : goal.returns
returns c =
    let l = c.loop in
    walk_done azimuth_part l.counter l.at c.args.part.now c.loop-test.false ∙ l.invariant.1
