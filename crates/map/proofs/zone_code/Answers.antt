use native.Mathlib.Omega.{arith}
use mathlib.Core.Path.{◌∙◌}
use Rattle.wire.specs.Numbers.{Octets}
use Rattle.wire.proofs.ListLaws.{part_is}
use Rattle.map_spec.specs.Map.{field_size}
use Rattle.map.proofs.QueryLaws.{looking_start, looking-here, looking-on, looking-done}
use Rattle.map.proofs.zone_code.Goals as goal

pub loop-bytes-init : goal.loop-bytes-init
loop-bytes-init c =
    let chunks = c.chunks_exact-bytes-items.ensures in
    rw c.into_iter-bytes-iterator.ensures.into_iter_gives
    (chunks.size, looking_start c.args.part.now c.requires.0 c.args.kilometre c.requires.1 _ (chunks.rest ∙ part_is c.args.part.now field_size))

pub returns-then-kilometre-end_of : goal.returns-then-kilometre-end_of
returns-then-kilometre-end_of c =
    let l = c.loop-bytes.invariant in
    let s = c.in-Some.ensures.steps.1 in
    let octets : Octets c.args.part.now = λ i. (c.type_inv.part i).fits in
    looking-here c.args.part.now c.requires.0 c.args.kilometre c.requires.1 _ l.1 octets _ _ s.0 (s.1 ∙ l.0) _ c.fetch-zone.ensures _
    c.end_of.ensures _ c.code_of.ensures c.if-kilometre-end_of.true

pub loop-bytes-preserved : goal.loop-bytes-preserved
loop-bytes-preserved c =
    let l = c.loop-bytes.invariant in
    let steps = c.in-Some.ensures.steps in
    let octets : Octets c.args.part.now = λ i. (c.type_inv.part i).fits in (
      steps.0 ∙ l.0,
      looking-on c.args.part.now c.requires.0 c.args.kilometre c.requires.1 _ l.1 octets _ _ steps.1.0 (steps.1.1 ∙ l.0) _
          c.fetch-zone.ensures _ c.end_of.ensures c.if-kilometre-end_of.false,
    )

pub returns : goal.returns
returns c =
    let l = c.loop-bytes.invariant in
    looking-done c.args.part.now c.requires.0 c.args.kilometre c.requires.1 _ l.1 (omega (arith, c.in-None.ensures.steps.1.0, l.0))
