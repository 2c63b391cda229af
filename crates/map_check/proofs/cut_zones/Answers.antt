use mathlib.Core.Path.{ap, ◌∙◌}
use mathlib.Core.List.{List}
use Prim.Native.Nat.{ℕ}
use Rattle.wire.specs.Numbers.{fetched}
use Rattle.wire.proofs.ListLaws.{part_is}
use Rattle.map_spec.specs.Map.{field_size}
use Rattle.map_check.proofs.RisingLaws.{cut-none, cut-high, cut-code, cut_short}
use Rattle.map_check.proofs.cut_zones.Goals as goal

pub returns-in_default : goal.returns-in_default
returns-in_default c = cut-none _ _ c.next_end.ensures c.in_default.is

pub returns-then-end : goal.returns-then-end
returns-then-end c = cut-high _ _ c.next_end.ensures _ c.in-Some.is c.if-end.true

pub returns-then-fetch-gt-MOST_CODE : goal.returns-then-fetch-gt-MOST_CODE
returns-then-fetch-gt-MOST_CODE c =
    let p = ap (λ (l : List ℕ). fetched field_size l 0) (part_is c.args.zones.now _) in
    cut-code _ _ c.next_end.ensures _ c.in-Some.is c.if-end.false _ (c.fetch.ensures ∙ p) c.if-fetch-gt-MOST_CODE.true

pub returns : goal.returns
returns c =
    let p = ap (λ (l : List ℕ). fetched field_size l 0) (part_is c.args.zones.now _) in
    cut_short _ _ c.next_end.ensures _ c.in-Some.is c.if-end.false _ (c.fetch.ensures ∙ p) c.if-fetch-gt-MOST_CODE.false
