use Prim.Native.Nat.{◌+◌, ◌*◌, ◌-◌}
use native.Mathlib.Omega.{arith}
use Rattle.compare.proofs.SheetLaws.{byte_one, list_counted, list_none, list-laid}
use Rattle.compare.proofs.list.Goals as goal

pub overflow_add-result : goal.overflow_add-result
overflow_add-result c = let a = c.args in record { fits = omega (arith, byte_one a.lists, c.requires.0) }

pub returns-then-out-end : goal.returns-then-out-end
returns-then-out-end c =
    let a = c.args in
    list_counted a.place.elevation a.place.azimuth a.stretch.first a.stretch.next a.stretch.old a.stretch.new a.count a.out.now a.lists c.if-out-end.true

pub returns-then-not-lists : goal.returns-then-not-lists
returns-then-not-lists c =
    let a = c.args in
    list_none a.place.elevation a.place.azimuth a.stretch.first a.stretch.next a.stretch.old a.stretch.new a.count a.out.now a.lists
    c.if-not-lists.true

pub put-requires : goal.put-requires
put-requires c = (omega arith, c.requires.1 c.if-not-lists.false)

pub returns : goal.returns
returns c =
    let if1 = c.if-out-end in
    let if2 = c.if-not-lists in
    let put = c.put in
    let a = c.args in
    list-laid a.place.elevation a.place.azimuth a.stretch.first a.stretch.next a.stretch.old a.stretch.new a.count a.out.now a.lists (6 * a.count + 6 - 6 * a.count) put.new.out
    if2.false (omega arith) put.ensures if1.false
