use Rattle.salvage_find.proofs.PlaceLaws.{next-found, next_past}
use Rattle.salvage_find.proofs.next_kept.Goals as goal

pub returns-then-buf-place : goal.returns-then-buf-place
returns-then-buf-place c = let a = c.args in next_past a.buf.now a.place c.if-buf-place.true

pub returns : goal.returns
returns c = next-found c.find.ensures
