use Rattle.std.proofs.Common.{◌≡◌, reverse, if◌then◌else◌, arith}
use Rattle.table_memory.specs.Content.{entries_of}
use Rattle.table_memory.proofs.Pages.{answered}
use Rattle.table_memory.proofs.table.Table.found_among_few.Goals.{then-query, else-query}
use Rattle.table_memory.proofs.table.Table.found_among_few.Goals as goal

pub returns : goal.returns
returns c =
    let query = c.args.query.now in
    let found = c.loop-key.found.items in
    let kept = c.if-query.found.items in
    let turned : kept ≡ (if query.backward then reverse found else found) = elim c.if-query.branch [
      | then-query w ↦ grind (arith, w.found-is, w.reverse.ensures.items, w.if-query.true)
      | else-query w ↦ grind (arith, w.found-is, w.if-query.false)
    ] in
    answered query (entries_of c.args.self.now) _ found kept c.truncate.new.self.items
    c.in-None.ensures.steps.0 c.loop-key.invariant turned c.truncate.ensures.items
