use Rattle.std.specs.Option.{option_copied}
use Rattle.table_store.proofs.Ordered.{LeadsTo}
use Rattle.table_store.proofs.rows.order.in_order.Given as goal

abbrev pub invariant-loop-item : goal.invariant-loop-item
invariant-loop-item l = LeadsTo l.schema (option_copied l.start_after) l.fn.items.items l.item-index l.last
