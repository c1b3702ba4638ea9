use Rattle.std.proofs.Common.{take}
use Rattle.table_keys.specs.Queries.{seen}
use Rattle.table_typed.specs.Stored.{ReadEach}
use Rattle.table_typed.proofs.item.values_of.Given as goal

abbrev pub invariant-loop-item : goal.invariant-loop-item
invariant-loop-item g l = ReadEach g.T.AsItem.reads_item (seen (take l.item-index l.found)) l.values.items
