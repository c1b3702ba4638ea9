use Rattle.std.proofs.Common.{◌≡◌, All, take}
use Rattle.table_store.specs.Content.{HasKey, schema_of, table_of}
use Rattle.table_store.specs.Depth.{IsKept}
use Rattle.table_store.specs.Runs.{IsClean, WasClean}
use Rattle.table_store.proofs.Each.{Leads}
use Rattle.table_store.proofs.store.TableStore.put_each.Given as goal

abbrev pub invariant-loop-item : goal.invariant-loop-item
invariant-loop-item g l =
    (table_of l.self ≡ table_of l.fn.self) × All (HasKey (schema_of l.fn.self)) (take l.item-index l.items)
    × All IsKept (take l.item-index l.items) × WasClean g.S.Store l.fn.self.conn l.self.conn
    × (IsClean g.S.Store l.self.conn → Leads g.S.Store l.items (table_of l.fn.self) l.fn.self.conn l.item-index l.self.conn)
