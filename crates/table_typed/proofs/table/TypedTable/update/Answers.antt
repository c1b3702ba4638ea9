use Rattle.std.proofs.Common.{rules}
use Rattle.table_keys.specs.KeyOrder.{key_cmp}
use Rattle.table_typed.specs.Stored.{table_of}
use Rattle.table_typed.proofs.Put.{not_equal}
use Rattle.table_typed.proofs.Updated.{not_updated, updated}
use Rattle.table_typed.proofs.table.TypedTable.update.Goals as goal

pub returns-in-Ok-clause-others : goal.returns-in-Ok-clause-others
returns-in-Ok-clause-others g c other differ =
    let done =
    updated g.T.AsItem.written g.T.AsItem.unwritten g.T.AsItem.reads_item (goal.F-post g c.args.change)
    g.E.From.from_gives c.args.key.now (table_of c.args.self.now) c.update.new.self _ c.in-Ok.field-0
    (λ before item m. search rules) c.in-Ok.ensures.updates in
    done.1.2 other (not_equal (key_cmp c.args.key.now other) differ)

pub returns-in-Err-clause-err : goal.returns-in-Err-clause-err
returns-in-Err-clause-err g c =
    (not_updated g.T.AsItem.written g.T.AsItem.unwritten g.T.AsItem.reads_item (goal.F-post g c.args.change)
    g.E.From.from_gives c.args.key.now (table_of c.args.self.now) c.update.new.self _ c.in-Err.field-0
    (λ before item m. search rules) (λ before failed m. search rules) c.in-Err.ensures.updates).0
