use Rattle.table_memory.proofs.HeldKeys.{after_insert}
use Rattle.table_memory.proofs.table.Table.put_under.Goals as goal

pub invariant_of-self : goal.invariant_of-self
invariant_of-self c =
    record {
      held = after_insert c.args.self.now.items c.insert.new.self c.args.key c.args.item
          c.insert.result
          c.insert.ensures.entries c.insert.ensures.err c.requires.held c.args.self.now.held;
    }
