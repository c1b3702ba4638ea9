use Rattle.table_memory.proofs.Puts.{went_through}
use Rattle.table_memory.specs.Content.{schema_of}
use Rattle.table_keys.proofs.EqualKeys.{equal_too}
use Rattle.table_memory.proofs.table.Table.put_if_returning_key.Goals as goal

pub returns-clause-puts : goal.returns-clause-puts
returns-clause-puts c =
    let key = c.in_ok-key in
    let copy = c.in_ok-copy in
    let old = c.args.self.now in
    let went = went_through c.args.condition key.key copy.copy c.args.item old c.put_under.new.self
    c.in_ok-put_under.field-0 c.in_ok-put_under.ensures.puts copy.ensures.cases in
    (equal_too (schema_of old) c.args.item key.key copy.copy key.ensures.reads copy.ensures.cases, went.0, went.1)
