use Rattle.table_keys.proofs.NextValues.{next_kind, next_number}
use Rattle.table_keys.proofs.found_range.next_value.Goals as goal

pub returns-in-Some : goal.returns-in-Some
returns-in-Some c = rw c.in-N.is (next_number c.in-N.number c.in-Some.next c.in-Some.ensures.next)

pub returns-in-None : goal.returns-in-None
returns-in-None c = rw c.in-N.is (next_kind c.in-N.number c.new.result c.in-None.ensures.next
    c.new.ensures.items)
