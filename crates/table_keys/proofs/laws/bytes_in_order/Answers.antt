use Rattle.table_keys.proofs.KeyBytesInOrder.{keys, values}
use Rattle.table_keys.proofs.laws.bytes_in_order.Goals as goal

pub returns-clause-values : goal.returns-clause-values
returns-clause-values c = values

pub returns-clause-keys : goal.returns-clause-keys
returns-clause-keys c = keys
