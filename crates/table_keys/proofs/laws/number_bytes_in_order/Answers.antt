use Rattle.table_keys.proofs.NumberBytesInOrder.{in_order}
use Rattle.table_keys.proofs.laws.number_bytes_in_order.Goals as goal

pub returns : goal.returns
returns c = in_order
