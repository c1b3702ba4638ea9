use Rattle.table_keys.proofs.KeyBytesInOrder.{same}
use Rattle.table_keys.proofs.laws.same_bytes.Goals as goal

pub returns : goal.returns
returns c = same
