use Rattle.table_keys.proofs.EqualKeys.{equal_too, held_key_too}
use Rattle.table_keys.proofs.OneKey.{key_once, number_once}
use Rattle.table_keys.proofs.laws.one_key.Goals as goal

pub returns-clause-key : goal.returns-clause-key
returns-clause-key c = key_once

pub returns-clause-number : goal.returns-clause-number
returns-clause-number c = number_once

pub returns-clause-equal : goal.returns-clause-equal
returns-clause-equal c = equal_too

pub returns-clause-held : goal.returns-clause-held
returns-clause-held c = held_key_too
