use Rattle.dynamo_shape.proofs.Counts.{keeps_count}
use Rattle.dynamo_shape.proofs.Keys.{key_texts}
use Rattle.dynamo_shape.proofs.laws.key_texts.Goals as goal

pub returns-clause-keys : goal.returns-clause-keys
returns-clause-keys c = key_texts

pub returns-clause-entries : goal.returns-clause-entries
returns-clause-entries c = keeps_count
