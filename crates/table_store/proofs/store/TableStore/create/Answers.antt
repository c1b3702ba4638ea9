use Rattle.std.proofs.Common.{sym, ap, ◌∙◌}
use Rattle.table_keys.specs.KeyOf.{words_of}
use Rattle.table_store.proofs.Keys.{same_words}
use Rattle.table_store.proofs.store.TableStore.create.Goals as goal

pub returns-then-eq-clause-schema : goal.returns-then-eq-clause-schema
returns-then-eq-clause-schema g c = ap words_of (sym c.schema.ensures) ∙ same_words c.schema.result.now c.args.schema c.if-eq.ensures
