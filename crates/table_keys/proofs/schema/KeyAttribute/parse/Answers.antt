use Rattle.std.proofs.Common.{rules, inr, refl}
use Rattle.table_keys.proofs.Words.{no_kind, no_name, no_parts}
use Rattle.table_keys.proofs.schema.KeyAttribute.parse.Goals as goal

pub returns-in_default-clause-err : goal.returns-in_default-clause-err
returns-in_default-clause-err c = inr (refl, no_parts c.args.word.now _ c.rsplit_once.ensures.cases c.in_default.is)

pub returns-then-is_empty-clause-err : goal.returns-then-is_empty-clause-err
returns-then-is_empty-clause-err c =
    inr (refl, no_name c.args.word.now _ (c.in-Some.name, c.in-Some.kind) c.rsplit_once.ensures.cases c.in-Some.is (search rules))

pub returns-in_default-parse-clause-err : goal.returns-in_default-parse-clause-err
returns-in_default-parse-clause-err c =
    inr (refl, no_kind c.args.word.now _ (c.in-Some.name, c.in-Some.kind) c.rsplit_once.ensures.cases c.in-Some.is (search rules))
