use Rattle.std.proofs.Common.{arith}
use Rattle.std.proofs.lemmas.Str.Pattern.{split_once_first}
use Rattle.table_keys.proofs.Marks.{marked}
use Rattle.table_keys.proofs.number.split_mark.Goals as goal

pub returns : goal.returns
returns c =
    marked c.args.text.now c.split_once.result c.split_once-2.result c.or.result (split_once_first 101 _ _ c.split_once.ensures.cases (omega arith)) (split_once_first 69 _ _ c.split_once-2.ensures.cases (omega arith)) c.or.ensures
