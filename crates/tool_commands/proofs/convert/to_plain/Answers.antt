use Rattle.std.proofs.lemmas.Result.{err_from_is_err_and}
use Rattle.tool_commands.specs.Failed.{reason}
use Rattle.tool_commands.proofs.StoredValues.{plain_fails}
use Rattle.tool_commands.proofs.convert.to_plain.Goals as goal

pub returns-in_err-value : goal.returns-in_err-value
returns-in_err-value g c =
    let read = c.in_err-value.ensures in
    let failed = err_from_is_err_and c.from_residual.result c.from_residual.ensures.1 in
    rw (failed.1, failed.2) (read.0, read.1, (read.2.0, read.2.1, plain_fails read.2.0 (reason c.in_err-value.field-0.0) read.2.2))
