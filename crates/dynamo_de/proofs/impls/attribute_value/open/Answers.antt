use Rattle.std.proofs.Common.{sym, subst}
use Rattle.std.proofs.lemmas.Result.{err_from_is_err_and}
use Rattle.dynamo_de.specs.Meets.{Meets}
use Rattle.dynamo_de.specs.OpenedView.{opened_view}
use Rattle.dynamo_de.specs.Promises.{Agrees}
use Rattle.dynamo_de.proofs.Attributes.{entry_seen, entry_stops, entry_opens}
use Rattle.dynamo_de.proofs.impls.attribute_value.open.Goals as goal

pub returns-in_err-prefix : goal.returns-in_err-prefix
returns-in_err-prefix g c =
    let handed_on = err_from_is_err_and c.from_residual.result c.from_residual.ensures.1 in
    rw (handed_on.1, handed_on.2) (entry_stops (entry_seen g.R.Reader.source) (opened_view g.R.Reader.elements g.R.Reader.entries) (g.R.Reader.source c.args.reader) (g.R.Error.Error.fault c.in_err-prefix.field-0.0) c.in_err-prefix.ensures)

pub returns : goal.returns
returns g c =
    let same = entry_opens (entry_seen g.R.Reader.source) (g.R.Reader.source c.args.reader) (c.in_ok-prefix.prefix, c.in_ok-prefix.content) c.in_ok-prefix.ensures in
    subst (λ x. Meets g.R.Error.Error.fault (Agrees (opened_view g.R.Reader.elements g.R.Reader.entries) x) c.open_content.result) (sym same) c.open_content.ensures
