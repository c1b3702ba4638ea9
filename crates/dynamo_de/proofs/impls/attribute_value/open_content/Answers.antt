use Rattle.std.proofs.Common.{Ok, string_bytes}
use Rattle.std.proofs.lemmas.Result.{err_from_is_err_and}
use Rattle.dynamo_value.specs.Av as av
use Rattle.dynamo_de.specs.OpenedView.{opened_view}
use Rattle.dynamo_de.specs.ReadAttribute.{whole, in_map, in_list}
use Rattle.dynamo_de.specs.Reading.{read_string, read_entries, read_elements}
use Rattle.dynamo_de.proofs.Promises.{answer_stops}
use Rattle.dynamo_de.proofs.impls.attribute_value.open_content.Goals as goal

pub returns-in_err-deserialize-in-N : goal.returns-in_err-deserialize-in-N
returns-in_err-deserialize-in-N g c =
    let handed_on = err_from_is_err_and c.from_residual.result c.from_residual.ensures.1 in
    rw (c.in-N.is, handed_on.1, handed_on.2) (answer_stops string_bytes (opened_view g.R.Reader.elements g.R.Reader.entries) (λ text. Ok (whole (av.N text))) (read_string (g.R.Reader.source c.args.content)) (g.R.Error.Error.fault c.in_err-deserialize-in-N.field-0.0) c.in_err-deserialize-in-N.ensures)

pub returns-in_err-deserialize-in-S : goal.returns-in_err-deserialize-in-S
returns-in_err-deserialize-in-S g c =
    let handed_on = err_from_is_err_and c.from_residual-in_err-deserialize-in-S.result c.from_residual-in_err-deserialize-in-S.ensures.1 in
    rw (c.in-S.is, handed_on.1, handed_on.2) (answer_stops string_bytes (opened_view g.R.Reader.elements g.R.Reader.entries) (λ text. Ok (whole (av.S text))) (read_string (g.R.Reader.source c.args.content)) (g.R.Error.Error.fault c.in_err-deserialize-in-S.field-0.0) c.in_err-deserialize-in-S.ensures)

pub returns-in_err-entries_of-in-M : goal.returns-in_err-entries_of-in-M
returns-in_err-entries_of-in-M g c =
    let handed_on = err_from_is_err_and c.from_residual-in_err-entries_of-in-M.result c.from_residual-in_err-entries_of-in-M.ensures.1 in
    rw (c.in-M.is, handed_on.1, handed_on.2) (answer_stops g.R.Reader.entries (opened_view g.R.Reader.elements g.R.Reader.entries) (λ es. Ok (in_map es)) (read_entries (g.R.Reader.source c.args.content)) (g.R.Error.Error.fault c.in_err-entries_of-in-M.field-0.0) c.in_err-entries_of-in-M.ensures)

pub returns-in_err-elements_of-in-L : goal.returns-in_err-elements_of-in-L
returns-in_err-elements_of-in-L g c =
    let handed_on = err_from_is_err_and c.from_residual-in_err-elements_of-in-L.result c.from_residual-in_err-elements_of-in-L.ensures.1 in
    rw (c.in-L.is, handed_on.1, handed_on.2) (answer_stops g.R.Reader.elements (opened_view g.R.Reader.elements g.R.Reader.entries) (λ ss. Ok (in_list ss)) (read_elements (g.R.Reader.source c.args.content)) (g.R.Error.Error.fault c.in_err-elements_of-in-L.field-0.0) c.in_err-elements_of-in-L.ensures)
