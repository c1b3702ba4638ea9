use Rattle.std.proofs.Common.{◌≡◌, Ok, Err, Some, refl}
use Rattle.std.proofs.lemmas.Result.{err_from_is_err_and}
use Rattle.serde_json.specs.Read.{read}
use Rattle.dynamo_value.specs.View.{view}
use Rattle.dynamo_json.specs.Json.{json_of}
use Rattle.dynamo_json.specs.OfText.{fault_in}
use Rattle.tool_commands.specs.Failed.{not_json}
use Rattle.tool_commands.proofs.StoredValues.{text_fails}
use Rattle.tool_commands.proofs.stored.stored.Goals as goal

pub returns-in_default : goal.returns-in_default
returns-in_default c = (Err not_json, λ json is. c.in_default.ensures.cases.0 is.0, refl)

pub returns-in_err-from_json_text : goal.returns-in_err-from_json_text
returns-in_err-from_json_text c =
    let failed = err_from_is_err_and c.from_residual.result c.from_residual.ensures.1 in
    let refused = rw c.in-Ok.ensures.cases.0 at c.in_err-from_json_text.ensures.err in
    rw (failed.1, failed.2) (text_fails c.args.bytes.now (fault_in c.in_err-from_json_text.field-0.0) c.in-Ok.ensures.cases.1 refused)

pub returns : goal.returns
returns c =
    let a = view c.in_ok-from_json_text.field-0 in
    let read_as : read c.args.bytes.now ≡ Some (json_of a) = rw c.in-Ok.ensures.cases.0 at c.in_ok-from_json_text.ensures.ok in
    (Ok (json_of a), (c.in-Ok.ensures.cases.1, read_as), (c.in_ok-from_json_text.ensures.read, refl))
