use Rattle.std.proofs.Common.{◌∙◌}
use Rattle.dynamo_json.proofs.Common.{err_from_is_err_and, fault_of, json_datum, written, json_of}
use Rattle.serde_json.specs.View.{view}
use Rattle.dynamo_json.proofs.Stored.{text_of, not_written}
use Rattle.dynamo_json.proofs.json_text.stored.stored_text.Goals as goal

pub returns : goal.returns
returns c =
    text_of json_of (written (json_datum (view c.args.json.now))) c.after-printer.result.out.tokens
    c.stored.new.self.out.tokens c.stored.new.self.out.before _ c.after-printer.ensures.none
    (c.stored.ensures.before ∙ c.after-printer.ensures.before ∙ c.new-text.ensures.bytes) c.in_ok-stored.ensures.tokens c.into_text.ensures

pub returns-in_err-stored : goal.returns-in_err-stored
returns-in_err-stored c =
    let failed = err_from_is_err_and c.from_residual.result c.from_residual.ensures.1 in
    rw (failed.1, failed.2) (not_written (written (json_datum (view c.args.json.now))) c.after-printer.result.out.tokens
    (fault_of c.in_err-stored.field-0.0) c.in_err-stored.ensures.tokens)
