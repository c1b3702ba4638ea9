use Rattle.std.proofs.Common.{◌∙◌}
use Rattle.dynamo_json.proofs.Common.{err_from_is_err_and, fault_of, view}
use Rattle.dynamo_de.specs.ReadJson.{read_value}
use Rattle.dynamo_json.proofs.Stored.{text_of}
use Rattle.dynamo_json.proofs.Unstored.{not_read}
use Rattle.dynamo_json.proofs.json_text.plain.plain_text.Goals as goal

pub returns : goal.returns
returns c =
    text_of (λ j. j) (read_value (view c.args.value.now)) c.after-printer.result.out.tokens
    c.plain.new.self.out.tokens c.plain.new.self.out.before _ c.after-printer.ensures.none
    (c.plain.ensures.before ∙ c.after-printer.ensures.before ∙ c.new-text.ensures.bytes) c.in_ok-plain.ensures.tokens c.into_text.ensures

pub returns-in_err-plain : goal.returns-in_err-plain
returns-in_err-plain c =
    let failed = err_from_is_err_and c.from_residual.result c.from_residual.ensures.1 in
    rw (failed.1, failed.2) (not_read (read_value (view c.args.value.now)) c.after-printer.result.out.tokens
    (fault_of c.in_err-plain.field-0.0) c.in_err-plain.ensures.tokens)
