use Rattle.std.proofs.Common.{rules, ℕ, Vec, Global, string_bytes}
use Rattle.dynamo_value.specs.Base64.{bytes_of_base64}
use Rattle.dynamo_value.specs.Kind.{fault_of}
use Rattle.dynamo_de.specs.Promises.{promised}
use Rattle.dynamo_de.specs.Reading.{read_string}
use Rattle.dynamo_de.proofs.Attributes.{blob_refused}
use Rattle.dynamo_de.proofs.Promises.{answer_stops}
use Rattle.dynamo_de.proofs.impls.attribute_value.read_bytes.Goals as goal

pub returns-in_err-text : goal.returns-in_err-text
returns-in_err-text g c =
    let stop = answer_stops string_bytes (λ (b : Vec ℕ Global). b.items) (λ text. promised (bytes_of_base64 text)) (read_string (g.R.Reader.source c.args.reader)) (g.R.Error.Error.fault c.in_err-text.field-0.0) c.in_err-text.ensures in
    search rules

pub returns : goal.returns
returns g c = blob_refused (g.R.Reader.source c.args.reader) c.in_ok-text.text (fault_of c.in-Err.refusal) (g.R.Error.Error.fault c.told.result) (search rules) (search rules) c.told.ensures
