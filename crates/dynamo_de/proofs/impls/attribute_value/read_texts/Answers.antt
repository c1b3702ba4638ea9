use Rattle.dynamo_de.proofs.Attributes.{texts_read}
use Rattle.dynamo_de.proofs.Meets.{meets_more}
use Rattle.dynamo_de.proofs.impls.attribute_value.read_texts.Goals as goal

pub returns : goal.returns
returns g c = meets_more g.R.Error.Error.fault _ _ (texts_read (g.R.Reader.source c.args.reader)) c.deserialize.result c.deserialize.ensures
