use Rattle.dynamo_record.proofs.Common.{meets_more}
use Rattle.dynamo_record.specs.Newtypes.{ReadsAs}
use Rattle.dynamo_record.proofs.newtype.read_transparent.Goals as goal

pub returns : goal.returns
unfolding ReadsAs
returns g c =
    let source = g.D.Reader.source c.args.deserializer in
    meets_more g.D.Error.Error.fault (g.T.Deserialize.reads source) (ReadsAs g.T.Shaped.about source)
    (g.met.T.Shaped.reads_by_shape source) c.deserialize.result c.deserialize.ensures
