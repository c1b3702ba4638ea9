use Rattle.dynamo_record.proofs.Common.{After, read_newtype, meets_more, named_newtype}
use Rattle.dynamo_record.specs.Newtypes.{ReadsAs}
use Rattle.dynamo_shape.proofs.TypesByHand.{newtype_permitted}
use Rattle.dynamo_record.proofs.newtype.read_newtype.Goals as goal

pub returns : goal.returns
unfolding ReadsAs
returns g c = λ own.
    let a = g.T.Shaped.about in
    let source = g.D.Reader.source c.args.deserializer in
    meets_more g.D.Error.Error.fault (After (read_newtype source) g.T.Deserialize.reads) (ReadsAs (named_newtype own a) source)
    (λ r h. newtype_permitted own a.shape a.tells g.T.Deserialize.reads g.met.T.Shaped.reads_by_shape source r h) c.read_content.result c.read_content.ensures
