use Rattle.std.proofs.Common.{subst}
use Rattle.dynamo_record.proofs.Common.{read_fields, Makes, about_both}
use Rattle.dynamo_record.specs.Flat.{about_four}
use Rattle.dynamo_record.proofs.flat_lists.Tuple8FieldList.read_in_order.Goals as goal

pub returns-in-Ok-Some : goal.returns-in-Ok-Some
returns-in-Ok-Some g c = λ ss.
    let l = about_both (about_four g.A.FieldList.about g.B.FieldList.about g.C.FieldList.about g.D.FieldList.about) (about_four g.E.FieldList.about g.F.FieldList.about g.G.FieldList.about g.H.FieldList.about) in
    subst (λ o. Makes l.shapes l.told (read_fields (l.shapes ss) (g.X.Reader.elements c.args.elements.now)) (read_fields ss (g.X.Reader.elements c.read_in_order.new.elements)) o) c.in-Ok-Some.field-0-is (c.in-Ok-Some.ensures ss)

pub returns-in-Ok-None : goal.returns-in-Ok-None
returns-in-Ok-None g c = λ ss.
    let l = about_both (about_four g.A.FieldList.about g.B.FieldList.about g.C.FieldList.about g.D.FieldList.about) (about_four g.E.FieldList.about g.F.FieldList.about g.G.FieldList.about g.H.FieldList.about) in
    subst (λ o. Makes l.shapes l.told (read_fields (l.shapes ss) (g.X.Reader.elements c.args.elements.now)) (read_fields ss (g.X.Reader.elements c.read_in_order.new.elements)) o) c.in-Ok-None.field-0-is (c.in-Ok-None.ensures ss)
