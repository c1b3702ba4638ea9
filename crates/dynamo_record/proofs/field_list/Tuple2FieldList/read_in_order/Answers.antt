use Rattle.std.proofs.Common.{Some, subst}
use Rattle.dynamo_record.proofs.Common.{read_fields, Makes}
use Rattle.dynamo_record.proofs.BothLists.{both_made, second_missed, second_fails}
use Rattle.dynamo_record.proofs.field_list.Tuple2FieldList.read_in_order.Goals as goal

pub returns-in-Ok-Some-read_in_order : goal.returns-in-Ok-Some-read_in_order
returns-in-Ok-Some-read_in_order g c = λ ss.
    let l = g.L.FieldList.about in
    let r = g.R.FieldList.about in
    let all = read_fields (l.shapes (r.shapes ss)) (g.D.Reader.elements c.args.elements.now) in
    let between = read_fields (r.shapes ss) (g.D.Reader.elements c.read_in_order.new.elements) in
    let others = read_fields ss (g.D.Reader.elements c.read_in_order-in-Ok-Some.new.elements) in
    let left : Makes l.shapes l.told all between (Some c.in-Ok-Some.left) = subst (λ o. Makes l.shapes l.told all between o) c.in-Ok-Some.field-0-is (c.in-Ok-Some.ensures (r.shapes ss)) in
    both_made l r all between others c.in-Ok-Some.left c.in-Ok-Some-read_in_order.right left (subst (λ o. Makes r.shapes r.told between others o) c.in-Ok-Some-read_in_order.field-0-is (c.in-Ok-Some-read_in_order.ensures ss))

pub returns-in-Ok-None-read_in_order : goal.returns-in-Ok-None-read_in_order
returns-in-Ok-None-read_in_order g c = λ ss.
    let l = g.L.FieldList.about in
    let r = g.R.FieldList.about in
    let all = read_fields (l.shapes (r.shapes ss)) (g.D.Reader.elements c.args.elements.now) in
    let between = read_fields (r.shapes ss) (g.D.Reader.elements c.read_in_order.new.elements) in
    let others = read_fields ss (g.D.Reader.elements c.read_in_order-in-Ok-Some.new.elements) in
    let left : Makes l.shapes l.told all between (Some c.in-Ok-Some.left) = subst (λ o. Makes l.shapes l.told all between o) c.in-Ok-Some.field-0-is (c.in-Ok-Some.ensures (r.shapes ss)) in
    second_missed l r all between others c.in-Ok-Some.left left (subst (λ o. Makes r.shapes r.told between others o) c.in-Ok-None-read_in_order.field-0-is (c.in-Ok-None-read_in_order.ensures ss))

pub returns-in-Err-read_in_order : goal.returns-in-Err-read_in_order
returns-in-Err-read_in_order g c = λ ss.
    let l = g.L.FieldList.about in
    let r = g.R.FieldList.about in
    let all = read_fields (l.shapes (r.shapes ss)) (g.D.Reader.elements c.args.elements.now) in
    let between = read_fields (r.shapes ss) (g.D.Reader.elements c.read_in_order.new.elements) in
    let others = read_fields ss (g.D.Reader.elements c.read_in_order-in-Ok-Some.new.elements) in
    let left : Makes l.shapes l.told all between (Some c.in-Ok-Some.left) = subst (λ o. Makes l.shapes l.told all between o) c.in-Ok-Some.field-0-is (c.in-Ok-Some.ensures (r.shapes ss)) in
    second_fails l r all between others g.D.Error.Error.fault c.in-Err-read_in_order.error c.in-Ok-Some.left left (c.in-Err-read_in_order.ensures ss)

pub returns-in-Ok-None : goal.returns-in-Ok-None
returns-in-Ok-None g c = λ ss.
    let l = g.L.FieldList.about in
    let r = g.R.FieldList.about in
    let all = read_fields (l.shapes (r.shapes ss)) (g.D.Reader.elements c.args.elements.now) in
    let between = read_fields (r.shapes ss) (g.D.Reader.elements c.read_in_order.new.elements) in
    subst (λ o. Makes l.shapes l.told all between o) c.in-Ok-None.field-0-is (c.in-Ok-None.ensures (r.shapes ss))

pub returns-in-Err : goal.returns-in-Err
returns-in-Err g c = λ ss. c.in-Err.ensures (g.R.FieldList.about.shapes ss)
