use Rattle.std.proofs.Common.{map}
use Rattle.dynamo_record.proofs.Common.{complete, missed_name}
use Rattle.dynamo_record.proofs.BothLists.{both_completed, second_stops}
use Rattle.dynamo_record.proofs.field_list.Tuple2FieldList.complete.Goals as goal

pub returns-in-Ok-complete : goal.returns-in-Ok-complete
returns-in-Ok-complete g c = λ ss gs os more h.
    let l = g.L.FieldList.about in
    let r = g.R.FieldList.about in
    both_completed l r g.E.Error.fault (complete (l.shapes (r.shapes ss)) (l.defaults (r.defaults gs)) os) (complete (r.shapes ss) (r.defaults gs) h.0) (complete ss gs more)
    (missed_name (map (λ n. n.now) c.args.names.now) (l.shapes (r.shapes ss)) (l.defaults (r.defaults gs)) os) (λ names. missed_name (map (λ n. n.now) names.now) (r.shapes ss) (r.defaults gs) h.0) (λ names. missed_name (map (λ n. n.now) names.now) ss gs more)
    c.in-Ok.first.0 c.in-Ok-complete.second.0 c.in-Ok.first.1 c.in-Ok-complete.second.1 (c.in-Ok.ensures (r.shapes ss) (r.defaults gs) os h.0 h.1) (c.in-Ok-complete.ensures ss gs h.0 more h.2)

pub returns-in-Err-complete : goal.returns-in-Err-complete
returns-in-Err-complete g c = λ ss gs os more h.
    let l = g.L.FieldList.about in
    let r = g.R.FieldList.about in
    second_stops l r g.E.Error.fault (complete (l.shapes (r.shapes ss)) (l.defaults (r.defaults gs)) os) (complete (r.shapes ss) (r.defaults gs) h.0) (complete ss gs more)
    (missed_name (map (λ n. n.now) c.args.names.now) (l.shapes (r.shapes ss)) (l.defaults (r.defaults gs)) os) (λ names. missed_name (map (λ n. n.now) names.now) (r.shapes ss) (r.defaults gs) h.0) (λ names. missed_name (map (λ n. n.now) names.now) ss gs more)
    c.in-Ok.first.0 c.in-Ok.first.1 c.in-Err-complete.error (c.in-Ok.ensures (r.shapes ss) (r.defaults gs) os h.0 h.1) (c.in-Err-complete.ensures ss gs h.0 more h.2)

pub returns-in-Err : goal.returns-in-Err
returns-in-Err g c = λ ss gs os more h. c.in-Err.ensures (g.R.FieldList.about.shapes ss) (g.R.FieldList.about.defaults gs) os h.0 h.1
