use Rattle.std.proofs.Common.{◌≡◌, ◌<◌, ◌+◌, ◌-◌, ◌^◌, arith}
use Rattle.dynamo_record.proofs.BothLists.{left_filled, right_filled}
use Rattle.dynamo_record.proofs.field_list.Tuple2FieldList.read_value.Goals as goal

pub returns-then-place-first : goal.returns-then-place-first
returns-then-place-first g c = λ inside fits ss os more h.
    let l = g.L.FieldList.about in
    let r = g.R.FieldList.about in
    let bound = c.count-first.ensures.at_most in
    let first : c.args.place < l.count = omega arith in
    left_filled g.L.FieldList.holds g.R.FieldList.holds os h.0 more (g.D.Reader.source c.args.value) c.read_value.new.slots c.args.slots.now.1 g.D.Error.Error.fault (l.shapes (r.shapes ss)) c.args.place c.read_value.result h.2
    (c.read_value.ensures first fits (r.shapes ss) os h.0 h.1)

pub returns-else-place-first : goal.returns-else-place-first
returns-else-place-first g c = λ inside fits ss os more h.
    let l = g.L.FieldList.about in
    let r = g.R.FieldList.about in
    let read = c.read_value-else-place-first in
    let few : c.count-first.result + 1 < 2 ^ 64 = omega arith in
    let all : c.count-first.result ≡ l.count = c.count-first.ensures.exact few in
    let at : l.count + (c.args.place - c.count-first.result) ≡ c.args.place = omega arith in
    let second : c.args.place - c.count-first.result < r.count = omega arith in
    let fits_too : c.args.place - c.count-first.result + 1 < 2 ^ 64 = omega arith in
    right_filled g.L.FieldList.holds g.R.FieldList.holds os h.0 more (g.D.Reader.source c.args.value) c.args.slots.now.0 read.new.slots l.count g.met.L.FieldList.behind.holds_behind l.shapes g.met.L.FieldList.behind.read (r.shapes ss) g.D.Error.Error.fault
    c.args.place (c.args.place - c.count-first.result) read.result at h.1 (read.ensures second fits_too ss h.0 more h.2)
