use Rattle.std.proofs.Common.{◌≡◌, ◌<◌, ◌+◌, ◌-◌, ◌^◌, sym, ap, ◌∙◌, arith}
use Rattle.dynamo_record.proofs.Common.{is_filled}
use Rattle.dynamo_record.proofs.field_list.Tuple2FieldList.is_read.Goals as goal

pub returns-then-place-first : goal.returns-then-place-first
returns-then-place-first g c = λ inside fits os more h.
    let l = g.L.FieldList.about in
    let bound = c.count-first.ensures.at_most in
    let first : c.args.place < l.count = omega arith in
    c.is_read.ensures first fits os h.0 h.1

pub returns-else-place-first : goal.returns-else-place-first
returns-else-place-first g c = λ inside fits os more h.
    let l = g.L.FieldList.about in
    let r = g.R.FieldList.about in
    let few : c.count-first.result + 1 < 2 ^ 64 = omega arith in
    let all : c.count-first.result ≡ l.count = c.count-first.ensures.exact few in
    let at : l.count + (c.args.place - c.count-first.result) ≡ c.args.place = omega arith in
    let second : c.args.place - c.count-first.result < r.count = omega arith in
    let fits_too : c.args.place - c.count-first.result + 1 < 2 ^ 64 = omega arith in
    c.is_read-else-place-first.ensures second fits_too h.0 more h.2
    ∙ sym (g.met.L.FieldList.behind.filled c.args.slots.now.0 os h.0 (c.args.place - c.count-first.result) h.1) ∙ ap (λ i. is_filled i os) at
