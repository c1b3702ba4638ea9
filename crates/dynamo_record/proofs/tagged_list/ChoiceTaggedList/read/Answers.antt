use Rattle.std.proofs.Common.{◌≡◌, ◌<◌, ◌+◌, ◌-◌, ◌^◌, arith}
use Rattle.dynamo_record.proofs.TaggedChoice.{right_read, right_fails}
use Rattle.dynamo_record.proofs.tagged_list.ChoiceTaggedList.read.Goals as goal

pub returns-in-Ok : goal.returns-in-Ok
returns-in-Ok g c = λ tag fit inside fits name ss es h.
    let l = g.L.TaggedList.about in
    let bound = c.count-first.ensures.at_most in
    let first : c.args.place < l.count = omega arith in
    c.in-Ok.ensures tag fit.0 first fits name (g.R.TaggedList.about.structs name ss) es h

pub returns-in-Err : goal.returns-in-Err
returns-in-Err g c = λ tag fit inside fits name ss es h.
    let l = g.L.TaggedList.about in
    let bound = c.count-first.ensures.at_most in
    let first : c.args.place < l.count = omega arith in
    c.in-Err.ensures tag fit.0 first fits name (g.R.TaggedList.about.structs name ss) es h

pub returns-in-Ok-read : goal.returns-in-Ok-read
returns-in-Ok-read g c = λ tag fit inside fits name ss es h.
    let l = g.L.TaggedList.about in
    let r = g.R.TaggedList.about in
    let few : c.count-first.result + 1 < 2 ^ 64 = omega arith in
    let all : c.count-first.result ≡ l.count = c.count-first.ensures.exact few in
    let at : l.count + (c.args.place - c.count-first.result) ≡ c.args.place = omega arith in
    let second : c.args.place - c.count-first.result < r.count = omega arith in
    let fits_too : c.args.place - c.count-first.result + 1 < 2 ^ 64 = omega arith in
    right_read l r name ss es c.args.place (c.args.place - c.count-first.result) at c.in-Ok-read.variant (c.in-Ok-read.ensures tag fit.1 second fits_too name ss es h)

pub returns-in-Err-read : goal.returns-in-Err-read
returns-in-Err-read g c = λ tag fit inside fits name ss es h.
    let l = g.L.TaggedList.about in
    let r = g.R.TaggedList.about in
    let few : c.count-first.result + 1 < 2 ^ 64 = omega arith in
    let all : c.count-first.result ≡ l.count = c.count-first.ensures.exact few in
    let at : l.count + (c.args.place - c.count-first.result) ≡ c.args.place = omega arith in
    let second : c.args.place - c.count-first.result < r.count = omega arith in
    let fits_too : c.args.place - c.count-first.result + 1 < 2 ^ 64 = omega arith in
    right_fails l r name ss es c.args.place (c.args.place - c.count-first.result) at g.D.Error.Error.fault c.in-Err-read.error (c.in-Err-read.ensures tag fit.1 second fits_too name ss es h)
