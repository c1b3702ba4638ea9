use Rattle.std.proofs.Common.{◌≡◌, ◌<◌, ◌+◌, ◌-◌, ◌^◌, arith}
use Rattle.dynamo_record.proofs.Choosing.{left_read, right_read, right_fails}
use Rattle.dynamo_record.proofs.variant_list.ChoiceVariantList.read.Goals as goal

pub returns-in-Ok : goal.returns-in-Ok
returns-in-Ok g c = λ inside fits name ns i cs.
    let l = g.L.VariantList.about in
    let r = g.R.VariantList.about in
    let bound = c.count-first.ensures.at_most in
    let first : c.args.place < l.count = omega arith in
    left_read g.A.Error.Error.fault l r name ns i cs c.args.place (g.A.VariantAccess.content c.args.content) c.in-Ok.variant (c.in-Ok.ensures first fits name ns i (r.contents cs))

pub returns-in-Ok-read : goal.returns-in-Ok-read
returns-in-Ok-read g c = λ inside fits name ns i cs.
    let l = g.L.VariantList.about in
    let r = g.R.VariantList.about in
    let j = c.args.place - c.count-first.result in
    let few : c.count-first.result + 1 < 2 ^ 64 = omega arith in
    let all : c.count-first.result ≡ l.count = c.count-first.ensures.exact few in
    let at : l.count + (c.args.place - c.count-first.result) ≡ c.args.place = omega arith in
    let second : c.args.place - c.count-first.result < r.count = omega arith in
    let fits_too : c.args.place - c.count-first.result + 1 < 2 ^ 64 = omega arith in
    right_read g.A.Error.Error.fault l r name ns i cs c.args.place (g.A.VariantAccess.content c.args.content) j at c.in-Ok-read.variant (c.in-Ok-read.ensures second fits_too name ns (i + l.count) cs)

pub returns-in-Err-read : goal.returns-in-Err-read
returns-in-Err-read g c = λ inside fits name ns i cs.
    let l = g.L.VariantList.about in
    let r = g.R.VariantList.about in
    let j = c.args.place - c.count-first.result in
    let few : c.count-first.result + 1 < 2 ^ 64 = omega arith in
    let all : c.count-first.result ≡ l.count = c.count-first.ensures.exact few in
    let at : l.count + (c.args.place - c.count-first.result) ≡ c.args.place = omega arith in
    let second : c.args.place - c.count-first.result < r.count = omega arith in
    let fits_too : c.args.place - c.count-first.result + 1 < 2 ^ 64 = omega arith in
    right_fails g.A.Error.Error.fault l r name ns i cs c.args.place (g.A.VariantAccess.content c.args.content) j at c.in-Err-read.error (c.in-Err-read.ensures second fits_too name ns (i + l.count) cs)
