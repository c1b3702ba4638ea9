use Rattle.std.proofs.Common.{sym, ap, ◌∙◌, length-append, arith}
use Rattle.std.proofs.lemmas.Int.{ints}
use Rattle.table_keys.proofs.Decimals.{long_before, long_behind, decimal_is}
use Rattle.table_keys.proofs.Longs.{value_append, digits_append}
use Rattle.std.specs.Str.Parse.{digits_value_after}
use Rattle.table_keys.proofs.number.Number.decimal.Goals as goal

pub returns-in_err-digits : goal.returns-in_err-digits
returns-in_err-digits c = rw c.from_residual.ensures (λ z. long_before c.args.negative c.args.whole.now c.args.fraction.now c.args.exponent z c.in_err-digits.ensures)

pub returns-in_err-digits-2 : goal.returns-in_err-digits-2
returns-in_err-digits-2 c = rw c.from_residual-in_err-digits-2.ensures
    (λ z. long_behind c.args.negative c.args.whole.now c.args.fraction.now c.args.exponent z _ c.in_ok-digits.ensures.1 c.in_err-digits-2.ensures)

pub scaled-requires-clause-room : goal.scaled-requires-clause-room
scaled-requires-clause-room c = omega (arith, ints, c.in_ok-digits-2.ensures.4, c.in_ok-digits.ensures.4, c.ranges.exponent)

pub returns : goal.returns
returns c =
    let first = c.in_ok-digits.ensures in
    let second = c.in_ok-digits-2.ensures in
    decimal_is c.args.negative c.args.whole.now c.args.fraction.now c.args.exponent c.in_ok-digits-2.digits c.in_ok-digits-2.zeros _
    (second.1 ∙ ap (λ n. digits_value_after 10 n c.args.fraction.now) first.1 ∙ sym (value_append 0 c.args.whole.now c.args.fraction.now))
    (omega (arith, ints, second.4, first.4, c.ranges.exponent))
    (omega (arith, length-append c.args.whole.now c.args.fraction.now), digits_append c.args.whole.now c.args.fraction.now first.0 second.0)
    c.scaled.result c.scaled.ensures
