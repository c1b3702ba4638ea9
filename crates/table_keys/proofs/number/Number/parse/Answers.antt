use Rattle.std.proofs.Common.{◌==◌, sym, ap, ◌∙◌, subst, rules, SFits, w32}
use Rattle.std.proofs.lemmas.Int.{to_z-of_z}
use Rattle.std.specs.List.{before_first, after_first}
use Rattle.std.specs.Str.Parse.{starts_with_minus, without_leading_sign}
use Rattle.table_keys.specs.Numbers.{IsExponent}
use Rattle.table_keys.proofs.Decimals.{number_is}
use Rattle.table_keys.proofs.number.Number.parse.Goals as goal

pub returns-in_err-mantissa : goal.returns-in_err-mantissa
returns-in_err-mantissa c = rw c.from_residual.ensures (λ z n. c.in_err-mantissa.ensures n.exponent n.is_exponent)

pub returns : goal.returns
returns c =
    let parts = c.in_ok-mantissa.ensures in
    let fits : SFits w32 c.in_ok-mantissa.exponent = search rules in
    let whole_is = c.as_bytes.ensures.value ∙ c.split_point.ensures.whole ∙ ap (before_first (λ b. b == 46)) parts.0 in
    number_is c.args.text.now _ _ _ _ (subst (IsExponent c.args.text.now) (sym (to_z-of_z w32 c.in_ok-mantissa.exponent fits)) parts.1)
    (c.split_sign-negative.ensures.sign ∙ ap starts_with_minus whole_is)
    (c.split_sign-negative.ensures.rest ∙ ap without_leading_sign whole_is)
    (c.as_bytes-2.ensures.value ∙ c.split_point.ensures.fraction ∙ ap (after_first (λ b. b == 46)) parts.0)
    c.decimal.result c.decimal.ensures
