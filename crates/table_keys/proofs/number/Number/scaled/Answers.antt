use Rattle.std.proofs.Common.{◌*◌, ◌^◌, refl, inr, arith}
use Rattle.std.proofs.lemmas.Int.{ints}
use Rattle.table_keys.proofs.Scaled.{scaled_from, power_kept}
use Rattle.table_keys.proofs.number.Number.scaled.Goals as goal

pub returns-in-Ok : goal.returns-in-Ok
returns-in-Ok c =
    let full = c.pad-coefficient.ensures.full in
    let same = c.pad-coefficient.ensures.same in
    let fits = c.in-Ok.ensures in (
      c.pad-coefficient.result.0 * 10 ^ c.in-Ok.power,
      scaled_from c.args.digits c.pad-coefficient.result.0 same.0 c.in-Ok.power c.args.power same.1 (omega (arith, ints, same.2, fits.0.0, fits.0.1, fits.1)),
      inr (c.pad-coefficient.result.0, c.in-Ok.power, full.0, full.1, omega (arith, ints, fits.0.0, fits.0.1, fits.1), refl),
      refl,
    )

pub returns-in-Err : goal.returns-in-Err
returns-in-Err c = λ n scaled kept.
    let full = c.pad-coefficient.ensures.full in
    let same = c.pad-coefficient.ensures.same in
    let power = power_kept c.args.digits c.pad-coefficient.result.0 same.0 n c.args.power (omega (arith, c.if-digits-eq0.false)) same.1 full.0 full.1 scaled kept in
    c.in-Err.ensures (omega (arith, ints, same.2, power.1, power.2), omega (arith, ints, same.2, power.1, power.2))
