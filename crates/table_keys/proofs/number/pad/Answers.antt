use Rattle.std.proofs.Common.{arith, ap, ◌*◌, ◌+◌, ◌^◌}
use Rattle.std.proofs.lemmas.Int.{ints}
use Rattle.std.proofs.Math.Nat.{mul_assoc}
use Rattle.table_keys.proofs.Longs.{few, ten_more}
use Rattle.table_keys.proofs.number.pad.Goals as goal

pub overflow_sub-power : goal.overflow_sub-power
overflow_sub-power c =
    let l = c.loop-digits.invariant in
    let bound = few c.loop-digits.digits c.args.digits l.same.0 c.requires.positive l.same.1 l.bound in
    omega (arith, ints, l.same.2)

pub loop-digits-preserved : goal.loop-digits-preserved
loop-digits-preserved c =
    let l = c.loop-digits.invariant in
    let bound = few c.loop-digits.digits c.args.digits l.same.0 c.requires.positive l.same.1 l.bound in
    let more = ten_more l.same.0 in
    record {
      positive = omega arith;
      bound = omega arith;
      same = (l.same.0 + 1, omega (arith, l.same.1, mul_assoc c.args.digits (10 ^ l.same.0) 10, ap (λ m. c.args.digits * m) more), omega (arith, ints, l.same.2));
    }
