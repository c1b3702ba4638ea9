use Rattle.std.proofs.Common.{◌≡◌, ◌+◌, ◌*◌, ◌^◌, sym, ap, ◌∙◌, subst, inr, arith}
use Rattle.std.specs.Char.{digit_value}
use Rattle.std.specs.Str.Parse.{AllDigits, digits_value_after}
use Rattle.std.proofs.Math.Nat.{mul_assoc}
use Rattle.table_keys.specs.Digits.{IsLong}
use Rattle.table_keys.proofs.Longs.{long_after, long_here, ten_more}
use Rattle.table_keys.proofs.number.read_digits.Goals as goal

pub returns-else-digit-eq0 : goal.returns-else-digit-eq0
returns-else-digit-eq0 c = λ all.
    let l = c.loop-byte.invariant in
    let rest = c.in-Some.ensures.cases.0 in
    let digit = ap digit_value c.from.ensures in
    let value = c.in_ok-digit.ensures.value in
    let left = subst (AllDigits 10) rest (l.left all) in
    subst IsLong (ap (digits_value_after 10 (c.loop-byte.digits * 10 ^ c.loop-byte.zeros)) (sym rest) ∙ l.same)
    (long_after _ c.in-Some.tail.now
    (long_here c.loop-byte.digits c.loop-byte.zeros (digit_value c.in-Some.byte.now) c.if-digits-lt-LEAST.false (omega (arith, c.if-digit-eq0.false, value.0, value.1, digit)) (omega (arith, value.0, digit)))
    left.1)

pub loop-byte-preserved : goal.loop-byte-preserved
loop-byte-preserved c =
    let l = c.loop-byte.invariant in
    let rest = c.in-Some.ensures.cases.0 in
    let digit = ap digit_value c.from.ensures in
    let value = c.in_ok-digit.ensures.value in
    let zero : digit_value c.in-Some.byte.now ≡ 0 = omega (arith, c.if-digit-eq0.true, value.1, digit) in
    let tens : c.loop-byte.digits * 10 ^ (c.loop-byte.zeros + 1) ≡ c.loop-byte.digits * 10 ^ c.loop-byte.zeros * 10 + digit_value c.in-Some.byte.now =
    omega (arith, zero, ap (λ m. c.loop-byte.digits * m) (ten_more c.loop-byte.zeros), mul_assoc c.loop-byte.digits (10 ^ c.loop-byte.zeros) 10) in
    record {
      bound = l.bound;
      full = inr c.if-digits-lt-LEAST.false;
      room = omega (arith, l.room, c.in-Some.ensures.cases.1);
      same = ap (λ n. digits_value_after 10 n c.in-Some.tail.now) tens ∙ ap (digits_value_after 10 (c.loop-byte.digits * 10 ^ c.loop-byte.zeros)) (sym rest) ∙ l.same;
      more = λ all. l.more (subst (AllDigits 10) (sym rest) (omega (arith, zero), all));
      left = λ all. (subst (AllDigits 10) rest (l.left all)).1;
    }
