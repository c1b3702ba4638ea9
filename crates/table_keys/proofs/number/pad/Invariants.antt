use Rattle.std.proofs.Common.{◌≡◌, ℕ, ◌*◌, ◌-◌, ◌^◌, ◌<◌, pos, ◌+ℤ◌}
use Rattle.table_keys.proofs.number.pad.Given as goal

abbrev pub invariant-loop-digits : goal.invariant-loop-digits
invariant-loop-digits l = record {
  positive : 0 < l.digits;
  bound : l.digits < 10 ^ 38;
  same : (n : ℕ) × (l.digits ≡ l.fn.digits * 10 ^ n) × (l.fn.power ≡ l.power +ℤ pos n);
}

abbrev pub decreases-loop-digits : goal.decreases-loop-digits
decreases-loop-digits l = 10 ^ 38 - l.digits
