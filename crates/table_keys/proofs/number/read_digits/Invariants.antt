use Rattle.std.proofs.Common.{◌≡◌, ◌⊎◌, ◌+◌, ◌*◌, ◌^◌, ◌<◌, ◌≤◌, length}
use Rattle.std.specs.Str.Parse.{AllDigits, digits_value_after}
use Rattle.table_keys.proofs.number.read_digits.Given as goal

-- what is read and what is left are all
abbrev pub invariant-loop-byte : goal.invariant-loop-byte
invariant-loop-byte l = record {
  bound : l.digits < 10 ^ 38;
  full : (l.zeros ≡ 0) ⊎ (10 ^ 37 ≤ l.digits);
  room : l.zeros + length l.rest ≤ l.fn.zeros + length l.text;
  same : digits_value_after 10 (l.digits * 10 ^ l.zeros) l.rest ≡ digits_value_after 10 (l.fn.digits * 10 ^ l.fn.zeros) l.text;
  more : AllDigits 10 l.rest → AllDigits 10 l.text;
  left : AllDigits 10 l.text → AllDigits 10 l.rest;
}

abbrev pub decreases-loop-byte : goal.decreases-loop-byte
decreases-loop-byte l = length l.rest
