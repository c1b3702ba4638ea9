-- Which value comes next to another.
use Rattle.std.proofs.Common.{◌≡◌, ℕ, ℤ, true, List, [], ◌∷◌, ◌++◌, Vec, Global, arith}
use Rattle.std.proofs.lemmas.Bool.Decides.{nat_tests}
use Rattle.std.proofs.lemmas.Cmp.{alike_right, int_cmp_total}
use Rattle.std.specs.Ordering.{is_le, is_lt}
use Rattle.table_keys.specs.Neighbours.{IsGreatest, IsNext}
use Rattle.dynamo_value.specs.View.{text_cmp}
use Rattle.table_keys.specs.declared.key.KeyValue.{KeyValue}
use Rattle.table_keys.specs.Ranges.{IsNextValue}

pub empty_first : (xs : List ℕ) → is_le (text_cmp [] xs) ≡ true
empty_first xs = grind arith

-- no list lies between a list and the same with a zero after it
pub zero_added : (xs ys : List ℕ) → is_lt (text_cmp xs ys) ≡ is_le (text_cmp (xs ++ 0 ∷ []) ys)
zero_added (x ∷ xs) (y ∷ ys) = let rest = zero_added xs ys in grind arith
zero_added xs ys = grind (arith, nat_tests, empty_first)

pub next_number : (z next : ℤ) → IsNext z next → IsNextValue (KeyValue.N z) (KeyValue.N next)
next_number z next is (KeyValue.N w) held = grind (
  arith,
  is.is_above,
  is.is_least w held,
  int_cmp_total.trans z next w,
  alike_right int_cmp_total next w z,
)
next_number z next is other held = grind arith

-- after the greatest number come the byte strings
pub next_kind : (z : ℤ) (next : Vec ℕ Global) → IsGreatest z → next.items ≡ []
    → IsNextValue (KeyValue.N z) (KeyValue.B next)
next_kind z next is empty (KeyValue.N w) held = grind (arith, is w held, int_cmp_total.antisymm z w)
next_kind z next is empty other held = grind (arith, empty_first)
