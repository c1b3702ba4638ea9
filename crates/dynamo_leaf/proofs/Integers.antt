-- What the request of an integer shows, by what was read of the text.
use Rattle.std.proofs.Common.{◌≡◌, ℤ, List, ℕ, Option, Some, None, Ok, Err, refl}
use Rattle.std.specs.Prelude.{option_map}
use Rattle.dynamo_value.specs.Fault.{Fault}
use Rattle.dynamo_value.specs.Integer.{IntegerKind}
use Rattle.dynamo_de.specs.Number.{parse}
use Rattle.dynamo_de.specs.Shown.{integer_shown, or_fault}
use Rattle.dynamo_de.specs.Showing as showing
use Rattle.dynamo_de.specs.Showing.{Showing}

-- the integer where there is one, the fault where there is none
is_shown : (k : IntegerKind) (z : Option ℤ) (f : Fault) (s : Showing) → Some s ≡ option_map (showing.integer k) z → or_fault k z f ≡ Ok s
is_shown k None f s h = cc
is_shown k (Some z) f s h = cc

is_refused : (k : IntegerKind) (z : Option ℤ) (f : Fault) → None ≡ option_map (showing.integer k) z → or_fault k z f ≡ Err f
is_refused k None f h = refl
is_refused k (Some z) f h = cc

pub integer_is : (k : IntegerKind) (t : List ℕ) (f : Fault) (s : Showing) → Some s ≡ option_map (showing.integer k) (parse k t) → integer_shown k f t ≡ Ok s
integer_is k t f s h = is_shown k (parse k t) f s h

pub integer_no : (k : IntegerKind) (t : List ℕ) (f : Fault) → None ≡ option_map (showing.integer k) (parse k t) → integer_shown k f t ≡ Err f
integer_no k t f h = is_refused k (parse k t) f h
