-- An integer type takes just the integer that is shown at its request.
use Rattle.std.proofs.Common.{◌≡◌, ◌⊎◌, ℕ, ℤ, List, Some, None, Result, Ok, Err, refl}
use Rattle.dynamo_value.specs.Av as av
use Rattle.dynamo_value.specs.Fault.{Fault, failed_to_parse_int, expected_num, out_of_memory}
use Rattle.dynamo_value.specs.Integer.{IntegerKind, i8, i16, i32, i64, i128, u8, u16, u32, u64, u128}
use Rattle.dynamo_de.specs.Answer as answer
use Rattle.dynamo_de.specs.Answer.{Answer, Gives, value_or}
use Rattle.dynamo_de.specs.Meets.{Meets}
use Rattle.dynamo_value.specs.IntegerTypes.{kind_of}
use Rattle.dynamo_de.specs.Number.{parse}
use Rattle.dynamo_de.specs.Reading.{read_integer}
use Rattle.dynamo_de.specs.Shown.{Shown, shown, num_shown, integer_shown, or_fault}
use Rattle.dynamo_de.specs.Showing as showing
use Rattle.dynamo_de.specs.Showing.{Showing}
use Rattle.dynamo_de.specs.Source.{Source, attribute, key_text, number_text, plain_text, byte_string}
use Rattle.dynamo_value.specs.declared.integer.IntegerKind as declared
use Rattle.dynamo_value.specs.declared.integer.IntegerKind.TheVariants as types
use Rattle.dynamo_de.specs.declared.request.Request.{Request}
use Rattle.dynamo_de.specs.declared.request.Request.TheVariants as request

-- the request for an integer of a kind
abbrev type_of : IntegerKind → declared.IntegerKind
type_of i8 = types.I8
type_of i16 = types.I16
type_of i32 = types.I32
type_of i64 = types.I64
type_of i128 = types.I128
type_of u8 = types.U8
type_of u16 = types.U16
type_of u32 = types.U32
type_of u64 = types.U64
type_of u128 = types.U128

abbrev pub asking : IntegerKind → Request
asking k = request.Integer (type_of k)

its_kind : (k : IntegerKind) → kind_of (type_of k) ≡ k
its_kind i8 = refl
its_kind i16 = refl
its_kind i32 = refl
its_kind i64 = refl
its_kind i128 = refl
its_kind u8 = refl
its_kind u16 = refl
its_kind u32 = refl
its_kind u64 = refl
its_kind u128 = refl

-- an integer of the kind, and nothing else
abbrev pub take_own : Showing → IntegerKind → Answer ℤ
take_own (showing.integer i8 z) i8 = answer.value z
take_own (showing.integer i16 z) i16 = answer.value z
take_own (showing.integer i32 z) i32 = answer.value z
take_own (showing.integer i64 z) i64 = answer.value z
take_own (showing.integer i128 z) i128 = answer.value z
take_own (showing.integer u8 z) u8 = answer.value z
take_own (showing.integer u16 z) u16 = answer.value z
take_own (showing.integer u32 z) u32 = answer.value z
take_own (showing.integer u64 z) u64 = answer.value z
take_own (showing.integer u128 z) u128 = answer.value z
take_own _ _ = answer.refused

abbrev pub taken_at : IntegerKind → Shown → Answer ℤ
taken_at k (Ok s) = take_own s k
taken_at k (Err f) = answer.fault f

own : (k : IntegerKind) (z : ℤ) → answer.value z ≡ take_own (showing.integer k z) k
own i8 z = refl
own i16 z = refl
own i32 z = refl
own i64 z = refl
own i128 z = refl
own u8 z = refl
own u16 z = refl
own u32 z = refl
own u64 z = refl
own u128 z = refl

of_text : (k : IntegerKind) (t : List ℕ) (f : Fault) → value_or (parse k t) (answer.fault f) ≡ taken_at k (integer_shown k f t)
of_text k t f = elim (parse k t) as (λ o. value_or o (answer.fault f) ≡ taken_at k (or_fault k o f)) [
  | None ↦ refl
  | Some z ↦ own k z
]

from_num : (k : IntegerKind) (a : av.Av) → read_integer k (attribute a) ≡ taken_at k (num_shown k a)
from_num k (av.N t) = of_text k t (failed_to_parse_int t)
from_num k _ = refl

as_taken : (k : IntegerKind) (s : Source) → read_integer k s ≡ taken_at k (shown (asking k) s)
as_taken k (attribute a) = rw (its_kind k) (from_num k a)
as_taken k (key_text t) = rw (its_kind k) (of_text k t expected_num)
as_taken k (number_text t) = rw (its_kind k) (of_text k t (failed_to_parse_int t))
as_taken k (plain_text t) = refl
as_taken k (byte_string bytes) = refl

pub integer_read : {V E : Type 0} (number : V → ℤ) (k : IntegerKind) (fault : E → Fault) (s : Source) (r : Result V E)
    → Meets fault (Gives number (taken_at k (shown (asking k) s))) r → Meets fault (Gives number (read_integer k s)) r
integer_read number k fault s r h = rw (as_taken k s) h

pub integer_refused : {V : Type 0} (number : V → ℤ) (k : IntegerKind) (s : Source) (f : Fault)
    → (f ≡ out_of_memory) ⊎ Gives number (taken_at k (shown (asking k) s)) (Err f) → (f ≡ out_of_memory) ⊎ Gives number (read_integer k s) (Err f)
integer_refused number k s f h = rw (as_taken k s) h
