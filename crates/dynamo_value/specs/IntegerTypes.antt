-- The integers of a program, by their types.
use Rattle.std.specs.Prelude.{ℤ, pos}
use Rattle.dynamo_value.specs.Integer as kinds
use Rattle.dynamo_value.specs.declared.integer.Integer.{Integer}
use Rattle.dynamo_value.specs.declared.integer.Integer.TheVariants as of_type
use Rattle.dynamo_value.specs.declared.integer.IntegerKind.{IntegerKind}
use Rattle.dynamo_value.specs.declared.integer.IntegerKind.TheVariants as types

-- the kind of a type's integers
abbrev pub kind_of : IntegerKind → kinds.IntegerKind
kind_of types.I8 = kinds.i8
kind_of types.I16 = kinds.i16
kind_of types.I32 = kinds.i32
kind_of types.I64 = kinds.i64
kind_of types.I128 = kinds.i128
kind_of types.U8 = kinds.u8
kind_of types.U16 = kinds.u16
kind_of types.U32 = kinds.u32
kind_of types.U64 = kinds.u64
kind_of types.U128 = kinds.u128

-- the type of an integer
abbrev pub type_of : Integer → IntegerKind
type_of (of_type.I8 _) = types.I8
type_of (of_type.I16 _) = types.I16
type_of (of_type.I32 _) = types.I32
type_of (of_type.I64 _) = types.I64
type_of (of_type.I128 _) = types.I128
type_of (of_type.U8 _) = types.U8
type_of (of_type.U16 _) = types.U16
type_of (of_type.U32 _) = types.U32
type_of (of_type.U64 _) = types.U64
type_of (of_type.U128 _) = types.U128

-- the number of an integer
abbrev pub number_of : Integer → ℤ
number_of (of_type.I8 z) = z
number_of (of_type.I16 z) = z
number_of (of_type.I32 z) = z
number_of (of_type.I64 z) = z
number_of (of_type.I128 z) = z
number_of (of_type.U8 n) = pos n
number_of (of_type.U16 n) = pos n
number_of (of_type.U32 n) = pos n
number_of (of_type.U64 n) = pos n
number_of (of_type.U128 n) = pos n
