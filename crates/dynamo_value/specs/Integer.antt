-- The kinds of integers, signed and unsigned, by their bits.
pub data IntegerKind : Type 0 where
  i8 i16 i32 i64 i128 u8 u16 u32 u64 u128 : IntegerKind
