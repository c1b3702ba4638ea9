-- The datum: what a value tells a serializer, by serde's data model without floats. Each constructor stands for one call
-- of `Serializer`. A program makes no such tree; it makes the calls.
use Rattle.std.specs.Prelude.{ℕ, ℤ, Bool, List, [], ◌∷◌}
pub use Rattle.dynamo_value.specs.Integer.{IntegerKind, i8, i16, i32, i64, i128, u8, u16, u32, u64, u128}

-- a variant, by its enum's name, its place in the enum and its own name
pub record Variant : Type 0 where
  pub enum : List ℕ
  pub index : ℕ
  pub name : List ℕ

abbrev pub variant : List ℕ → ℕ → List ℕ → Variant
variant enum index name = record { enum = enum; index = index; name = name }

-- A text is the list of its UTF-8 bytes, a character its code.
mutual
  pub data Datum : Type 0 where
    boolean : Bool → Datum
    integer : IntegerKind → ℤ → Datum
    char : ℕ → Datum
    string bytes : List ℕ → Datum
    none : Datum
    some : Datum → Datum
    unit : Datum
    unit_struct : List ℕ → Datum
    unit_variant : Variant → Datum
    newtype_struct : List ℕ → Datum → Datum
    newtype_variant : Variant → Datum → Datum
    seq tuple : Elements → Datum
    tuple_struct : List ℕ → Elements → Datum
    tuple_variant : Variant → Elements → Datum
    map : Pairs → Datum
    struct : List ℕ → Fields → Datum
    struct_variant : Variant → Fields → Datum
    -- an implementation's own refusal, with its text
    refuse : List ℕ → Datum

  pub data Elements : Type 0 where
    no_elements : Elements
    element : Datum → Elements → Elements

  pub data Pairs : Type 0 where
    no_pairs : Pairs
    pair : Datum → Datum → Pairs → Pairs

  pub data Fields : Type 0 where
    no_fields : Fields
    field : List ℕ → Datum → Fields → Fields

abbrev pub elements_of : List Datum → Elements
elements_of [] = no_elements
elements_of (d ∷ ds) = element d (elements_of ds)

abbrev pub pairs_of : List (Datum × Datum) → Pairs
pairs_of [] = no_pairs
pairs_of (e ∷ es) = pair e.0 e.1 (pairs_of es)
