-- The bytes of keys come in the order of the keys.
use Rattle.std.proofs.Common.{Equal, ◌≡◌, ℕ, List, Option, Some, sym, ap, ◌∙◌, arith}
use Rattle.std.proofs.lemmas.Map.Text.{is_eq-slice_cmp}
use Rattle.std.proofs.lemmas.Slice.Eq.{bytes_eq-Decides}
use Rattle.std.specs.Option.{option_cmp}
use Rattle.std.specs.Ordering.{is_eq, ordering_then}
use Rattle.table_keys.proofs.NumberBytesInOrder.{in_order}
use Rattle.dynamo_value.specs.View.{text_cmp}
use Rattle.table_keys.specs.KeyOrder.{key_cmp, value_cmp}
use Rattle.table_keys.specs.declared.key.Key.{Key}
use Rattle.table_keys.specs.declared.key.KeyValue.{KeyValue}
use Rattle.table_keys.specs.KeyBytes.{IsKeyBytes, IsSortBytes, IsValueBytes}
use Rattle.table_keys.specs.declared.bytes.KeyBytes.{KeyBytes}

pub values : (a b : KeyValue) (x y : List ℕ) → IsValueBytes a x → IsValueBytes b y
    → text_cmp x y ≡ value_cmp a b
values (KeyValue.N m) (KeyValue.N n) x y h g = rw (h.2, g.2) (in_order m n h.0 g.0 h.1 g.1)
values a b x y h g = grind arith

pub sorts : (a b : Option KeyValue) (x y : List ℕ) → IsSortBytes a x → IsSortBytes b y
    → text_cmp x y ≡ option_cmp value_cmp a b
sorts (Some v) (Some w) x y h g = values v w x y h g
sorts a b x y h g = grind arith

pub keys : (a b : Key) (x y : KeyBytes) → IsKeyBytes a x → IsKeyBytes b y
    → ordering_then (text_cmp x.partition.items y.partition.items)
    (text_cmp x.sort.items y.sort.items) ≡ key_cmp a b
keys a b x y h g =
    rw (values a.partition b.partition _ _ h.0 g.0, sorts a.sort b.sort _ _ h.1 g.1)

pub same : (a b : KeyValue) (x y : List ℕ) → IsValueBytes a x → IsValueBytes b y
    → value_cmp a b ≡ Equal → x ≡ y
same a b x y h g equal =
    (bytes_eq-Decides x y).0 (sym (is_eq-slice_cmp x y) ∙ ap is_eq (values a b x y h g ∙ equal))
