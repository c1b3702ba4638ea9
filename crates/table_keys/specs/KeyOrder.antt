-- The order of keys, which is that of DynamoDB within a partition: by the partition key, and then by the sort key. Texts and
-- byte strings come by their bytes, numbers by value. A table's keys are of one kind; of several kinds texts come first, and
-- byte strings last.
use Rattle.std.specs.Prelude.{ℕ, List, codes, string_bytes}
use Rattle.std.specs.declared.cmp.Ordering.{Ordering}
use Rattle.std.specs.Ordering.{nat_cmp, int_cmp, ordering_then}
use Rattle.std.specs.Option.{option_cmp}
use Rattle.dynamo_value.specs.View.{text_cmp}
use Rattle.table_keys.specs.declared.key.Key.{Key}
use Rattle.table_keys.specs.declared.key.KeyKind.{KeyKind}
use Rattle.table_keys.specs.declared.key.KeyValue.{KeyValue}

-- the letters of the kinds
abbrev pub kind_name : KeyKind → List ℕ
kind_name KeyKind.S = codes "S"
kind_name KeyKind.N = codes "N"
kind_name KeyKind.B = codes "B"

abbrev pub kind_rank : KeyValue → ℕ
kind_rank (KeyValue.S text) = 0
kind_rank (KeyValue.N number) = 1
kind_rank (KeyValue.B bytes) = 2

abbrev pub value_cmp : KeyValue → KeyValue → Ordering
value_cmp (KeyValue.S text) (KeyValue.S other) = text_cmp (string_bytes text) (string_bytes other)
value_cmp (KeyValue.N number) (KeyValue.N other) = int_cmp number other
value_cmp (KeyValue.B bytes) (KeyValue.B other) = text_cmp bytes.items other.items
value_cmp value other = nat_cmp (kind_rank value) (kind_rank other)

abbrev pub key_cmp : Key → Key → Ordering
key_cmp key other = ordering_then (value_cmp key.partition other.partition) (option_cmp value_cmp key.sort other.sort)
