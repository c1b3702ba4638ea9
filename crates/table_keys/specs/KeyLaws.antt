-- The order of keys is total: values compare by their kind, then by their bytes, then by their number.
use Rattle.std.proofs.Common.{◌≡◌, ℕ, List, [], ℤ, pos, Ordering, Less, Equal, Greater, string_bytes, refl, subst}
use Rattle.std.proofs.lemmas.Cmp.{on_total, then_total, nat_cmp_total, int_cmp_total, nat_list_cmp_total}
use Rattle.std.specs.Cmp.{IsTotalOrder}
use Rattle.std.specs.Cmp.Lexicographic.{options_total}
use Rattle.std.specs.Ordering.{nat_cmp, int_cmp, ordering_then, then_cmp, on}
use Rattle.dynamo_value.specs.View.{text_cmp}
use Rattle.table_keys.specs.KeyOrder.{kind_rank, value_cmp, key_cmp}
use Rattle.table_keys.specs.declared.key.KeyValue.{KeyValue}

abbrev bytes_of : KeyValue → List ℕ
bytes_of (KeyValue.S text) = string_bytes text
bytes_of (KeyValue.N number) = []
bytes_of (KeyValue.B bytes) = bytes.items

abbrev number_of : KeyValue → ℤ
number_of (KeyValue.N number) = number
number_of _ = pos 0

abbrev parts_cmp : KeyValue → KeyValue → Ordering
parts_cmp = then_cmp (on kind_rank nat_cmp) (then_cmp (on bytes_of text_cmp) (on number_of int_cmp))

then_equal : (o : Ordering) → ordering_then o Equal ≡ o
then_equal Less = refl
then_equal Equal = refl
then_equal Greater = refl

by_parts : (v w : KeyValue) → parts_cmp v w ≡ value_cmp v w
by_parts (KeyValue.S text) (KeyValue.S other) = then_equal (text_cmp (string_bytes text) (string_bytes other))
by_parts (KeyValue.S text) (KeyValue.N other) = refl
by_parts (KeyValue.S text) (KeyValue.B other) = refl
by_parts (KeyValue.N number) (KeyValue.S other) = refl
by_parts (KeyValue.N number) (KeyValue.N other) = refl
by_parts (KeyValue.N number) (KeyValue.B other) = refl
by_parts (KeyValue.B bytes) (KeyValue.S other) = refl
by_parts (KeyValue.B bytes) (KeyValue.N other) = refl
by_parts (KeyValue.B bytes) (KeyValue.B other) = then_equal (text_cmp bytes.items other.items)

pub value_total : IsTotalOrder value_cmp
value_total =
    subst IsTotalOrder (λ i v w. by_parts v w i)
    (then_total (on_total kind_rank nat_cmp_total) (then_total (on_total bytes_of nat_list_cmp_total) (on_total number_of int_cmp_total)))

pub key_total : IsTotalOrder key_cmp
key_total = then_total (on_total (λ k. k.partition) value_total) (on_total (λ k. k.sort) (options_total value_total))
