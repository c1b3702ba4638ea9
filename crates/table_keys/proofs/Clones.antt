-- Copies of the values of a key, which compare equal.
use Rattle.std.proofs.Common.{◌≡◌, ℕ, ℤ, Equal, Vec, Global, String, string_bytes, ap, ◌∙◌}
use Rattle.std.proofs.lemmas.Cmp.{tied_itself, int_cmp_total, nat_list_cmp_total}
use Rattle.std.specs.Ordering.{int_cmp}
use Rattle.dynamo_value.specs.View.{text_cmp}
use Rattle.table_keys.specs.KeyOrder.{value_cmp}
use Rattle.table_keys.specs.declared.key.KeyValue.{KeyValue}

pub same_text : (copy text : String Global) → string_bytes copy ≡ string_bytes text → value_cmp (KeyValue.S copy) (KeyValue.S text) ≡ Equal
same_text copy text e = ap (λ bytes. text_cmp bytes (string_bytes text)) e ∙ tied_itself nat_list_cmp_total (string_bytes text)

pub same_number : (copy number : ℤ) → copy ≡ number → value_cmp (KeyValue.N copy) (KeyValue.N number) ≡ Equal
same_number copy number e = ap (λ n. int_cmp n number) e ∙ tied_itself int_cmp_total number

pub same_bytes : (copy bytes : Vec ℕ Global) → copy.items ≡ bytes.items → value_cmp (KeyValue.B copy) (KeyValue.B bytes) ≡ Equal
same_bytes copy bytes e = ap (λ items. text_cmp items bytes.items) e ∙ tied_itself nat_list_cmp_total bytes.items
