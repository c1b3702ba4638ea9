-- One item has one key, and one text says one number.
use Rattle.std.proofs.Common.{◌≡◌, ℕ, ◌+◌, ◌^◌, ℤ, List, [], ◌∷◌, length, Option, Some, None, Result, Ok, Err, MatchOption, MatchResult, Equal, refl, sym, ap, ◌∙◌, string_bytes}
use Rattle.std.proofs.Math.Nat.{eq_of_mul-eq-mul_right}
use Rattle.std.proofs.lemmas.Cmp.{tied_itself, nat_list_cmp_total, int_cmp_total}
use Rattle.std.specs.Option.{option_cmp}
use Rattle.std.specs.Ordering.{int_cmp, ordering_then}
use Rattle.std.specs.Str.Parse.{starts_with_minus, without_leading_sign}
use borrow.Author.Differences.{down}
use Rattle.dynamo_value.specs.Av.{Av}
use Rattle.dynamo_value.specs.View.{text_cmp}
use Rattle.dynamo_value.specs.declared.item.Item.{Item}
use Rattle.table_keys.specs.KeyOf.{Answers, HasNumber, IsBytes, IsText, NotEmpty, Reads, ReadsAs, ReadsKey, ReadsSort, attribute, content}
use Rattle.table_keys.specs.KeyOrder.{key_cmp, value_cmp}
use Rattle.table_keys.specs.Numbers.{IsNumber, IsDecimal, fraction, signed, whole}
use Rattle.table_keys.specs.declared.error.TableError.{TableError}
use Rattle.table_keys.specs.declared.key.Key.{Key}
use Rattle.table_keys.specs.declared.key.KeyKind.{KeyKind}
use Rattle.table_keys.specs.declared.key.KeyValue.{KeyValue}
use Rattle.table_keys.specs.declared.schema.KeyAttribute.{KeyAttribute}
use Rattle.table_keys.specs.declared.schema.KeySchema.{KeySchema}
use Rattle.table_keys.proofs.Decimals.{from_text}
use Rattle.table_keys.proofs.Sizes.{ten_pos}

decimal_once : (negative : _) (before behind : List ℕ) (exponent y z : ℤ) → IsDecimal negative before behind exponent y → IsDecimal negative before behind exponent z → y ≡ z
decimal_once negative before behind exponent y z m n =
    let tens = length behind + down exponent in
    let size : m.size ≡ n.size = eq_of_mul-eq-mul_right (10 ^ tens) (ten_pos tens) m.size n.size (m.is_size ∙ sym n.is_size) in
    m.is_signed ∙ ap (signed negative) size ∙ sym n.is_signed

pub number_once : (text : List ℕ) (y z : ℤ) → IsNumber text y → IsNumber text z → y ≡ z
number_once text y z m n =
    decimal_once (starts_with_minus (whole text)) (without_leading_sign (whole text)) (fraction text) m.exponent y z m.is_decimal
    (from_text text _ _ _ m.exponent m.is_exponent refl refl refl z n)

-- ---- one value

text_once : (text : List ℕ) (v w : KeyValue) → NotEmpty IsText text (Ok v) → NotEmpty IsText text (Ok w) → value_cmp v w ≡ Equal
text_once [] v w h k = cc
text_once (b ∷ bs) (KeyValue.S s) (KeyValue.S t) h k = ap (λ u. text_cmp u (string_bytes t)) h ∙ ap (text_cmp (b ∷ bs)) k ∙ tied_itself nat_list_cmp_total (b ∷ bs)
text_once (b ∷ bs) (KeyValue.S s) (KeyValue.N n) h k = absurd k
text_once (b ∷ bs) (KeyValue.S s) (KeyValue.B v) h k = absurd k
text_once (b ∷ bs) (KeyValue.N n) w h k = absurd h
text_once (b ∷ bs) (KeyValue.B v) w h k = absurd h

bytes_once : (bytes : List ℕ) (v w : KeyValue) → NotEmpty IsBytes bytes (Ok v) → NotEmpty IsBytes bytes (Ok w) → value_cmp v w ≡ Equal
bytes_once [] v w h k = cc
bytes_once (b ∷ bs) (KeyValue.B s) (KeyValue.B t) h k = ap (λ u. text_cmp u t.items) h ∙ ap (text_cmp (b ∷ bs)) k ∙ tied_itself nat_list_cmp_total (b ∷ bs)
bytes_once (b ∷ bs) (KeyValue.B s) (KeyValue.N n) h k = absurd k
bytes_once (b ∷ bs) (KeyValue.B s) (KeyValue.S t) h k = absurd k
bytes_once (b ∷ bs) (KeyValue.N n) w h k = absurd h
bytes_once (b ∷ bs) (KeyValue.S s) w h k = absurd h

numbers_once : (text : List ℕ) (v w : KeyValue) → HasNumber text v → HasNumber text w → value_cmp v w ≡ Equal
numbers_once text (KeyValue.N m) (KeyValue.N n) h k = ap (λ z. int_cmp z n) (number_once text m n h k) ∙ tied_itself int_cmp_total n
numbers_once text (KeyValue.N m) (KeyValue.S t) h k = absurd k
numbers_once text (KeyValue.N m) (KeyValue.B t) h k = absurd k
numbers_once text (KeyValue.S s) w h k = absurd h
numbers_once text (KeyValue.B s) w h k = absurd h

reads_once : (kind : KeyKind) (bytes : List ℕ) (v w : KeyValue) → ReadsAs kind bytes (Ok v) → ReadsAs kind bytes (Ok w) → value_cmp v w ≡ Equal
reads_once KeyKind.S bytes v w h k = text_once bytes v w h k
reads_once KeyKind.N bytes v w h k = numbers_once bytes v w h k
reads_once KeyKind.B bytes v w h k = bytes_once bytes v w h k

by_content : (kind : KeyKind) (found : Option (List ℕ)) (v w : KeyValue)
    → MatchOption found (Ok v ≡ Err TableError.WrongKind) (λ bytes. ReadsAs kind bytes (Ok v)) → MatchOption found (Ok w ≡ Err TableError.WrongKind) (λ bytes. ReadsAs kind bytes (Ok w))
    → value_cmp v w ≡ Equal
by_content kind None v w h k = cc
by_content kind (Some bytes) v w h k = reads_once kind bytes v w h k

answers_once : (kind : KeyKind) (value : Option Av) (v w : KeyValue) → Answers kind value (Ok v) → Answers kind value (Ok w) → value_cmp v w ≡ Equal
answers_once kind None v w h k = cc
answers_once kind (Some a) v w h k = by_content kind (content kind a) v w h k

-- ---- one key

both : (p q x y : _) (k l : Key) → k ≡ record { partition = p; sort = x } → l ≡ record { partition = q; sort = y } → value_cmp p q ≡ Equal → option_cmp value_cmp x y ≡ Equal → key_cmp k l ≡ Equal
both p q x y k l e f first second =
    ap (λ (m : Key). key_cmp m l) e ∙ ap (key_cmp (record { partition = p; sort = x })) f ∙ ap (λ o. ordering_then o (option_cmp value_cmp x y)) first ∙ second

-- a key that was read
abbrev read : Key → Result Key TableError
read k = Ok k

by_sort : (key : KeyAttribute) (item : Item) (p q : KeyValue) (k l : Key) (x y : Result KeyValue TableError) → value_cmp p q ≡ Equal → Reads key item x → Reads key item y
    → MatchResult x (λ value. read k ≡ read (record { partition = p; sort = Some value })) (λ e. read k ≡ Err e)
    → MatchResult y (λ value. read l ≡ read (record { partition = q; sort = Some value })) (λ e. read l ≡ Err e) → key_cmp k l ≡ Equal
by_sort key item p q k l (Ok v) (Ok w) e a b h g = both p q (Some v) (Some w) k l (cc) (cc) e (answers_once key.kind (attribute item (string_bytes key.name)) v w a b)
by_sort key item p q k l (Ok v) (Err r) e a b h g = cc
by_sort key item p q k l (Err r) y e a b h g = cc

sort_once : (key : Option KeyAttribute) (item : Item) (p q : KeyValue) (k l : Key) → value_cmp p q ≡ Equal → ReadsSort key item p (Ok k) → ReadsSort key item q (Ok l) → key_cmp k l ≡ Equal
sort_once None item p q k l e h g = both p q None None k l (cc) (cc) e refl
sort_once (Some key) item p q k l e h g = by_sort key item p q k l h.0 g.0 e h.1 g.1 h.2 g.2

by_partition : (schema : KeySchema) (item : Item) (k l : Key) (x y : Result KeyValue TableError) → Reads schema.partition item x → Reads schema.partition item y
    → MatchResult x (λ value. ReadsSort schema.sort item value (read k)) (λ e. read k ≡ Err e) → MatchResult y (λ value. ReadsSort schema.sort item value (read l)) (λ e. read l ≡ Err e)
    → key_cmp k l ≡ Equal
by_partition schema item k l (Ok v) (Ok w) a b h g =
    sort_once schema.sort item v w k l (answers_once schema.partition.kind (attribute item (string_bytes schema.partition.name)) v w a b) h g
by_partition schema item k l (Ok v) (Err r) a b h g = cc
by_partition schema item k l (Err r) y a b h g = cc

pub key_once : (schema : KeySchema) (item : Item) (k l : Key) → ReadsKey schema item (Ok k) → ReadsKey schema item (Ok l) → key_cmp k l ≡ Equal
key_once schema item k l h g = by_partition schema item k l h.0 g.0 h.1 g.1 h.2 g.2
