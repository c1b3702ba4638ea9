-- A key that is equal to one that was read from an item is read from it too.
use Rattle.std.proofs.Common.{◌≡◌, ℕ, List, [], ◌∷◌, Option, Some, None, Result, Ok, Err, MatchOption, MatchResult}
use Rattle.std.proofs.Common.{Ordering, Less, Equal, Greater, refl, sym, ap, ◌∙◌, string_bytes, subst}
use Rattle.std.proofs.lemmas.Map.Lookups.{exact_bytes, exact_signed}
use Rattle.std.specs.List.{All}
use Rattle.std.specs.Option.{IfSome, option_cmp}
use Rattle.std.specs.Ordering.{ordering_then}
use Rattle.dynamo_value.specs.Av.{Av}
use Rattle.dynamo_value.specs.declared.item.Item.{Item}
use Rattle.table_keys.specs.Neighbours.{IsKeptNumber}
use Rattle.table_keys.specs.Numbers.{IsNumber}
use Rattle.table_keys.specs.Held.{IsByte, IsHeld, IsHeldKey}
use Rattle.table_keys.specs.KeyOf.{Answers, HasNumber, IsBytes, IsText, Joins, Reads, ReadsAs, ReadsKey, ReadsSort}
use Rattle.table_keys.specs.KeyOf.{attribute, content}
use Rattle.table_keys.specs.KeyOrder.{key_cmp, value_cmp}
use Rattle.table_keys.specs.declared.error.TableError.{TableError}
use Rattle.table_keys.specs.declared.key.Key.{Key}
use Rattle.table_keys.specs.declared.key.KeyKind.{KeyKind}
use Rattle.table_keys.specs.declared.key.KeyValue.{KeyValue}
use Rattle.table_keys.specs.declared.schema.KeyAttribute.{KeyAttribute}
use Rattle.table_keys.specs.declared.schema.KeySchema.{KeySchema}

-- ---- equal values

text_too : (bytes : List ℕ) (v w : KeyValue) → value_cmp w v ≡ Equal → IsText bytes v → IsText bytes w
text_too bytes (KeyValue.S s) (KeyValue.S t) e h = exact_bytes (string_bytes t) (string_bytes s) e ∙ h
text_too bytes (KeyValue.S s) (KeyValue.N n) e h = cc
text_too bytes (KeyValue.S s) (KeyValue.B b) e h = cc
text_too bytes (KeyValue.N n) w e h = absurd h
text_too bytes (KeyValue.B b) w e h = absurd h

number_too : (text : List ℕ) (v w : KeyValue) → value_cmp w v ≡ Equal → HasNumber text v → HasNumber text w
number_too text (KeyValue.N n) (KeyValue.N m) e h = subst (IsNumber text) (sym (exact_signed m n e)) h
number_too text (KeyValue.N n) (KeyValue.S s) e h = cc
number_too text (KeyValue.N n) (KeyValue.B b) e h = cc
number_too text (KeyValue.S s) w e h = absurd h
number_too text (KeyValue.B b) w e h = absurd h

bytes_too : (bytes : List ℕ) (v w : KeyValue) → value_cmp w v ≡ Equal → IsBytes bytes v → IsBytes bytes w
bytes_too bytes (KeyValue.B b) (KeyValue.B c) e h = exact_bytes c.items b.items e ∙ h
bytes_too bytes (KeyValue.B b) (KeyValue.S s) e h = cc
bytes_too bytes (KeyValue.B b) (KeyValue.N n) e h = cc
bytes_too bytes (KeyValue.S s) w e h = absurd h
bytes_too bytes (KeyValue.N n) w e h = absurd h

held_too : (v w : KeyValue) → value_cmp w v ≡ Equal → IsHeld v → IsHeld w
held_too (KeyValue.S s) (KeyValue.S t) e h = h
held_too (KeyValue.S s) (KeyValue.N n) e h = cc
held_too (KeyValue.S s) (KeyValue.B b) e h = cc
held_too (KeyValue.N n) (KeyValue.N m) e h = subst IsKeptNumber (sym (exact_signed m n e)) h
held_too (KeyValue.N n) (KeyValue.S s) e h = cc
held_too (KeyValue.N n) (KeyValue.B b) e h = cc
held_too (KeyValue.B b) (KeyValue.B c) e h = subst (All IsByte) (sym (exact_bytes c.items b.items e)) h
held_too (KeyValue.B b) (KeyValue.S s) e h = cc
held_too (KeyValue.B b) (KeyValue.N n) e h = cc

-- ---- read from an item

reads_as_too : (kind : KeyKind) (bytes : List ℕ) (v w : KeyValue) → value_cmp w v ≡ Equal
    → ReadsAs kind bytes (Ok v) → ReadsAs kind bytes (Ok w)
reads_as_too KeyKind.S [] v w e h = cc
reads_as_too KeyKind.S (b ∷ bs) v w e h = text_too (b ∷ bs) v w e h
reads_as_too KeyKind.N bytes v w e h = number_too bytes v w e h
reads_as_too KeyKind.B [] v w e h = cc
reads_as_too KeyKind.B (b ∷ bs) v w e h = bytes_too (b ∷ bs) v w e h

by_content : (kind : KeyKind) (found : Option (List ℕ)) (v w : KeyValue) → value_cmp w v ≡ Equal
    → MatchOption found (Ok v ≡ Err TableError.WrongKind) (λ bytes. ReadsAs kind bytes (Ok v))
    → MatchOption found (Ok w ≡ Err TableError.WrongKind) (λ bytes. ReadsAs kind bytes (Ok w))
by_content kind None v w e h = cc
by_content kind (Some bytes) v w e h = reads_as_too kind bytes v w e h

answers_too : (kind : KeyKind) (value : Option Av) (v w : KeyValue) → value_cmp w v ≡ Equal
    → Answers kind value (Ok v) → Answers kind value (Ok w)
answers_too kind None v w e h = cc
answers_too kind (Some a) v w e h = by_content kind (content kind a) v w e h

reads_too : (key : KeyAttribute) (item : Item) (v w : KeyValue) → value_cmp w v ≡ Equal
    → Reads key item (Ok v) → Reads key item (Ok w)
reads_too key item v w e h = answers_too key.kind (attribute item (string_bytes key.name)) v w e h

-- ---- keys

first_equal : (o p : Ordering) → ordering_then o p ≡ Equal → o ≡ Equal
first_equal Less p e = e
first_equal Equal p e = refl
first_equal Greater p e = e

second_equal : (o p : Ordering) → ordering_then o p ≡ Equal → p ≡ Equal
second_equal Less p e = cc
second_equal Equal p e = e
second_equal Greater p e = cc

none_equal : (sort : Option KeyValue) → option_cmp value_cmp sort None ≡ Equal → sort ≡ None
none_equal None e = refl
none_equal (Some v) e = cc

-- the key that was read, of a result
abbrev the_key : Result Key TableError → Key → Key
the_key (Ok key) other = key
the_key (Err e) other = other

key_is : (key other : Key) → ◌≡◌ {A = Result Key TableError} (Ok key) (Ok other) → key ≡ other
key_is key other e = ap (λ r. the_key r key) e

module _ (item : Item) (key other : Key) (equal : key_cmp other key ≡ Equal) where
  -- the parts of equal keys are equal
  parts : (p : KeyValue) (s : Option KeyValue) → key ≡ record { partition = p; sort = s }
      → (value_cmp other.partition p ≡ Equal) × (option_cmp value_cmp other.sort s ≡ Equal)
  parts p s is =
      let e : ordering_then (value_cmp other.partition p) (option_cmp value_cmp other.sort s) ≡ Equal =
      ap (key_cmp other) (sym is) ∙ equal in (
        first_equal (value_cmp other.partition p) (option_cmp value_cmp other.sort s) e,
        second_equal (value_cmp other.partition p) (option_cmp value_cmp other.sort s) e,
      )

  -- what is read of the other key, where its sort value is this
  with_sort : (s : Option KeyValue) → other.sort ≡ s
      → ◌≡◌ {A = Result Key TableError} (Ok other) (Ok (record { partition = other.partition; sort = s }))
  with_sort s is = ap (λ (t : Option KeyValue). Ok (record { partition = other.partition; sort = t })) is

  by_value : (key_sort : KeyAttribute) (v : KeyValue) (s : Option KeyValue) → other.sort ≡ s
      → Reads key_sort item (Ok v) → option_cmp value_cmp s (Some v) ≡ Equal
      → ReadsSort (Some key_sort) item other.partition (Ok other)
  by_value key_sort v None is reads e = cc
  by_value key_sort v (Some w) is reads e = (Ok w, reads_too key_sort item v w e reads, with_sort (Some w) is)

  by_sort : (key_sort : KeyAttribute) (p : KeyValue) (x : Result KeyValue TableError)
      → Reads key_sort item x → Joins p x (Ok key)
      → (value_cmp other.partition p ≡ Equal) × ReadsSort (Some key_sort) item other.partition (Ok other)
  by_sort key_sort p (Ok v) reads joins =
      let both = parts p (Some v) (key_is key _ joins) in
      (both.0, by_value key_sort v other.sort refl reads both.1)
  by_sort key_sort p (Err r) reads joins = cc

  sort_too : (sort : Option KeyAttribute) (p : KeyValue) → ReadsSort sort item p (Ok key)
      → (value_cmp other.partition p ≡ Equal) × ReadsSort sort item other.partition (Ok other)
  sort_too None p h =
      let both = parts p None (key_is key _ h) in
      (both.0, with_sort None (none_equal other.sort both.1))
  sort_too (Some key_sort) p h = by_sort key_sort p h.0 h.1 h.2

  by_partition : (schema : KeySchema) (x : Result KeyValue TableError) → Reads schema.partition item x
      → MatchResult x (λ value. ReadsSort schema.sort item value (Ok key)) (λ e. Ok key ≡ Err e)
      → ReadsKey schema item (Ok other)
  by_partition schema (Ok p) reads h =
      let both = sort_too schema.sort p h in
      (Ok other.partition, reads_too schema.partition item p other.partition both.0 reads, both.1)
  by_partition schema (Err e) reads h = cc

pub equal_too : (schema : KeySchema) (item : Item) (key other : Key) → ReadsKey schema item (Ok key)
    → key_cmp other key ≡ Equal → ReadsKey schema item (Ok other)
equal_too schema item key other h e = by_partition item key other e schema h.0 h.1 h.2

-- ---- held

sort_held_too : (s t : Option KeyValue) → option_cmp value_cmp t s ≡ Equal → IfSome s IsHeld → IfSome t IsHeld
sort_held_too None None e h = tt
sort_held_too None (Some w) e h = cc
sort_held_too (Some v) None e h = cc
sort_held_too (Some v) (Some w) e h = held_too v w e h

pub held_key_too : (key other : Key) → IsHeldKey key → key_cmp other key ≡ Equal → IsHeldKey other
held_key_too key other h e =
    let first = value_cmp other.partition key.partition in
    let second = option_cmp value_cmp other.sort key.sort in (
      held_too key.partition other.partition (first_equal first second e) h.0,
      sort_held_too key.sort other.sort (second_equal first second e) h.1,
    )
