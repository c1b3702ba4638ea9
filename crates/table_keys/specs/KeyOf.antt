-- The key of an item, and why an item has none.
use Rattle.std.specs.Prelude.{◌≡◌, ◌≢◌, ◌⊎◌, ◌++◌, ℕ, ℤ, List, [], ◌∷◌, Option, Some, None, Result, Ok, Err, IfSome, MatchOption, MatchResult, option_map, string_bytes}
use Rattle.std.specs.HashMap.{get_by_text}
use Rattle.dynamo_value.specs.Av as av
use Rattle.dynamo_value.specs.Base64.{bytes_of_base64}
use Rattle.dynamo_value.specs.Av.{Av}
use Rattle.dynamo_value.specs.Item.{map_of}
use Rattle.dynamo_value.specs.View.{view}
use Rattle.dynamo_value.specs.declared.item.Item.{Item}
use Rattle.table_keys.specs.Numbers.{IsNumber}
use Rattle.table_keys.specs.KeyOrder.{kind_name}
use Rattle.table_keys.specs.declared.key.Key.{Key}
use Rattle.table_keys.specs.declared.key.KeyKind.{KeyKind}
use Rattle.table_keys.specs.declared.key.KeyValue.{KeyValue}
use Rattle.table_keys.specs.declared.schema.KeyAttribute.{KeyAttribute}
use Rattle.table_keys.specs.declared.error.TableError.{TableError}
use Rattle.table_keys.specs.declared.schema.KeySchema.{KeySchema}

-- the value of an item's attribute
abbrev pub attribute : Item → List ℕ → Option Av
attribute item name = option_map view (get_by_text (map_of item) name)

-- the key's value is this text, this number, these bytes
abbrev pub IsText : List ℕ → KeyValue → Type 0
IsText bytes (KeyValue.S text) = string_bytes text ≡ bytes
IsText bytes _ = ⊥

abbrev pub IsBytes : List ℕ → KeyValue → Type 0
IsBytes bytes (KeyValue.B held) = held.items ≡ bytes
IsBytes bytes _ = ⊥

abbrev pub HasNumber : List ℕ → KeyValue → Type 0
HasNumber text (KeyValue.N number) = IsNumber text number
HasNumber text _ = ⊥

-- the value, which may want memory, or the error of an empty one
abbrev pub NotEmpty : (List ℕ → KeyValue → Type 0) → List ℕ → Result KeyValue TableError → Type 0
NotEmpty Is [] r = r ≡ Err TableError.Empty
NotEmpty Is (b ∷ bs) r = MatchResult r (Is (b ∷ bs)) (λ e. e ≡ TableError.OutOfMemory)

-- the bytes of a value that is of the kind
abbrev pub content : KeyKind → Av → Option (List ℕ)
content KeyKind.S (av.S text) = Some text
content KeyKind.N (av.N text) = Some text
content KeyKind.B (av.B bytes) = Some bytes
content kind value = None

abbrev pub ReadsAs : KeyKind → List ℕ → Result KeyValue TableError → Type 0
ReadsAs KeyKind.S text r = NotEmpty IsText text r
ReadsAs KeyKind.N text r = MatchResult r (HasNumber text) (λ e. (e ≡ TableError.NotANumber) × ((z : ℤ) → ¬ (IsNumber text z)))
ReadsAs KeyKind.B bytes r = NotEmpty IsBytes bytes r

-- the value that a word says: that of its bytes, which are base64 text where the attribute is one of byte strings
abbrev pub Says : KeyKind → List ℕ → Result KeyValue TableError → Type 0
Says KeyKind.B word r = (r ≡ Err TableError.OutOfMemory) ⊎ MatchResult (bytes_of_base64 word) (λ bytes. ReadsAs KeyKind.B bytes r) (λ _. r ≡ Err TableError.NotBase64)
Says kind word r = ReadsAs kind word r

-- the word of an attribute: its name, a colon and the letter of its kind
abbrev pub word_of : KeyAttribute → List ℕ
word_of attribute = string_bytes attribute.name ++ (58 ∷ kind_name attribute.kind)

-- the attribute has a name
abbrev pub IsNamed : KeyAttribute → Type 0
IsNamed attribute = string_bytes attribute.name ≢ []

-- the word is that of no attribute with a name
abbrev pub IsNoWord : List ℕ → Type 0
IsNoWord word = (attribute : KeyAttribute) → IsNamed attribute → word ≢ word_of attribute

-- what the attribute of a key answers, by its kind and its value in the item
abbrev pub Answers : KeyKind → Option Av → Result KeyValue TableError → Type 0
Answers kind None r = r ≡ Err TableError.Missing
Answers kind (Some value) r = MatchOption (content kind value) (r ≡ Err TableError.WrongKind) (λ bytes. ReadsAs kind bytes r)

abbrev pub Reads : KeyAttribute → Item → Result KeyValue TableError → Type 0
Reads key item r = Answers key.kind (attribute item (string_bytes key.name)) r

-- the key of these values, the second of which may be an error
abbrev pub Joins : KeyValue → Result KeyValue TableError → Result Key TableError → Type 0
Joins partition sort r = MatchResult sort (λ value. r ≡ Ok (record { partition = partition; sort = Some value })) (λ e. r ≡ Err e)

-- the sort key after the partition key, where the table has a sort key
abbrev pub ReadsSort : Option KeyAttribute → Item → KeyValue → Result Key TableError → Type 0
ReadsSort None item partition r = r ≡ Ok (record { partition = partition; sort = None })
ReadsSort (Some key) item partition r =
    (sort : Result KeyValue TableError) × Reads key item sort × Joins partition sort r

-- the partition key, and then the sort key: the error is the first
abbrev pub ReadsKey : KeySchema → Item → Result Key TableError → Type 0
ReadsKey schema item r =
    (partition : Result KeyValue TableError) × Reads schema.partition item partition
    × MatchResult partition (λ value. ReadsSort schema.sort item value r) (λ e. r ≡ Err e)

-- the words of a table's keys
abbrev pub sort_words : Option KeyAttribute → List (List ℕ)
sort_words None = []
sort_words (Some sort) = word_of sort ∷ []

abbrev pub words_of : KeySchema → List (List ℕ)
words_of schema = word_of schema.partition ∷ sort_words schema.sort

-- the attributes of a table's keys have names
abbrev pub AreNamed : KeySchema → Type 0
AreNamed schema = IsNamed schema.partition × IfSome schema.sort IsNamed

-- the words are those of no table's keys
abbrev pub AreNoWords : List (List ℕ) → Type 0
AreNoWords words = (schema : KeySchema) → AreNamed schema → words ≢ words_of schema

-- the sort key that a word says, after the partition key
abbrev pub SaysSort : Option KeyAttribute → Option (List ℕ) → KeyValue → Result Key TableError → Type 0
SaysSort None None partition r = r ≡ Ok (record { partition = partition; sort = None })
SaysSort None (Some word) partition r = r ≡ Err TableError.NoSortKey
SaysSort (Some key) None partition r = r ≡ Err TableError.Missing
SaysSort (Some key) (Some word) partition r = (sort : Result KeyValue TableError) × Says key.kind word sort × Joins partition sort r

-- the key that words say: the error is the first
abbrev pub SaysKey : KeySchema → List ℕ → Option (List ℕ) → Result Key TableError → Type 0
SaysKey schema partition sort r =
    (value : Result KeyValue TableError) × Says schema.partition.kind partition value
    × MatchResult value (λ value. SaysSort schema.sort sort value r) (λ e. r ≡ Err e)
