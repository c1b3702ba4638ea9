-- What an attribute value and an item read from each source, at every depth, by DynamoDB JSON: an attribute value is a map of
-- one entry, whose key is a prefix and whose value is the content. Under N and S is a string, under BOOL and NULL a boolean,
-- under B a string of base64, under M a map of attribute values, under L a sequence of them, under SS and NS a sequence of
-- strings, under BS one of base64. An item is a map of attribute values.
use Rattle.std.specs.Prelude.{ℕ, List, [], ◌∷◌, ◌++◌, Ok, Err}
use Rattle.std.specs.FinMap.Entries.{put}
use Rattle.dynamo_value.specs.Av as av
use Rattle.dynamo_value.specs.Av.{Av, elements_of, members_of}
use Rattle.dynamo_value.specs.Base64.{bytes_of_base64}
use Rattle.dynamo_value.specs.Fault.{expected_map, expected_seq}
use Rattle.dynamo_value.specs.Prefix as prefix
use Rattle.dynamo_value.specs.Prefix.{Prefix}
use Rattle.dynamo_value.specs.Refusal.{Refusal, fault, any_message}
use Rattle.dynamo_value.specs.SingleKey.{no_key, several_keys, known}
use Rattle.dynamo_value.specs.View.{text_cmp}
use Rattle.dynamo_de.specs.Answer.{Answer}
use Rattle.dynamo_de.specs.Promises.{Reading, refuse, promised}
use Rattle.dynamo_value.specs.Steps.{◌>>=◌}
use Rattle.dynamo_de.specs.Reading as reading
use Rattle.dynamo_de.specs.Reading.{read_string, read_bool}
use Rattle.dynamo_de.specs.Source.{Source, attribute, number_text, plain_text, byte_string, Entry}

-- ---- what holds no attribute values

abbrev pub read_text : Source → Reading (List ℕ)
read_text s = promised (read_string s)

abbrev pub read_blob : Source → Reading (List ℕ)
read_blob s = read_text s >>= λ text. promised (bytes_of_base64 text)

-- each in order
abbrev pub read_each : {A B : Type 0} → (A → Reading B) → List A → Reading (List B)
read_each f [] = Ok []
read_each f (x ∷ xs) = do
  y ← f x
  ys ← read_each f xs
  Ok (y ∷ ys)

abbrev pub read_texts : Source → Reading (List (List ℕ))
read_texts s = promised (reading.read_elements s) >>= read_each read_text

abbrev pub read_blobs : Source → Reading (List (List ℕ))
read_blobs s = promised (reading.read_elements s) >>= read_each read_blob

abbrev pub refusal_of : {A : Type 0} → Answer A → Refusal
refusal_of (Ok x) = any_message
refusal_of (Err r) = r

-- A text, a number and a byte string that are inside of an attribute value show no map.
abbrev pub no_map : Source → Refusal
no_map s = refusal_of (reading.read_entries s)

-- so no element of a set is read
abbrev pub read_none : (List ℕ → Source) → List (List ℕ) → Reading av.Elements
read_none source [] = Ok av.no_elements
read_none source (t ∷ ts) = refuse (no_map (source t))

-- ---- attribute values

-- what is promised of the fault of a reading
abbrev pub refusals_of : {A : Type 0} → Reading A → List Refusal
refusals_of (Ok x) = []
refusals_of (Err rs) = rs

-- Where a map has several entries, the fault is that there are several, or one that an entry has by itself: it is open which.
-- The members of a read map are put in turn, in ascending order of the bytes of their keys.
abbrev mutual
  pub read_attribute : Av → Reading Av
  read_attribute (av.M av.no_members) = refuse no_key
  read_attribute (av.M (av.member key content av.no_members)) = promised (known key) >>= λ p. read_content p content
  read_attribute (av.M ms) = Err (several_keys ∷ own_refusals ms)
  read_attribute _ = refuse (fault expected_map)

  pub own_refusals : av.Members → List Refusal
  own_refusals av.no_members = []
  own_refusals (av.member key content ms) = refusals_of (promised (known key) >>= λ p. read_content p content) ++ own_refusals ms

  -- what is under a prefix
  pub read_content : Prefix → Av → Reading Av
  read_content prefix.N a = read_text (attribute a) >>= λ text. Ok (av.N text)
  read_content prefix.S a = read_text (attribute a) >>= λ text. Ok (av.S text)
  read_content prefix.Bool a = promised (read_bool (attribute a)) >>= λ b. Ok (av.Boolean b)
  read_content prefix.B a = read_blob (attribute a) >>= λ bytes. Ok (av.B bytes)
  read_content prefix.Null a = promised (read_bool (attribute a)) >>= λ b. Ok (av.Null b)
  read_content prefix.M (av.M ms) = read_members [] ms >>= λ members. Ok (av.M members)
  read_content prefix.M _ = refuse (fault expected_map)
  read_content prefix.L (av.L as') = read_elements as' >>= λ elements. Ok (av.L elements)
  read_content prefix.L (av.Ss ts) = read_none plain_text ts >>= λ elements. Ok (av.L elements)
  read_content prefix.L (av.Ns ts) = read_none number_text ts >>= λ elements. Ok (av.L elements)
  read_content prefix.L (av.Bs ts) = read_none byte_string ts >>= λ elements. Ok (av.L elements)
  read_content prefix.L _ = refuse (fault expected_seq)
  read_content prefix.Ss a = read_texts (attribute a) >>= λ texts. Ok (av.Ss texts)
  read_content prefix.Ns a = read_texts (attribute a) >>= λ texts. Ok (av.Ns texts)
  read_content prefix.Bs a = read_blobs (attribute a) >>= λ blobs. Ok (av.Bs blobs)

  pub read_elements : av.Elements → Reading av.Elements
  read_elements av.no_elements = Ok av.no_elements
  read_elements (av.element a as') = do
    value ← read_attribute a
    values ← read_elements as'
    Ok (av.element value values)

  -- after the members that are there already
  pub read_members : List (List ℕ × Av) → av.Members → Reading av.Members
  read_members so_far av.no_members = Ok (members_of so_far)
  read_members so_far (av.member key a ms) = do
    value ← read_attribute a
    read_members (put text_cmp key value so_far) ms

abbrev pub read_item : Av → Reading av.Members
read_item (av.M ms) = read_members [] ms
read_item _ = refuse (fault expected_map)

-- ---- from each source

abbrev pub read_map_from : {A : Type 0} → (Av → Reading A) → Source → Reading A
read_map_from f (attribute a) = f a
read_map_from f s = refuse (no_map s)

abbrev pub attribute_from : Source → Reading Av
attribute_from = read_map_from read_attribute

abbrev pub item_from : Source → Reading av.Members
item_from = read_map_from read_item

-- ---- level by level

abbrev pub own_refusals_in : List Entry → List Refusal
own_refusals_in [] = []
own_refusals_in (e ∷ es) = refusals_of (promised (known e.0) >>= λ p. read_content p e.1) ++ own_refusals_in es

-- An attribute value of which all is read but the attribute values that it holds.
pub data Opened : Type 0 where
  whole : Av → Opened
  in_map : List Entry → Opened
  in_list : List Source → Opened

-- the prefix and the content of the one entry
abbrev pub entry_in : List Entry → Reading (Prefix × Source)
entry_in [] = refuse no_key
entry_in (e ∷ []) = promised (known e.0) >>= λ p. Ok (p, attribute e.1)
entry_in es = Err (several_keys ∷ own_refusals_in es)

abbrev pub entry_from : Source → Reading (Prefix × Source)
entry_from s = promised (reading.read_entries s) >>= entry_in

-- what is under a prefix
abbrev pub content_opened : Prefix → Source → Reading Opened
content_opened prefix.N s = read_text s >>= λ text. Ok (whole (av.N text))
content_opened prefix.S s = read_text s >>= λ text. Ok (whole (av.S text))
content_opened prefix.Bool s = promised (read_bool s) >>= λ b. Ok (whole (av.Boolean b))
content_opened prefix.B s = read_blob s >>= λ bytes. Ok (whole (av.B bytes))
content_opened prefix.Null s = promised (read_bool s) >>= λ b. Ok (whole (av.Null b))
content_opened prefix.M s = promised (reading.read_entries s) >>= λ es. Ok (in_map es)
content_opened prefix.L s = promised (reading.read_elements s) >>= λ ss. Ok (in_list ss)
content_opened prefix.Ss s = read_texts s >>= λ texts. Ok (whole (av.Ss texts))
content_opened prefix.Ns s = read_texts s >>= λ texts. Ok (whole (av.Ns texts))
content_opened prefix.Bs s = read_blobs s >>= λ blobs. Ok (whole (av.Bs blobs))

abbrev pub opened_from : Source → Reading Opened
opened_from s = entry_from s >>= λ e. content_opened e.0 e.1

abbrev pub read_entries : List (List ℕ × Av) → List Entry → Reading av.Members
read_entries so_far [] = Ok (members_of so_far)
read_entries so_far (e ∷ es) = do
  value ← read_attribute e.1
  read_entries (put text_cmp e.0 value so_far) es

-- then the attribute values that it holds are read
abbrev pub read_opened : Opened → Reading Av
read_opened (whole a) = Ok a
read_opened (in_map es) = read_entries [] es >>= λ members. Ok (av.M members)
read_opened (in_list ss) = read_each attribute_from ss >>= λ values. Ok (av.L (elements_of values))
