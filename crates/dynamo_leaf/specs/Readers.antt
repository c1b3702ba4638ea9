-- What the readers read from, and what is left of a set.
use Rattle.std.specs.Prelude.{ℕ, List, map, Option, None, Result, Ok, string_bytes}
use Rattle.std.specs.Vec.Iter.{into_iter_items}
use Rattle.dynamo_value.specs.Fault.{Fault}
use Rattle.dynamo_de.specs.Source.{Source, key_text, plain_text, byte_string, each}
use Rattle.dynamo_leaf.specs.declared.bytes.DeserializerBytes.{DeserializerBytes}
use Rattle.dynamo_leaf.specs.declared.sequences.DeserializerSeqBytes.{DeserializerSeqBytes}
use Rattle.dynamo_leaf.specs.declared.sequences.DeserializerSeqTexts.{DeserializerSeqTexts}
use Rattle.dynamo_leaf.specs.declared.text.Place.{Place}
use Rattle.dynamo_leaf.specs.declared.text.Place.TheVariants as place
use Rattle.dynamo_leaf.specs.declared.text.TextDeserializer.{TextDeserializer}
use Rattle.dynamo_leaf.specs.declared.variant_name.VariantName.{VariantName}

-- ---- single texts and byte strings

-- by how a text is read, where its own kind makes it this source
abbrev pub source_at : (List ℕ → Source) → Place → List ℕ → Source
source_at own place.Own t = own t
source_at own place.Key t = key_text t
source_at own place.Name t = plain_text t

abbrev pub text_source : {P : Type 0} → (List ℕ → Source) → TextDeserializer P → Source
text_source own r = source_at own r.place (string_bytes r.text)

abbrev pub bytes_source : DeserializerBytes → Source
bytes_source r = byte_string r.bytes.items

-- a variant by its name, without content
abbrev pub name_chosen : VariantName → Result (List ℕ × Option Source) Fault
name_chosen n = Ok (string_bytes n.text, None)

-- ---- the elements of a set that are left

abbrev pub texts_left : {P : Type 0} → (List ℕ → Source) → DeserializerSeqTexts P → List Source
texts_left own s = each own (map string_bytes (into_iter_items s.texts))

abbrev pub bytes_left : DeserializerSeqBytes → List Source
bytes_left s = each byte_string (map (λ b. b.items) (into_iter_items s.byte_strings))
