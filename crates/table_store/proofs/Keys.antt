-- Schemas that are equal by their fields have the same words.
use Rattle.std.proofs.Common.{◌≡◌, Bool, true, ◌&&◌, bytes_eq, string_bytes, [], ◌∷◌, ◌++◌, Option, Some, None, refl, sym, ap, rules}
use Rattle.std.proofs.lemmas.Bool.{and_parts, true≢false}
use Rattle.std.proofs.lemmas.Slice.Eq.{bytes_eq-Decides}
use Rattle.std.specs.Option.{option_eq}
use Rattle.table_keys.specs.KeyOf.{word_of, words_of, sort_words}
use Rattle.table_keys.specs.KeyOrder.{kind_name}
use Rattle.table_keys.specs.contracts.key.KeyKind.{the_type}
use Rattle.table_keys.specs.declared.schema.KeyAttribute.{KeyAttribute}
use Rattle.table_keys.specs.declared.schema.KeySchema.{KeySchema}
use denote.Enum.Bare.{sameb, same_true}

abbrev attribute_eq : KeyAttribute → KeyAttribute → Bool
attribute_eq a b = bytes_eq (string_bytes a.name) (string_bytes b.name) && sameb the_type a.kind b.kind

same_word : (a b : KeyAttribute) → attribute_eq a b ≡ true → word_of a ≡ word_of b
same_word a b h =
    let p = and_parts (bytes_eq (string_bytes a.name) (string_bytes b.name)) (sameb the_type a.kind b.kind) h in
    let name : string_bytes a.name ≡ string_bytes b.name = (bytes_eq-Decides (string_bytes a.name) (string_bytes b.name)).0 p.0 in
    let kind : a.kind ≡ b.kind = same_true the_type (search rules) a.kind b.kind p.1 in
    λ i. name i ++ (58 ∷ kind_name (kind i))

same_sort : (x y : Option KeyAttribute) → option_eq attribute_eq x y ≡ true → sort_words x ≡ sort_words y
same_sort None None h = refl
same_sort None (Some b) h = absurd (true≢false (sym h))
same_sort (Some a) None h = absurd (true≢false (sym h))
same_sort (Some a) (Some b) h = ap (λ w. w ∷ []) (same_word a b h)

pub same_words : (a b : KeySchema) → true ≡ (attribute_eq a.partition b.partition && option_eq attribute_eq a.sort b.sort) → words_of a ≡ words_of b
same_words a b h =
    let p = and_parts (attribute_eq a.partition b.partition) (option_eq attribute_eq a.sort b.sort) (sym h) in
    λ i. same_word a.partition b.partition p.0 i ∷ same_sort a.sort b.sort p.1 i
