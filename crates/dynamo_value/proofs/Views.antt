-- The view of a list, of a map and of a set, by the views of what they hold.
use Rattle.std.proofs.Common.{rules, ◌≡◌, ℕ, map, Vec, Global, String, string_bytes}
use Rattle.dynamo_value.specs.Av as av
use Rattle.dynamo_value.specs.Table.{Table}
use Rattle.dynamo_value.specs.View.{view, elements_view, members_view}
use Rattle.dynamo_value.specs.declared.attribute_value.AttributeValue.{AttributeValue, L, M, Ss, Ns, Bs, the_lemmas}

pub view_list : (values : Vec AttributeValue Global) → view (L values) ≡ av.L (elements_view values.items)
view_list values = search (rules, the_lemmas)

pub view_map : (map : Table) → view (M map) ≡ av.M (members_view map.entries)
view_map map = search (rules, the_lemmas)

pub view_strings : (texts : Vec (String Global) Global) → view (Ss texts) ≡ av.Ss (map string_bytes texts.items)
view_strings texts = search (rules, the_lemmas)

pub view_numbers : (texts : Vec (String Global) Global) → view (Ns texts) ≡ av.Ns (map string_bytes texts.items)
view_numbers texts = search (rules, the_lemmas)

pub view_blobs : (blobs : Vec (Vec ℕ Global) Global) → view (Bs blobs) ≡ av.Bs (map (λ b. b.items) blobs.items)
view_blobs blobs = search (rules, the_lemmas)
