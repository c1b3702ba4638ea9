-- What an opened attribute value of the program stands for, by what the reader tells of elements and entries.
use Rattle.std.specs.Prelude.{List}
use Rattle.dynamo_value.specs.View.{view}
use Rattle.dynamo_de.specs.ReadAttribute.{Opened, whole, in_map, in_list}
use Rattle.dynamo_de.specs.Source.{Source, Entry}
use Rattle.dynamo_de.specs.declared.impls.attribute_value.Opened as declared
use Rattle.dynamo_de.specs.declared.impls.attribute_value.Opened.TheVariants as opened

abbrev pub opened_view : {L M : Type 0} → (L → List Source) → (M → List Entry) → declared.Opened L M → Opened
opened_view elements entries (opened.Whole value) = whole (view value)
opened_view elements entries (opened.Elements l) = in_list (elements l)
opened_view elements entries (opened.Entries m) = in_map (entries m)
