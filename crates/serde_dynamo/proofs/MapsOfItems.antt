-- A list of items is read as the list of their maps.
use Rattle.std.proofs.Common.{◌≡◌, List, [], ◌∷◌, map, Global, Vec, Result, refl, ap, subst}
use Rattle.dynamo_value.specs.Av as av
use Rattle.dynamo_value.specs.Av.{Members}
use Rattle.dynamo_value.specs.Fault.{Fault}
use Rattle.dynamo_ser.specs.Datum as datum
use Rattle.dynamo_ser.specs.Datum.{Datum}
use Rattle.dynamo_de.specs.Reads.{ReadsList}
use Rattle.dynamo_de.specs.Source.{Source, attribute, values_of}
use Rattle.dynamo_shape.specs.Conforms.{conforms}
use Rattle.dynamo_shape.specs.Laws.{AnswersByShape, ReadsByShape}
use Rattle.dynamo_shape.specs.Read.{read}
use Rattle.dynamo_shape.specs.Same.{Same}
use Rattle.dynamo_shape.specs.Shape as shape
use Rattle.dynamo_shape.specs.Shape.{Shape}
use Rattle.dynamo_shape.proofs.Lists.{list_permitted}

maps_in : (items : List Members) → map (λ m. attribute (av.M m)) items ≡ values_of (av.elements_of (map av.M items))
maps_in [] = refl
maps_in (m ∷ ms) = ap (λ sources. attribute (av.M m) ∷ sources) (maps_in ms)

abbrev pub whole : List Members → Source
whole items = attribute (av.L (av.elements_of (map av.M items)))

pub items_answered : {T : Type 0} (s : Shape) (tells : T → Datum) (reads : Source → Result T Fault → Type 0) → ReadsByShape s tells reads → (items : List Members) (r : Result (Vec T Global) Fault) → ReadsList reads (map (λ m. attribute (av.M m)) items) r
    → AnswersByShape (conforms (shape.list s)) Same (λ v. datum.seq (datum.elements_of (map tells v.items))) (read (shape.list s) (whole items)) r
items_answered s tells reads h items r a = list_permitted s tells reads h (whole items) r (subst (λ sources. ReadsList reads sources r) (maps_in items) a)
