-- Worked rows of what the samples read at their shapes, each by computing.
use Rattle.std.proofs.Common.{◌≡◌, pos, true, false, refl}
use Rattle.std.specs.Prelude.{codes}
use Rattle.dynamo_value.specs.Av as av
use Rattle.dynamo_value.specs.Fault.{expected_num, expected_unit}
use Rattle.dynamo_de.specs.Answer as answer
use Rattle.dynamo_de.specs.Source.{attribute}
use Rattle.dynamo_shape.specs.Read.{read}
use Rattle.serde_dynamo.specs.SampleShapes.{user_shape, event_shape}
use Rattle.serde_dynamo.specs.Samples.{user_of, event_unit}

-- a user by the names of its fields, with an attribute that no field names
by_names : read user_shape (attribute (av.M (av.member (codes "age") (av.N (codes "7")) (av.member (codes "id") (av.S (codes "a")) (av.member (codes "name") (av.S (codes "b")) (av.member (codes "zip") (av.Boolean true) av.no_members)))))) ≡ answer.value (user_of (codes "a") (codes "b") (pos 7))
by_names = refl

-- the first fault in the order of the keys is that of the attribute that no field names
ignored_first : read user_shape (attribute (av.M (av.member (codes "aa") (av.Null false) (av.member (codes "age") (av.S (codes "1")) (av.member (codes "id") (av.S (codes "x")) (av.member (codes "name") (av.S (codes "n")) av.no_members)))))) ≡ answer.fault expected_unit
ignored_first = refl

field_first : read user_shape (attribute (av.M (av.member (codes "age") (av.S (codes "1")) (av.member (codes "id") (av.N (codes "2")) (av.member (codes "name") (av.S (codes "n")) av.no_members))))) ≡ answer.fault expected_num
field_first = refl

-- a field that is missing, by name and in order
missing : read user_shape (attribute (av.M (av.member (codes "id") (av.S (codes "x")) (av.member (codes "name") (av.S (codes "n")) av.no_members)))) ≡ answer.refused
missing = refl

too_short : read user_shape (attribute (av.L (av.element (av.S (codes "a")) (av.element (av.S (codes "b")) av.no_elements)))) ≡ answer.refused
too_short = refl

in_their_order : read user_shape (attribute (av.L (av.element (av.S (codes "a")) (av.element (av.S (codes "b")) (av.element (av.N (codes "7")) av.no_elements))))) ≡ answer.value (user_of (codes "a") (codes "b") (pos 7))
in_their_order = refl

-- a unit variant needs nothing of its content
unit_with_content : read event_shape (attribute (av.M (av.member (codes "Unit") (av.N (codes "x")) av.no_members))) ≡ answer.value event_unit
unit_with_content = refl
