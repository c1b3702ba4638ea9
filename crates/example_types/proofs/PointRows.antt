-- The shape of a point is clear: what is written of a point reads back as it was.
use Rattle.std.specs.Prelude.{codes}
use Rattle.dynamo_value.specs.Integer.{u8}
use Rattle.dynamo_shape.specs.Clear.{Clear}
use Rattle.dynamo_shape.specs.Shape.{integer, tuple_struct, shape, no_shapes}

point_is_clear : Clear (tuple_struct (codes "Point") (shape (integer u8) (shape (integer u8) no_shapes)))
point_is_clear = record { nearly = (tt, (tt, tt)); none_nested = (tt, (tt, tt)) }
