-- The shape of a gauge is clear: what is written of a gauge reads back as it was.
use Rattle.std.proofs.Common.{refl}
use Rattle.std.specs.Prelude.{codes}
use Rattle.dynamo_shape.specs.Clear.{Clear}
use Rattle.dynamo_shape.specs.Shape.{struct}
use Rattle.example_types.specs.GaugeShape.{gauge_fields}

gauge_is_clear : Clear (struct (codes "Gauge") gauge_fields)
gauge_is_clear = record { nearly = (refl, tt, (refl, tt, tt)); none_nested = (tt, (((λ n. n), tt), tt)) }
