-- The shapes of the samples are clear: what is written of a sample reads back as it was.
use Rattle.std.proofs.Common.{refl}
use Rattle.dynamo_shape.specs.Clear.{Clear}
use Rattle.serde_dynamo.specs.SampleShapes.{user_shape, event_shape, sets_shape}

user_is_clear : Clear user_shape
user_is_clear = record { nearly = (refl, tt, (refl, tt, (refl, tt, tt))); none_nested = (tt, (tt, (tt, tt))) }

event_is_clear : Clear event_shape
event_is_clear = record {
  nearly = (refl, tt, (refl, tt, (refl, (tt, (tt, tt)), (refl, (refl, tt, (refl, tt, tt)), tt))));
  none_nested = (tt, (tt, ((tt, (tt, tt)), ((tt, (tt, tt)), tt))));
}

sets_is_clear : Clear sets_shape
sets_is_clear = record { nearly = (refl, tt, (refl, tt, (refl, tt, tt))); none_nested = (tt, (tt, (tt, tt))) }
