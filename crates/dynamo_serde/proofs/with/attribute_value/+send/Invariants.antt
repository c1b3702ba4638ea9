use Rattle.dynamo_serde.proofs.Sending.{ListUpTo, MapUpTo}
use Rattle.dynamo_serde.proofs.with.attribute_value.+send.Given as goal

abbrev pub invariant-send_list-loop-item : goal.invariant-send_list-loop-item
invariant-send_list-loop-item g l = ListUpTo l.item-items l.item-index (g.S.Serializer.written l.initial.out) (g.S.Serializer.written l.out)

abbrev pub invariant-send_map-loop-key : goal.invariant-send_map-loop-key
invariant-send_map-loop-key g l = MapUpTo l.map.entries l.key-iterator (g.S.Serializer.written l.initial.out) (g.S.Serializer.written l.out)
