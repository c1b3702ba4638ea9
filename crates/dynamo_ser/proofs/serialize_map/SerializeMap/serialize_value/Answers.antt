use Rattle.std.proofs.Common.{rules, ◌≡◌, Ok, string_bytes}
use Rattle.dynamo_ser.specs.Datum.{pair}
use Rattle.dynamo_ser.specs.Key.{key_text}
use Rattle.dynamo_ser.proofs.Steps.{takes_after_keeps}
use Rattle.dynamo_ser.proofs.serialize_map.SerializeMap.serialize_value.Goals as goal

pub returns-in_ok-written-in-Some-clause-takes : goal.returns-in_ok-written-in-Some-clause-takes
returns-in_ok-written-in-Some-clause-takes g c = λ text k waits named.
    let value = g.V.Serialize.tells c.args.value.now in
    let has_text : key_text k ≡ Ok (string_bytes c.in-Some.key) = search rules in
    let wrote : g.S.Outcomes.outcome (g.Self.SerializeMap.writer c.take_key.new.self) value (Ok c.in_ok-written-in-Some.written) = search rules in
    takes_after_keeps g.Self.SerializeMap.gives c.args.self.now c.take_key.new.self c.push_entry.new.self (pair k value) c.push_entry.result
    c.take_key.ensures.keeps (c.push_entry.ensures.takes k value has_text wrote)
