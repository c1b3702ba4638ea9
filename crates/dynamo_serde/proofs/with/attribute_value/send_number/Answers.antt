use Rattle.std.proofs.lemmas.Result.{on_ok_weaker}
use Rattle.serde.specs.Event.{text}
use Rattle.dynamo_serde.specs.Symbol.{word, a_number}
use Rattle.dynamo_serde.specs.Value.{text_events}
use Rattle.dynamo_serde.proofs.Logged.{one, under_logged}
use Rattle.dynamo_serde.proofs.with.attribute_value.send_number.Goals as goal

pub returns : goal.returns
returns g c =
    let log = g.S.Serializer.written in
    on_ok_weaker c.end_map.result
    (under_logged (word a_number) (text_events c.args.text.now) (log c.args.out.now) (log c.begin_map.new.self) (log c.variant_key.new.self) (log c.str.new.self) (log c.end_map.new.self)
    c.in_ok-begin_map.ensures c.in_ok-variant_key.ensures (one (text c.args.text.now) (log c.variant_key.new.self) (log c.str.new.self) c.in_ok-str.ensures)) c.end_map.ensures
