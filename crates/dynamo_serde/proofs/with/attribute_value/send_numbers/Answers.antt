use Rattle.std.proofs.Common.{subst, string_bytes, rules}
use Rattle.std.proofs.lemmas.Result.{on_ok_weaker}
use Rattle.dynamo_ser.specs.Symbols.{numbers}
use Rattle.dynamo_serde.specs.Value.{Logged, number_events}
use Rattle.dynamo_serde.proofs.Logged.{none, more, set_logged}
use Rattle.dynamo_serde.proofs.with.attribute_value.send_numbers.Goals as goal

pub loop-text-init : goal.loop-text-init
loop-text-init g c = none (g.S.Serializer.written c.begin_seq.new.self)

pub loop-text-preserved : goal.loop-text-preserved
loop-text-preserved g c =
    let log = g.S.Serializer.written in
    more number_events string_bytes c.deref-text-items.result.now c.loop-text.text-index c.text-item.result (log c.begin_seq.new.self) (log c.loop-text.out) (log c.send_number.new.out)
    c.loop-text-test.true c.text-item.is c.loop-text.invariant (subst (λ s. Logged (number_events s) (log c.loop-text.out) (log c.send_number.new.out)) c.as_str.ensures.value c.in_ok-send_number.ensures)

pub returns : goal.returns
returns g c =
    let log = g.S.Serializer.written in
    on_ok_weaker c.end_map.result
    (set_logged numbers number_events string_bytes c.args.texts.now.items c.deref-text-items.result.now c.loop-text.text-index c.len.result
    (log c.args.out.now) (log c.begin_map.new.self) (log c.variant_key.new.self) (log c.begin_seq.new.self) (log c.loop-text.out) (log c.end_seq.new.self) (log c.end_map.new.self)
    c.deref-text-items.ensures.value (search rules) c.loop-text-test.false
    c.in_ok-begin_map.ensures c.in_ok-variant_key.ensures c.in_ok-begin_seq.ensures c.loop-text.invariant c.in_ok-end_seq.ensures) c.end_map.ensures
