use Rattle.std.proofs.Common.{subst, string_bytes, rules}
use Rattle.std.proofs.lemmas.Result.{on_ok_weaker}
use Rattle.serde.specs.Event.{text}
use Rattle.dynamo_ser.specs.Symbols.{strings}
use Rattle.dynamo_serde.specs.Value.{Logged, text_events}
use Rattle.dynamo_serde.proofs.Logged.{none, one, more, set_logged}
use Rattle.dynamo_serde.proofs.with.attribute_value.send_texts.Goals as goal

pub loop-text-init : goal.loop-text-init
loop-text-init g c = none (g.S.Serializer.written c.begin_seq.new.self)

pub loop-text-preserved : goal.loop-text-preserved
loop-text-preserved g c =
    let log = g.S.Serializer.written in
    more text_events string_bytes c.deref-text-items.result.now c.loop-text.text-index c.text-item.result (log c.begin_seq.new.self) (log c.loop-text.out) (log c.str.new.self)
    c.loop-text-test.true c.text-item.is c.loop-text.invariant (subst (λ s. Logged (text_events s) (log c.loop-text.out) (log c.str.new.self)) c.as_str.ensures.value (one (text c.as_str.result.now) (log c.loop-text.out) (log c.str.new.self) c.in_ok-str.ensures))

pub returns : goal.returns
returns g c =
    let log = g.S.Serializer.written in
    on_ok_weaker c.end_map.result
    (set_logged strings text_events string_bytes c.args.texts.now.items c.deref-text-items.result.now c.loop-text.text-index c.len.result
    (log c.args.out.now) (log c.begin_map.new.self) (log c.variant_key.new.self) (log c.begin_seq.new.self) (log c.loop-text.out) (log c.end_seq.new.self) (log c.end_map.new.self)
    c.deref-text-items.ensures.value (search rules) c.loop-text-test.false
    c.in_ok-begin_map.ensures c.in_ok-variant_key.ensures c.in_ok-begin_seq.ensures c.loop-text.invariant c.in_ok-end_seq.ensures) c.end_map.ensures
