use Rattle.std.proofs.Common.{[], map, string_bytes, rules, refl, subst}
use Rattle.std.proofs.lemmas.Result.{on_ok_weaker}
use Rattle.serde.specs.Event.{Logs, text, boolean, octets, field_key}
use Rattle.serde.specs.declared.name.Case.TheVariants.{AsIs}
use Rattle.dynamo_value.specs.Av as av
use Rattle.dynamo_value.specs.declared.attribute_value.AttributeValue.{the_lemmas}
use Rattle.dynamo_serde.proofs.Logged.{none, one}
use Rattle.dynamo_serde.proofs.Sending.{plain_sent, list_more, list_all, map_starts, map_more, map_all}
use Rattle.dynamo_serde.proofs.with.attribute_value.+send.Goals as goal

pub send_list-loop-item-init : goal.send_list-loop-item-init
send_list-loop-item-init g t c = ([], refl, none (g.S.Serializer.written c.begin_seq.new.self))

pub send_list-loop-item-preserved : goal.send_list-loop-item-preserved
send_list-loop-item-preserved g t c =
    let log = g.S.Serializer.written in
    list_more c.deref-item-items.result.now c.loop-item.item-index c.item-item.result (log c.begin_seq.new.self) (log c.loop-item.out) (log c.send.new.out)
    c.loop-item-test.true c.item-item.is c.loop-item.invariant c.in_ok-send.ensures

pub send_list-returns : goal.send_list-returns
send_list-returns g t c =
    let log = g.S.Serializer.written in
    on_ok_weaker c.end_seq.result
    (list_all c.args.items.now.items c.deref-item-items.result.now c.loop-item.item-index c.len.result
    (log c.args.out.now) (log c.begin_seq.new.self) (log c.loop-item.out) (log c.end_seq.new.self)
    c.deref-item-items.ensures.value c.loop-item-test.false (search rules) c.in_ok-begin_seq.ensures c.loop-item.invariant) c.end_seq.ensures

pub send_map-loop-key-init : goal.send_map-loop-key-init
send_map-loop-key-init g t c =
    map_starts c.args.map.now.entries c.into_iter-key-iterator.result (g.S.Serializer.written c.begin_map.new.self) (search rules) (none (g.S.Serializer.written c.begin_map.new.self))

pub send_map-loop-key-preserved : goal.send_map-loop-key-preserved
send_map-loop-key-preserved g t c =
    let log = g.S.Serializer.written in
    map_more c.args.map.now.entries c.loop-key.key-iterator c.next.new.self (c.in-Some.key.now, c.in-Some.value.now)
    (log c.begin_map.new.self) (log c.loop-key.out) (log c.key.new.self) (log c.send.new.out)
    c.iter-key-items.ensures.unique c.in-Some.ensures.steps c.loop-key.invariant
    (subst (λ k. Logs (log c.loop-key.out) (log c.key.new.self) (field_key k AsIs)) c.as_str.ensures.value c.in_ok-key.ensures) c.in_ok-send.ensures

pub send_map-returns : goal.send_map-returns
send_map-returns g t c =
    let log = g.S.Serializer.written in
    on_ok_weaker c.end_map.result
    (map_all c.args.map.now.entries c.loop-key.key-iterator c.len.result
    (log c.args.out.now) (log c.begin_map.new.self) (log c.loop-key.out) (log c.end_map.new.self)
    c.in-None.ensures.steps.0 (search rules) c.in_ok-begin_map.ensures c.loop-key.invariant) c.end_map.ensures

pub send-returns-in-N : goal.send-returns-in-N
send-returns-in-N g t c =
    let log = g.S.Serializer.written in
    on_ok_weaker c.send_number.result (λ e. plain_sent c.args.value.now (av.N c.as_str.result.now) (log c.args.out.now) (log c.send_number.new.out) (search (rules, the_lemmas)) refl e) c.send_number.ensures

pub send-returns-in-S : goal.send-returns-in-S
send-returns-in-S g t c =
    let log = g.S.Serializer.written in
    on_ok_weaker c.str.result (λ e. plain_sent c.args.value.now (av.S c.as_str-in-S.result.now) (log c.args.out.now) (log c.str.new.self) (search (rules, the_lemmas)) refl (one (text c.as_str-in-S.result.now) (log c.args.out.now) (log c.str.new.self) e)) c.str.ensures

pub send-returns-in-Bool : goal.send-returns-in-Bool
send-returns-in-Bool g t c =
    let log = g.S.Serializer.written in
    on_ok_weaker c.bool.result (λ e. plain_sent c.args.value.now (av.Boolean c.in-Bool.b) (log c.args.out.now) (log c.bool.new.self) (search (rules, the_lemmas)) refl (one (boolean c.in-Bool.b) (log c.args.out.now) (log c.bool.new.self) e)) c.bool.ensures

pub send-returns-in-B : goal.send-returns-in-B
send-returns-in-B g t c =
    let log = g.S.Serializer.written in
    on_ok_weaker c.bytes.result (λ e. plain_sent c.args.value.now (av.B c.as_slice.result.now) (log c.args.out.now) (log c.bytes.new.self) (search (rules, the_lemmas)) refl (one (octets c.as_slice.result.now) (log c.args.out.now) (log c.bytes.new.self) e)) c.bytes.ensures

pub send-returns-in-Null : goal.send-returns-in-Null
send-returns-in-Null g t c =
    let log = g.S.Serializer.written in
    on_ok_weaker c.send_null.result (λ e. plain_sent c.args.value.now (av.Null c.in-Null.b) (log c.args.out.now) (log c.send_null.new.out) (search (rules, the_lemmas)) refl e) c.send_null.ensures

pub send-returns-in-Ss : goal.send-returns-in-Ss
send-returns-in-Ss g t c =
    let log = g.S.Serializer.written in
    on_ok_weaker c.send_texts.result (λ e. plain_sent c.args.value.now (av.Ss (map string_bytes c.in-Ss.texts.items)) (log c.args.out.now) (log c.send_texts.new.out) (search (rules, the_lemmas)) refl e) c.send_texts.ensures

pub send-returns-in-Ns : goal.send-returns-in-Ns
send-returns-in-Ns g t c =
    let log = g.S.Serializer.written in
    on_ok_weaker c.send_numbers.result (λ e. plain_sent c.args.value.now (av.Ns (map string_bytes c.in-Ns.texts.items)) (log c.args.out.now) (log c.send_numbers.new.out) (search (rules, the_lemmas)) refl e) c.send_numbers.ensures

pub send-returns-in-Bs : goal.send-returns-in-Bs
send-returns-in-Bs g t c =
    let log = g.S.Serializer.written in
    on_ok_weaker c.serialize.result (λ e. plain_sent c.args.value.now (av.Bs (map (λ b. b.items) c.in-Bs.blobs.items)) (log c.args.out.now) (log c.serialize.new.out) (search (rules, the_lemmas)) refl e) c.serialize.ensures
