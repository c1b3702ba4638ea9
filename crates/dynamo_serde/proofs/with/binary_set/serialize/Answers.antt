use Rattle.std.proofs.Common.{subst, rules}
use Rattle.std.proofs.lemmas.Result.{on_ok_weaker}
use Rattle.serde.specs.Event.{octets}
use Rattle.dynamo_ser.specs.Symbols.{blobs}
use Rattle.dynamo_serde.specs.Value.{Logged, blob_events}
use Rattle.dynamo_serde.proofs.Logged.{none, one, more, set_logged}
use Rattle.dynamo_serde.proofs.with.binary_set.serialize.Goals as goal

pub loop-blob-init : goal.loop-blob-init
loop-blob-init g c = none (g.S.Serializer.written c.begin_seq.new.self)

pub loop-blob-preserved : goal.loop-blob-preserved
loop-blob-preserved g c =
    let log = g.S.Serializer.written in
    more blob_events (λ b. b.items) c.deref-blob-items.result.now c.loop-blob.blob-index c.blob-item.result
    (log c.begin_seq.new.self) (log c.loop-blob.out) (log c.bytes.new.self)
    c.loop-blob-test.true c.blob-item.is c.loop-blob.invariant
    (subst (λ s. Logged (blob_events s) (log c.loop-blob.out) (log c.bytes.new.self)) c.as_slice.ensures.value
    (one (octets c.as_slice.result.now) (log c.loop-blob.out) (log c.bytes.new.self) c.in_ok-bytes.ensures))

pub returns : goal.returns
returns g c =
    let log = g.S.Serializer.written in
    on_ok_weaker c.end_map.result
    (set_logged blobs blob_events (λ b. b.items) c.args.blobs.now.items c.deref-blob-items.result.now c.loop-blob.blob-index c.len.result
    (log c.args.out.now) (log c.begin_map.new.self) (log c.variant_key.new.self)
    (log c.begin_seq.new.self) (log c.loop-blob.out) (log c.end_seq.new.self) (log c.end_map.new.self)
    c.deref-blob-items.ensures.value (search rules) c.loop-blob-test.false
    c.in_ok-begin_map.ensures c.in_ok-variant_key.ensures c.in_ok-begin_seq.ensures c.loop-blob.invariant c.in_ok-end_seq.ensures) c.end_map.ensures
