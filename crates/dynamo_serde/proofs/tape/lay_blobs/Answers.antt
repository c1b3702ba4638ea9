use Rattle.std.proofs.lemmas.Result.{on_ok_weaker}
use Rattle.dynamo_ser.specs.Symbols.{blobs}
use Rattle.dynamo_serde.specs.Laid.{bytes, begin_set, end_seq}
use Rattle.dynamo_serde.specs.Tape.{row}
use Rattle.dynamo_serde.proofs.Laying.{laid_all}
use Rattle.dynamo_serde.proofs.tape.lay_blobs.Goals as goal

pub returns : goal.returns
returns c =
    on_ok_weaker c.lay_one-2.result
    (laid_all bytes (λ b. b.items) c.args.blobs.now.items c.deref-blob-items.result.now c.loop-blob.blob-index (begin_set blobs) end_seq
    (row c.args.tokens.now.items) (row c.lay_one.new.tokens.items) (row c.loop-blob.tokens.items) (row c.lay_one-2.new.tokens.items)
    c.deref-blob-items.ensures.value c.loop-blob-test.false c.in_ok-lay_one.ensures c.loop-blob.invariant) c.lay_one-2.ensures
