use Rattle.std.proofs.Common.{string_bytes}
use Rattle.std.proofs.lemmas.Result.{on_ok_weaker}
use Rattle.dynamo_ser.specs.Symbols.{strings}
use Rattle.dynamo_serde.specs.Laid.{text, begin_set, end_seq}
use Rattle.dynamo_serde.specs.Tape.{row}
use Rattle.dynamo_serde.proofs.Laying.{laid_all}
use Rattle.dynamo_serde.proofs.tape.lay_texts.Goals as goal

pub returns : goal.returns
returns c =
    on_ok_weaker c.lay_one-2.result
    (laid_all text string_bytes c.args.texts.now.items c.deref-text-items.result.now c.loop-text.text-index (begin_set strings) end_seq
    (row c.args.tokens.now.items) (row c.lay_one.new.tokens.items) (row c.loop-text.tokens.items) (row c.lay_one-2.new.tokens.items)
    c.deref-text-items.ensures.value c.loop-text-test.false c.in_ok-lay_one.ensures c.loop-text.invariant) c.lay_one-2.ensures
