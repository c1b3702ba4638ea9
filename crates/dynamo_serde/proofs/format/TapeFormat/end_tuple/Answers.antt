use Rattle.dynamo_serde.specs.Tape.{ahead}
use Rattle.dynamo_serde.proofs.Laying.{passed_all}
use Rattle.dynamo_serde.proofs.format.TapeFormat.end_tuple.Goals as goal

pub loop-preserved : goal.loop-preserved
loop-preserved c =
    passed_all (ahead c.args.self.now) (ahead c.loop.self) (ahead c.pass_whole.new.self) c.loop.invariant.0 c.loop.invariant.1 c.pass_whole.ensures
