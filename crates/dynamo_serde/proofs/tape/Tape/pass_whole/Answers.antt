use Rattle.dynamo_serde.specs.Tape.{ahead, token_of}
use Rattle.dynamo_serde.proofs.Laying.{passed_more}
use Rattle.dynamo_serde.proofs.tape.Tape.pass_whole.Goals as goal

pub loop-preserved : goal.loop-preserved
loop-preserved c =
    let t = token_of c.in-Some.token in
    let next = c.in-Some.ensures in
    let run = c.loop.invariant in
    passed_more (ahead c.args.self.now) (ahead c.loop.self) (ahead c.pass.new.self) t run.0 run.1 (c.pass.ensures.takes t next.0 next.1).0

pub returns-then-open-eq0 : goal.returns-then-open-eq0
returns-then-open-eq0 c =
    let t = token_of c.in-Some.token in
    let next = c.in-Some.ensures in
    let run = c.loop.invariant in
    passed_more (ahead c.args.self.now) (ahead c.loop.self) (ahead c.pass.new.self) t run.0 run.1 (c.pass.ensures.takes t next.0 next.1).0
