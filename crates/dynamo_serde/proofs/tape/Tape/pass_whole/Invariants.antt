use Rattle.std.proofs.Common.{◌≡◌, List, ◌++◌}
use Rattle.dynamo_serde.specs.Laid.{Token}
use Rattle.dynamo_serde.specs.Tape.{ahead}
use Rattle.dynamo_serde.proofs.tape.Tape.pass_whole.Given as goal

abbrev pub invariant-loop : goal.invariant-loop
invariant-loop l = (passed : List Token) × (ahead l.initial.self ≡ passed ++ ahead l.self)
