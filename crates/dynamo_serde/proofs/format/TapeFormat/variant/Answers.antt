use Rattle.std.proofs.Common.{inr, refl, subst}
use Rattle.serde.specs.Names.{Finds}
use Rattle.dynamo_serde.specs.Tape.{token_of}
use Rattle.dynamo_serde.proofs.format.TapeFormat.variant.Goals as goal

pub returns-in-Some : goal.returns-in-Some
returns-in-Some c =
    let next = c.in-Some.ensures in
    let found = c.find.ensures in
    let finds : Finds c.args.names.now c.of_token.result.now c.find.result = (found.found, found.first, found.range) in
    inr (token_of c.in-Some.token, next.0, next.1, refl, subst (λ s. Finds c.args.names.now s c.find.result) c.of_token.ensures finds)
