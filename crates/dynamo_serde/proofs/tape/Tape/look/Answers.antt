use Rattle.std.proofs.Common.{◌≡◌, ◌<◌, suc, length, drop, get_or, subst}
use Rattle.dynamo_serde.specs.Tape.{row}
use Rattle.dynamo_serde.proofs.Laying.{some_ahead}
use Rattle.dynamo_serde.proofs.tape.Tape.look.Goals as goal

pub returns-in-Some : goal.returns-in-Some
returns-in-Some c =
    let ts = c.args.self.now.tokens.items in
    let at = c.args.self.now.at in
    let t = c.in-Some.token.now in
    let found = c.in-Some.ensures.lookup in
    let same = c.deref.ensures.value in
    (row (drop (suc at) ts), some_ahead ts at t (subst (λ xs. at < length xs) same found.3.0) (subst (λ xs. t ≡ get_or xs at t) same found.1))
