use Rattle.dynamo_record.proofs.Renaming.{alias_found, alias_passed, none_found}
use Rattle.dynamo_record.proofs.names.own_name.Goals as goal

pub returns-then-eq : goal.returns-then-eq
returns-then-eq c = alias_found (λ a. (a.0.now, a.1.now)) c.args.aliases.now c.loop-alias.alias-index _ c.args.name.now _ c.loop-alias.invariant c.loop-alias-test.true c.if-eq.ensures

pub loop-alias-preserved : goal.loop-alias-preserved
loop-alias-preserved c = alias_passed (λ a. (a.0.now, a.1.now)) c.args.aliases.now c.loop-alias.alias-index _ c.args.name.now _ c.loop-alias.invariant c.loop-alias-test.true c.if-eq.ensures

pub returns : goal.returns
returns c = none_found (λ a. (a.0.now, a.1.now)) c.args.aliases.now c.loop-alias.alias-index c.args.name.now _ c.loop-alias.invariant c.loop-alias-test.false
