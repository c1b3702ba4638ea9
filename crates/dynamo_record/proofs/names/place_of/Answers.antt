use Rattle.std.proofs.Common.{[]}
use Rattle.dynamo_record.proofs.Passing.{name_found, name_passed, all_passed}
use Rattle.dynamo_record.proofs.names.place_of.Goals as goal

pub returns-then-eq : goal.returns-then-eq
returns-then-eq c = name_found (λ n. n.now) c.args.names.now c.loop-place.place _ c.args.key.now _ c.loop-place.invariant c.loop-place-test.true c.if-eq.ensures

pub loop-place-preserved : goal.loop-place-preserved
loop-place-preserved c = name_passed (λ n. n.now) c.args.names.now c.loop-place.place _ c.args.key.now _ c.loop-place.invariant c.loop-place-test.true c.if-eq.ensures

pub returns : goal.returns
returns c = all_passed (λ n. n.now) c.args.names.now c.loop-place.place (record { ref_ptr = (0, 0); now = [] }) c.args.key.now _ c.loop-place.invariant c.loop-place-test.false c.loop-place.auto.place-end
