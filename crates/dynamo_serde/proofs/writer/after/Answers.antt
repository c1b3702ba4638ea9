use Rattle.std.proofs.Common.{sym, subst, IfSome, OnOk}
use mathlib.Core.Logic.{∥∥₁_map}
use Rattle.dynamo_serde.specs.Called.{event_of}
use Rattle.dynamo_serde.specs.Sent.{Takes, Follows}
use Rattle.dynamo_serde.proofs.Machine.{extended}
use Rattle.dynamo_serde.proofs.writer.after.Goals as goal

pub returns-in-Ok-clause-follows : goal.returns-in-Ok-clause-follows
returns-in-Ok-clause-follows c first old new h took =
    let step : IfSome (event_of c.args.call) (λ e. Takes old e new) = subst (λ r. OnOk r (IfSome (event_of c.args.call) (λ e. Takes old e new))) c.in-Ok.is took in
    subst (λ log. Follows first log new) (sym c.and.ensures) (∥∥₁_map h (extended first old new c.args.events.now.sent (event_of c.args.call) step))
