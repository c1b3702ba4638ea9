use Rattle.std.proofs.Common.{List}
use Rattle.dynamo_record.proofs.Common.{into_iter_items, Entry}
use Rattle.dynamo_record.specs.Held.{Holds}
use Rattle.dynamo_record.proofs.HeldStructs.{Leads}
use Rattle.dynamo_record.proofs.held.ignore_held.Given as goal

-- what is met on what is left is met on the whole
abbrev pub invariant-loop-name : goal.invariant-loop-name
invariant-loop-name g l = (es : List Entry) → Holds g.D.Reader.source l.fn.held.items es → Leads g.D.Reader.source (into_iter_items l._name-iterator) es
