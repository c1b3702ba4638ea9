use Rattle.std.proofs.Common.{List}
use Rattle.dynamo_record.proofs.Common.{into_iter_items, Entry, listed, AreNamed}
use Rattle.dynamo_record.specs.Held as held
use Rattle.dynamo_record.proofs.HeldStructs.{HeldSoFar}
use Rattle.dynamo_record.proofs.held.read_held.Given as goal

-- what is answered on what is left, after the fields that were read, is answered on the whole
abbrev pub invariant-loop-name : goal.invariant-loop-name
invariant-loop-name g l =
    (named : AreNamed (listed g.R.Record.about g.R.Fields.FieldList.about)) (es : List Entry) → held.Holds g.D.Reader.source l.fn.held.items es
    → HeldSoFar (listed g.R.Record.about g.R.Fields.FieldList.about) named g.R.Fields.FieldList.holds g.D.Reader.source es l.slots (into_iter_items l.name-iterator)
