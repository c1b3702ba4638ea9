use Rattle.std.proofs.Common.{length}
use Rattle.dynamo_record.proofs.Common.{StructSoFar, listed}
use Rattle.dynamo_record.proofs.record.read_entries.Given as goal

-- what is answered on what is left, after the fields that were read, is answered on the whole
abbrev pub invariant-loop-key : goal.invariant-loop-key
invariant-loop-key g l = StructSoFar (listed g.R.Record.about g.R.Fields.FieldList.about) g.R.Fields.FieldList.holds l.slots (g.D.Reader.entries l.entries) (g.D.Reader.entries l.initial.entries)

abbrev pub decreases-loop-key : goal.decreases-loop-key
decreases-loop-key g l = length (g.D.Reader.entries l.entries)
