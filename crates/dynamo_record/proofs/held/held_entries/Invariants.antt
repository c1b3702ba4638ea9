use Rattle.std.proofs.Common.{length}
use Rattle.dynamo_record.proofs.HeldEntries.{AllHeld}
use Rattle.dynamo_record.proofs.held.held_entries.Given as goal

-- the entries before those that are left are held
abbrev pub invariant-loop-key : goal.invariant-loop-key
invariant-loop-key g l = AllHeld g.D.Reader.source l.fn.tag (g.D.Reader.entries l.entries) l.held.items l.last (g.D.Reader.entries l.initial.entries)

abbrev pub decreases-loop-key : goal.decreases-loop-key
decreases-loop-key g l = length (g.D.Reader.entries l.entries)
