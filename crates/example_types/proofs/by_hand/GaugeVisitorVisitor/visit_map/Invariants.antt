use Rattle.std.proofs.Common.{length}
use Rattle.std.specs.Prelude.{option_map}
use Rattle.example_types.specs.GaugeShape.{told_id, told_reading}
use Rattle.example_types.proofs.GaugeFields.{Leads}
use Rattle.example_types.proofs.by_hand.GaugeVisitorVisitor.visit_map.Given as goal

-- what is answered on what is left, after the fields that were read, is answered on the whole
abbrev pub invariant-loop-id : goal.invariant-loop-id
invariant-loop-id g l = Leads (option_map told_id l.id) (option_map told_reading l.reading) (g.A.MapAccess.left l.map).entries (g.A.MapAccess.left l.fn.map).entries

abbrev pub decreases-loop-id : goal.decreases-loop-id
decreases-loop-id g l = length (g.A.MapAccess.left l.map).entries
