use Rattle.std.proofs.Common.{◌≤◌, length}
use Rattle.tool_commands.specs.Reading.{calls, least_room}
use Rattle.tool_commands.proofs.Leads.{Leads}
use Rattle.tool_commands.proofs.read_to_end.read_to_end.Given as goal

abbrev pub invariant-loop : goal.invariant-loop
invariant-loop g l = record {
  room : least_room ≤ length l.room;
  leads : Leads g.R.Input.read_gives calls l.initial.reader l.counter l.bytes.items l.reader;
}
