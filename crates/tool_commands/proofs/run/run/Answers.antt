use Rattle.std.proofs.Common.{◌≡◌, map, string_bytes, Some, None, Err, refl, rules}
use Rattle.tool_commands.specs.Failed.{no_memory}
use Rattle.tool_commands.specs.Runs.{Runs}
use Rattle.tool_commands.specs.Words.{user, check, dynamo, plain, command_of}
use Rattle.tool_commands.proofs.Known.{runs_on_known}
use Rattle.tool_commands.proofs.run.run.Goals as goal

pub returns-in-Some-User : goal.returns-in-Some-User
returns-in-Some-User g c =
    let asks : command_of (map string_bytes c.args.words.now) ≡ Some (user c.in-Some-User.id.now c.in-Some-User.name.now c.in-Some-User.age) = search rules in
    let runs : Runs g.R.Input.read_gives g.W.Output.write_gives (command_of (map string_bytes c.args.words.now)) c.args.reader.now c.args.reader.now c.args.writer.now c.print_answer.new.writer c.print_answer.result =
    let (text, status, shows, prints) = c.print_answer.ensures in
    rw asks (Err no_memory, refl, text, status, (_, c.user_lines.ensures, shows), prints) in
    record { runs = runs; on_known = runs_on_known g.R.Input.read_gives g.W.Output.write_gives _ c.args.reader.now c.args.reader.now c.args.writer.now c.print_answer.new.writer c.print_answer.result runs }

pub returns-in-Some-Check : goal.returns-in-Some-Check
returns-in-Some-Check g c =
    let asks : command_of (map string_bytes c.args.words.now) ≡ Some check = search rules in
    let runs : Runs g.R.Input.read_gives g.W.Output.write_gives (command_of (map string_bytes c.args.words.now)) c.args.reader.now c.check.new.reader c.args.writer.now c.print_answer-in-Some-Check.new.writer c.print_answer-in-Some-Check.result = search rules in
    record { runs = runs; on_known = runs_on_known g.R.Input.read_gives g.W.Output.write_gives _ c.args.reader.now c.check.new.reader c.args.writer.now c.print_answer-in-Some-Check.new.writer c.print_answer-in-Some-Check.result runs }

pub returns-in-Some-Dynamo : goal.returns-in-Some-Dynamo
returns-in-Some-Dynamo g c =
    let asks : command_of (map string_bytes c.args.words.now) ≡ Some dynamo = search rules in
    let runs : Runs g.R.Input.read_gives g.W.Output.write_gives (command_of (map string_bytes c.args.words.now)) c.args.reader.now c.to_dynamo.new.reader c.args.writer.now c.print_answer-in-Some-Dynamo.new.writer c.print_answer-in-Some-Dynamo.result = search rules in
    record { runs = runs; on_known = runs_on_known g.R.Input.read_gives g.W.Output.write_gives _ c.args.reader.now c.to_dynamo.new.reader c.args.writer.now c.print_answer-in-Some-Dynamo.new.writer c.print_answer-in-Some-Dynamo.result runs }

pub returns-in-Some-Plain : goal.returns-in-Some-Plain
returns-in-Some-Plain g c =
    let asks : command_of (map string_bytes c.args.words.now) ≡ Some plain = search rules in
    let runs : Runs g.R.Input.read_gives g.W.Output.write_gives (command_of (map string_bytes c.args.words.now)) c.args.reader.now c.to_plain.new.reader c.args.writer.now c.print_answer-in-Some-Plain.new.writer c.print_answer-in-Some-Plain.result = search rules in
    record { runs = runs; on_known = runs_on_known g.R.Input.read_gives g.W.Output.write_gives _ c.args.reader.now c.to_plain.new.reader c.args.writer.now c.print_answer-in-Some-Plain.new.writer c.print_answer-in-Some-Plain.result runs }

pub returns-in-None : goal.returns-in-None
returns-in-None g c =
    let asks : command_of (map string_bytes c.args.words.now) ≡ None = search rules in
    let runs : Runs g.R.Input.read_gives g.W.Output.write_gives (command_of (map string_bytes c.args.words.now)) c.args.reader.now c.args.reader.now c.args.writer.now c.print.new.writer c.print.result =
    rw asks (Err no_memory, refl, _, 2, (refl, refl), c.print.ensures) in
    record { runs = runs; on_known = runs_on_known g.R.Input.read_gives g.W.Output.write_gives _ c.args.reader.now c.args.reader.now c.args.writer.now c.print.new.writer c.print.result runs }
