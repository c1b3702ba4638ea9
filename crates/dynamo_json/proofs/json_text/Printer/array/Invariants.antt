use Rattle.std.proofs.Common.{◌≡◌, ◌++◌, drop, map, string_bytes}
use Rattle.dynamo_json.proofs.Rest.{texts_left}
use Rattle.dynamo_json.proofs.json_text.Printer.array.Given as goal

abbrev pub invariant-loop-text : goal.invariant-loop-text
invariant-loop-text l =
    record {
      tokens : l.self.out.tokens ++ texts_left (map string_bytes (drop l.text-index l.text-items)) ≡ l.initial.self.out.tokens ++ texts_left (map string_bytes l.text-items);
      before : l.self.out.before ≡ l.initial.self.out.before;
    }
