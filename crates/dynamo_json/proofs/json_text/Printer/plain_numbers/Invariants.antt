use Rattle.std.proofs.Common.{◌≡◌, drop, map, string_bytes}
use Rattle.dynamo_json.proofs.Unstored.{numbers_behind}
use Rattle.dynamo_json.proofs.json_text.Printer.plain_numbers.Given as goal

abbrev pub invariant-loop-text : goal.invariant-loop-text
invariant-loop-text l =
    record {
      tokens : numbers_behind l.self.out.tokens (map string_bytes (drop l.text-index l.text-items))
          ≡ numbers_behind l.initial.self.out.tokens (map string_bytes l.text-items);
      before : l.self.out.before ≡ l.initial.self.out.before;
    }
