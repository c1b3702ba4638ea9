use Rattle.std.proofs.Common.{ℕ, length, map, string_bytes}
use Rattle.dynamo_json.proofs.Common.{string, TextsAreNext}
use Rattle.dynamo_json.proofs.InText.{ItemsLeft}
use Rattle.dynamo_json.proofs.from_text.strings.Given as goal

abbrev pub invariant-strings : goal.invariant-strings
invariant-strings l = record {
  left : (depth : ℕ) → ItemsLeft depth l.initial.reader (map string (map string_bytes l.strings.items)) l.reader;
  next : TextsAreNext l.initial.reader → TextsAreNext l.reader;
}

abbrev pub decreases-strings : goal.decreases-strings
decreases-strings l = length l.reader
