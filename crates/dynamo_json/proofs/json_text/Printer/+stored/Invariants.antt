use Rattle.std.proofs.Common.{◌≡◌, drop}
use Rattle.dynamo_json.proofs.Common.{items_view, stored_items}
use Rattle.serde_json.specs.View.{members_view}
use Rattle.dynamo_json.proofs.Stored.{stored_pairs}
use Rattle.dynamo_json.proofs.json_text.Printer.+stored.Given as goal

abbrev pub invariant-stored_items-loop-json : goal.invariant-stored_items-loop-json
invariant-stored_items-loop-json l =
    record {
      tokens : stored_items l.self.out.tokens (items_view (drop l.json-index l.json-items))
          ≡ stored_items l.initial.self.out.tokens (items_view l.json-items);
      before : l.self.out.before ≡ l.initial.self.out.before;
    }

abbrev pub invariant-stored_members-loop-key : goal.invariant-stored_members-loop-key
invariant-stored_members-loop-key l =
    record {
      tokens : stored_pairs l.self.out.tokens (members_view l.key-iterator) ≡ stored_pairs l.initial.self.out.tokens (members_view l.members.entries);
      before : l.self.out.before ≡ l.initial.self.out.before;
    }
