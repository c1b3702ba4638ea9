use Rattle.std.proofs.Common.{◌≡◌, List, ◌++◌, Ok, map, take}
use Rattle.dynamo_json.proofs.Common.{view, entries_view}
use Rattle.serde_json.proofs.Views.{Entry}
use Rattle.dynamo_json.proofs.Each.{each}
use Rattle.dynamo_json.proofs.Reading.{value_in, member_in}
use Rattle.dynamo_json.proofs.from_json.+read.Given as goal

abbrev pub invariant-elements-loop-json : goal.invariant-elements-loop-json
invariant-elements-loop-json l = each value_in (take l.json-index l.json-items) ≡ Ok (map view l.elements.items)

abbrev pub invariant-members-loop-key : goal.invariant-members-loop-key
invariant-members-loop-key l =
    (done : List Entry) × (l.object.entries ≡ done ++ l.key-iterator) × (each member_in done ≡ Ok (entries_view l.map.entries))
