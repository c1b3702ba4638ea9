use Rattle.std.proofs.Common.{◌≡◌, List, ◌++◌, map, take}
use Rattle.dynamo_json.proofs.Common.{AllByRecursion, Entry, HasBytes, MembersHaveBytes, view}
use Rattle.dynamo_json.proofs.Common.{members_view, json_of, members_json, KeysDiffer}
use Rattle.serde_json.specs.View as sj
use Rattle.dynamo_json.proofs.Differ.{EachDiffers}
use Rattle.dynamo_json.proofs.to_json.+write.Given as goal

abbrev pub invariant-array-loop-element : goal.invariant-array-loop-element
invariant-array-loop-element l =
    let done = map view (take l.element-index l.element-items) in
    record {
      json : map sj.view l.array.items ≡ map json_of done;
      bytes : AllByRecursion HasBytes done;
      keys : AllByRecursion KeysDiffer (take l.element-index l.element-items);
    }

abbrev pub invariant-object-loop-key : goal.invariant-object-loop-key
invariant-object-loop-key l =
    record {
      done : List Entry;
      rest : l.map.entries ≡ done ++ l.key-iterator;
      json : sj.members_view l.object.entries ≡ members_json (members_view done);
      bytes : MembersHaveBytes (members_view done);
      keys : EachDiffers done;
    }
