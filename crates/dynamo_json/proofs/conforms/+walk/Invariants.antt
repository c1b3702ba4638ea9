use Rattle.std.proofs.Common.{◌≡◌, List, ◌++◌, map, take}
use Rattle.dynamo_json.proofs.Common.{AllByRecursion, Entry, HasBytes, MembersHaveBytes, view}
use Rattle.dynamo_json.proofs.Common.{members_view, KeysDiffer}
use Rattle.dynamo_json.proofs.Differ.{EachDiffers}
use Rattle.dynamo_json.proofs.conforms.+walk.Given as goal

abbrev pub invariant-elements-loop-element : goal.invariant-elements-loop-element
invariant-elements-loop-element l =
    let done = take l.element-index l.element-items in
    record {
      bytes : AllByRecursion HasBytes (map view done);
      keys : AllByRecursion KeysDiffer done;
    }

abbrev pub invariant-members-loop-member : goal.invariant-members-loop-member
invariant-members-loop-member l =
    record {
      done : List Entry;
      rest : l.map.entries ≡ done ++ l.member-iterator;
      bytes : MembersHaveBytes (members_view done);
      keys : EachDiffers done;
    }
