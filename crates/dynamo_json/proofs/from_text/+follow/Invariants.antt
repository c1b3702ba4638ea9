use Rattle.std.proofs.Common.{◌+◌, ◌*◌, length, map}
use Rattle.dynamo_json.proofs.Common.{AllByRecursion, HasBytes, MembersHaveBytes, view}
use Rattle.dynamo_json.proofs.Common.{members_view, ElementsAreNext, MembersAreNext, json_of}
use Rattle.dynamo_json.proofs.Common.{members_json}
use Rattle.dynamo_json.proofs.InText.{ItemsLeft, MembersLeft}
use Rattle.dynamo_json.proofs.from_text.+follow.Given as goal

abbrev pub decreases-value : goal.decreases-value
decreases-value l = 3 * l.depth

abbrev pub decreases-content : goal.decreases-content
decreases-content l = 3 * l.depth + 2

abbrev pub decreases-members : goal.decreases-members
decreases-members l = 3 * l.depth + 1

abbrev pub decreases-elements : goal.decreases-elements
decreases-elements l = 3 * l.depth + 1

abbrev pub invariant-members-members : goal.invariant-members-members
invariant-members-members l =
    let ms = members_view l.map.entries in
    record {
      left : MembersLeft l.depth l.initial.reader (members_json ms) l.reader;
      bytes : MembersHaveBytes ms;
      next : MembersAreNext l.depth l.initial.reader → MembersAreNext l.depth l.reader;
    }

abbrev pub decreases-members-members : goal.decreases-members-members
decreases-members-members l = length l.reader

abbrev pub invariant-elements-elements : goal.invariant-elements-elements
invariant-elements-elements l =
    let as' = map view l.elements.items in
    record {
      left : ItemsLeft l.depth l.initial.reader (map json_of as') l.reader;
      bytes : AllByRecursion HasBytes as';
      next : ElementsAreNext l.depth l.initial.reader → ElementsAreNext l.depth l.reader;
    }

abbrev pub decreases-elements-elements : goal.decreases-elements-elements
decreases-elements-elements l = length l.reader
