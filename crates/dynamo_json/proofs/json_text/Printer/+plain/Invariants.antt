use Rattle.std.proofs.Common.{◌≡◌, drop}
use Rattle.dynamo_json.proofs.Common.{view, elements_view, members_view, lent_view}
use Rattle.dynamo_json.proofs.Unstored.{elements_behind, members_behind}
use Rattle.dynamo_json.proofs.Weight.{weight, elements_weight, members_weight}
use Rattle.dynamo_json.proofs.json_text.Printer.+plain.Given as goal

abbrev pub decreases-plain : goal.decreases-plain
decreases-plain l = weight (view l.value.now)

abbrev pub decreases-plain_members : goal.decreases-plain_members
decreases-plain_members l = members_weight (members_view l.map.now.entries)

abbrev pub decreases-plain_elements : goal.decreases-plain_elements
decreases-plain_elements l = elements_weight (elements_view l.list.now.items)

abbrev pub invariant-plain_elements-loop-element : goal.invariant-plain_elements-loop-element
invariant-plain_elements-loop-element l =
    record {
      tokens : elements_behind l.self.out.tokens (elements_view (drop l.element-index l.element-items))
          ≡ elements_behind l.initial.self.out.tokens (elements_view l.element-items);
      before : l.self.out.before ≡ l.initial.self.out.before;
    }

abbrev pub invariant-plain_members-loop-member : goal.invariant-plain_members-loop-member
invariant-plain_members-loop-member l =
    record {
      tokens : members_behind l.self.out.tokens (lent_view (drop l.member-index l.member-items))
          ≡ members_behind l.initial.self.out.tokens (lent_view l.member-items);
      before : l.self.out.before ≡ l.initial.self.out.before;
    }
