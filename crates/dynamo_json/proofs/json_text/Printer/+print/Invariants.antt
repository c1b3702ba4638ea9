use Rattle.std.proofs.Common.{◌≡◌, ◌++◌, drop}
use Rattle.dynamo_json.proofs.Common.{view, elements_view, members_view}
use Rattle.dynamo_json.proofs.Rest.{elements_left, members_left}
use Rattle.dynamo_json.proofs.Weight.{weight, elements_weight, members_weight}
use Rattle.dynamo_json.proofs.json_text.Printer.+print.Given as goal

abbrev pub decreases-value : goal.decreases-value
decreases-value l = weight (view l.value.now)

abbrev pub decreases-object : goal.decreases-object
decreases-object l = members_weight (members_view l.map.now.entries)

abbrev pub decreases-elements : goal.decreases-elements
decreases-elements l = elements_weight (elements_view l.list.now.items)

abbrev pub invariant-elements-loop-element : goal.invariant-elements-loop-element
invariant-elements-loop-element l =
    record {
      tokens : l.self.out.tokens ++ elements_left (drop l.element-index l.element-items) ≡ l.initial.self.out.tokens ++ elements_left l.element-items;
      before : l.self.out.before ≡ l.initial.self.out.before;
    }

abbrev pub invariant-object-loop-member : goal.invariant-object-loop-member
invariant-object-loop-member l =
    record {
      tokens : l.self.out.tokens ++ members_left (drop l.member-index l.member-items) ≡ l.initial.self.out.tokens ++ members_left l.member-items;
      before : l.self.out.before ≡ l.initial.self.out.before;
    }
