use Rattle.std.proofs.Common.{rules, ◌≡◌, [], ◌∷◌, ◌++◌, Ok, Some, string_bytes, string_cmp, arith}
use Rattle.std.specs.BTreeMap.{insert_entry}
use Rattle.serde_json.specs.Data as json
use Rattle.serde_json.specs.View.{view}
use Rattle.dynamo_de.specs.Answer.{Gives}
use Rattle.dynamo_de.specs.ReadJson.{read_json, read_sources, read_entries}
use Rattle.dynamo_de.specs.Reading.{read_string}
use Rattle.dynamo_de.specs.Shows.{TakesEntry}
use Rattle.dynamo_de.specs.declared.showing.Showing.TheVariants as showing_of
use Rattle.dynamo_de.proofs.Json.{items_fall, members_fall, content_falls}
use Rattle.dynamo_de.proofs.JsonSteps.{shown_given, array_given, object_given, items_step, items_lower, items_end, members_step, members_lower}
use Rattle.dynamo_de.proofs.impls.json.+read.Goals as goal

pub read-read-requires : goal.read-read-requires
read-read-requires g t c κs within =
    let lower = content_falls g.R.Reader.source g.R.Reader.elements g.R.Reader.entries g.R.Reader.chosen (g.R.Reader.source c.args.reader) c.in_ok-other.other c.in-Some.content (search rules) c.in-Some.is in
    search rules

pub read-read_elements-requires : goal.read-read_elements-requires
read-read_elements-requires g t c κs within =
    let lower = items_fall g.R.Reader.source g.R.Reader.elements g.R.Reader.entries g.R.Reader.chosen (g.R.Reader.source c.args.reader) c.in_ok-other.other c.in-Sequence.elements (search rules) c.in-Sequence.is in
    search rules

pub read-read_members-requires : goal.read-read_members-requires
read-read_members-requires g t c κs within =
    let lower = members_fall g.R.Reader.source g.R.Reader.elements g.R.Reader.entries g.R.Reader.chosen (g.R.Reader.source c.args.reader) c.in_ok-other.other c.in-Map.entries (search rules) c.in-Map.is in
    search rules

pub read-returns-in_ok-read_elements-in-Sequence : goal.read-returns-in_ok-read_elements-in-Sequence
read-returns-in_ok-read_elements-in-Sequence g t c = shown_given g.R.Reader.source g.R.Reader.elements g.R.Reader.entries g.R.Reader.chosen (g.R.Reader.source c.args.reader) c.in_ok-other.other (showing_of.Sequence c.in-Sequence.elements) _ (search rules) c.in-Sequence.is
    (array_given _ c.in_ok-read_elements-in-Sequence.field-0 (search rules))

pub read-returns-in_ok-read_members-in-Map : goal.read-returns-in_ok-read_members-in-Map
read-returns-in_ok-read_members-in-Map g t c = shown_given g.R.Reader.source g.R.Reader.elements g.R.Reader.entries g.R.Reader.chosen (g.R.Reader.source c.args.reader) c.in_ok-other.other (showing_of.Map c.in-Map.entries) _ (search rules) c.in-Map.is
    (object_given _ c.in_ok-read_members-in-Map.field-0 (search rules))

pub read_elements-loop-element-preserved : goal.read_elements-loop-element-preserved
read_elements-loop-element-preserved g t c =
    let left = g.R.Reader.elements c.loop-element.elements in
    let new = g.R.Reader.elements c.next_element.new.rest in
    let lower = items_lower g.R.Reader.source left new c.in-Some.element c.in-Some.ensures.taken in
    let given : Gives view (read_json (g.R.Reader.source c.in-Some.element)) (Ok c.in_ok-item.item) = search rules in
    let pushed : c.push.new.self.items ≡ c.loop-element.items.items ++ c.in_ok-item.item ∷ [] = search rules in (
      omega (arith, lower.1, c.loop-element.invariant.0),
      items_step g.R.Reader.source (read_sources (g.R.Reader.elements c.args.elements)) c.loop-element.items.items c.push.new.self.items c.in_ok-item.item left new c.in-Some.element c.in-Some.ensures.taken pushed c.loop-element.invariant.1 given,
    )

pub read_elements-returns : goal.read_elements-returns
read_elements-returns g t c = items_end g.R.Reader.source _ c.loop-element.items (g.R.Reader.elements c.loop-element.elements) _ c.in_default.ensures.taken c.loop-element.invariant.1

pub read_members-loop-key-preserved : goal.read_members-loop-key-preserved
read_members-loop-key-preserved g t c =
    let left = g.R.Reader.entries c.loop-key.entries in
    let new = g.R.Reader.entries c.next_entry.new.rest in
    let taken : TakesEntry g.R.Reader.source left new (Some (c.in-Some.key, c.in-Some.value)) = search rules in
    let lower = members_lower g.R.Reader.source left new (c.in-Some.key, c.in-Some.value) taken in
    let named : Gives string_bytes (read_string (g.R.Reader.source c.in-Some.key)) (Ok c.in_ok-name.name) = search rules in
    let given : Gives view (read_json (g.R.Reader.source c.in-Some.value)) (Ok c.in_ok-member.member) = search rules in
    let inserted : c.insert.new.self.entries ≡ insert_entry string_cmp c.loop-key.members.entries c.in_ok-name.name c.in_ok-member.member = search rules in (
      omega (arith, lower.1, c.loop-key.invariant.0),
      members_step g.R.Reader.source (read_entries json.no_members (g.R.Reader.entries c.args.entries)) c.loop-key.members.entries c.insert.new.self.entries c.in_ok-name.name c.in_ok-member.member left new (c.in-Some.key, c.in-Some.value) taken inserted c.loop-key.invariant.1 named given,
    )
