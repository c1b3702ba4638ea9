use Rattle.std.proofs.Common.{rules, List, map, Vec, Global, ◌+◌, ◌*◌, ◌<◌, ◌++◌, ◌∷◌, ◌≡◌, Some, Ok, [], ap, sym, subst, ◌∙◌, string_bytes, arith}
use Rattle.std.proofs.lemmas.Result.{err_from_is_err_and}
use Rattle.dynamo_value.specs.Av.{Av}
use Rattle.dynamo_value.specs.declared.attribute_value.AttributeValue.{AttributeValue}
use Rattle.dynamo_value.specs.Table.{Table}
use Rattle.dynamo_value.specs.View.{view, entries_view, members_view}
use Rattle.dynamo_value.proofs.Members.{inserted}
use Rattle.dynamo_de.specs.Answer.{Gives}
use Rattle.dynamo_de.specs.Ignored.{source_height, sources_height}
use Rattle.dynamo_de.specs.Meets.{Meets}
use Rattle.dynamo_de.specs.OpenedView.{opened_view}
use Rattle.dynamo_de.specs.Promises.{Agrees}
use Rattle.dynamo_de.specs.ReadAttribute.{attribute_from, read_each, read_entries}
use Rattle.dynamo_de.specs.Reading.{read_string}
use Rattle.dynamo_de.specs.Shows.{TakesEntry}
use Rattle.dynamo_de.proofs.Attributes.{opened_height, opened_lower, opened_is, opened_stops, TakesOpened, next_lower, next_more, next_stops, next_fails, member_more, member_stops, kept}
use Rattle.dynamo_de.proofs.JsonSteps.{members_lower}
use Rattle.dynamo_de.proofs.Promises.{EachFrom}
use Rattle.dynamo_de.proofs.impls.attribute_value.+read.Goals as goal

-- what a vector of attribute values stands for
abbrev values_of : Vec AttributeValue Global → List Av
values_of v = map view v.items

pub read-returns-in_err-opened : goal.read-returns-in_err-opened
read-returns-in_err-opened g t c =
    let handed_on = err_from_is_err_and c.from_residual.result c.from_residual.ensures.1 in
    rw (handed_on.1, handed_on.2) (opened_stops (opened_view g.R.Reader.elements g.R.Reader.entries) (g.R.Reader.source c.args.reader) (g.R.Error.Error.fault c.in_err-opened.field-0.0) c.in_err-opened.ensures)

pub read-read_opened-requires : goal.read-read_opened-requires
read-read_opened-requires g t c κs within =
    let seen = opened_view g.R.Reader.elements g.R.Reader.entries in
    let s = g.R.Reader.source c.args.reader in
    let lower = opened_lower seen s c.in_ok-opened.opened c.in_ok-opened.ensures in
    let falls : 3 * opened_height (seen c.in_ok-opened.opened) + 2 < 3 * source_height s = omega (arith, lower) in
    search rules

pub read-returns : goal.read-returns
read-returns g t c =
    let same = opened_is (opened_view g.R.Reader.elements g.R.Reader.entries) (g.R.Reader.source c.args.reader) c.in_ok-opened.opened c.in_ok-opened.ensures in
    subst (λ x. Meets g.R.Error.Error.fault (Agrees view x) c.read_opened.result) (sym same) c.read_opened.ensures

pub read_elements-returns-in_err-opened : goal.read_elements-returns-in_err-opened
read_elements-returns-in_err-opened g t c =
    let seen = opened_view g.R.Reader.elements g.R.Reader.entries in
    let handed_on = err_from_is_err_and c.from_residual.result c.from_residual.ensures.1 in
    rw (handed_on.1, handed_on.2) (next_stops g.R.Error.Error.fault seen (read_each attribute_from (g.R.Reader.elements c.args.elements)) c.loop-values.values.items values_of
    (g.R.Reader.elements c.loop-values.elements) (g.R.Reader.elements c.open_next.new.elements) c.in_err-opened.field-0.0 c.in_err-opened.ensures c.loop-values.invariant.1)

pub read_elements-read_opened-requires : goal.read_elements-read_opened-requires
read_elements-read_opened-requires g t c κs within =
    let seen = opened_view g.R.Reader.elements g.R.Reader.entries in
    let left = g.R.Reader.elements c.loop-values.elements in
    let new = g.R.Reader.elements c.open_next.new.elements in
    let taken = subst (λ o. TakesOpened g.R.Error.Error.fault seen left new (Ok o)) c.in-Some.is c.in_ok-opened.ensures in
    let lower = next_lower g.R.Error.Error.fault seen left new c.in-Some.opened taken in
    let falls : 3 * opened_height (seen c.in-Some.opened) + 2 < 3 * sources_height (g.R.Reader.elements c.args.elements) + 1 = omega (arith, lower.0, c.loop-values.invariant.0) in
    search rules

pub read_elements-returns-in_err-value : goal.read_elements-returns-in_err-value
read_elements-returns-in_err-value g t c =
    let seen = opened_view g.R.Reader.elements g.R.Reader.entries in
    let left = g.R.Reader.elements c.loop-values.elements in
    let new = g.R.Reader.elements c.open_next.new.elements in
    let taken = subst (λ o. TakesOpened g.R.Error.Error.fault seen left new (Ok o)) c.in-Some.is c.in_ok-opened.ensures in
    let handed_on = err_from_is_err_and c.from_residual-in_err-value.result c.from_residual-in_err-value.ensures.1 in
    rw (handed_on.1, handed_on.2) (next_fails g.R.Error.Error.fault seen (read_each attribute_from (g.R.Reader.elements c.args.elements)) c.loop-values.values.items values_of
    left new c.in-Some.opened (g.R.Error.Error.fault c.in_err-value.field-0.0) taken c.loop-values.invariant.1 c.in_err-value.ensures)

pub read_elements-loop-values-preserved : goal.read_elements-loop-values-preserved
read_elements-loop-values-preserved g t c =
    let seen = opened_view g.R.Reader.elements g.R.Reader.entries in
    let left = g.R.Reader.elements c.loop-values.elements in
    let new = g.R.Reader.elements c.open_next.new.elements in
    let values = c.loop-values.values.items in
    let taken = subst (λ o. TakesOpened g.R.Error.Error.fault seen left new (Ok o)) c.in-Some.is c.in_ok-opened.ensures in
    let lower = next_lower g.R.Error.Error.fault seen left new c.in-Some.opened taken in
    let pushed : c.push.new.self.items ≡ values ++ c.in_ok-value.value ∷ [] = search rules in (
      omega (arith, lower.1, c.loop-values.invariant.0),
      ap (λ vs. EachFrom view attribute_from vs new) pushed
          ∙ next_more g.R.Error.Error.fault seen (read_each attribute_from (g.R.Reader.elements c.args.elements)) values c.in_ok-value.value left new c.in-Some.opened taken c.loop-values.invariant.1 c.in_ok-value.ensures,
    )

pub read_members-returns-in_err-member : goal.read_members-returns-in_err-member
read_members-returns-in_err-member g t c =
    let left = g.R.Reader.entries c.loop-key.entries in
    let new = g.R.Reader.entries c.next_entry.new.rest in
    let taken : TakesEntry g.R.Reader.source left new (Some (c.in-Some.key, c.in-Some.value)) = search rules in
    let stop = member_stops g.R.Reader.source g.R.Reader.entries (λ (m : Table). members_view m.entries) (read_entries [] (g.R.Reader.entries c.args.entries)) (entries_view c.loop-key.members.entries)
    left new (c.in-Some.key, c.in-Some.value) (g.R.Error.Error.fault c.in_err-member.field-0.0) taken c.loop-key.invariant.1 c.in_err-member.ensures in
    search rules

pub read_members-loop-key-preserved : goal.read_members-loop-key-preserved
read_members-loop-key-preserved g t c =
    let left = g.R.Reader.entries c.loop-key.entries in
    let new = g.R.Reader.entries c.next_entry.new.rest in
    let taken : TakesEntry g.R.Reader.source left new (Some (c.in-Some.key, c.in-Some.value)) = search rules in
    let lower = members_lower g.R.Reader.source left new (c.in-Some.key, c.in-Some.value) taken in
    let named : Gives string_bytes (read_string (g.R.Reader.source c.in-Some.key)) (Ok c.in_ok-name.name) = search rules in
    let agrees : Agrees view (attribute_from (g.R.Reader.source c.in-Some.value)) (Ok c.in_ok-member.member) = search rules in
    let held = inserted c.loop-key.members c.insert.new.self c.in_ok-name.name c.in_ok-member.member (kept c.insert.result (sym c.is_err.ensures.value ∙ c.if-is_err.false) c.insert.ensures.updates) in (
      omega (arith, lower.1, c.loop-key.invariant.0),
      ap (λ es. read_entries es new) held
          ∙ member_more g.R.Reader.source g.R.Reader.entries (read_entries [] (g.R.Reader.entries c.args.entries)) (entries_view c.loop-key.members.entries) c.in_ok-name.name c.in_ok-member.member left new (c.in-Some.key, c.in-Some.value) taken
          c.loop-key.invariant.1 named agrees,
    )
