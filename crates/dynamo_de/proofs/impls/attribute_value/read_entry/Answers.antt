use Rattle.std.proofs.Common.{rules, ◌≡◌, Some, None, string_bytes}
use Rattle.std.proofs.lemmas.Result.{err_from_is_err_and}
use Rattle.dynamo_value.specs.Kind.{fault_of}
use Rattle.dynamo_value.specs.Prefix.{prefix_of}
use Rattle.dynamo_value.specs.PrefixView.{prefix_view}
use Rattle.dynamo_de.specs.ReadAttribute.{entry_from}
use Rattle.dynamo_de.specs.Shows.{TakesEntry}
use Rattle.dynamo_de.proofs.Attributes.{entry_seen, none_entered, several_refused, unknown_refused, one_entry}
use Rattle.dynamo_de.proofs.Promises.{value_agrees}
use Rattle.dynamo_de.proofs.impls.attribute_value.read_entry.Goals as goal

pub returns-in_err-entries : goal.returns-in_err-entries
returns-in_err-entries g c =
    let handed_on = err_from_is_err_and c.from_residual.result c.from_residual.ensures.1 in
    rw (handed_on.1, handed_on.2) (none_entered g.R.Reader.entries (entry_seen g.R.Reader.source) (g.R.Reader.source c.args.reader) (g.R.Error.Error.fault c.in_err-entries.field-0.0) c.in_err-entries.ensures)

pub returns-then-is_some : goal.returns-then-is_some
returns-then-is_some g c =
    let first : TakesEntry g.R.Reader.source (g.R.Reader.entries c.in_ok-entries.entries) (g.R.Reader.entries c.next_entry.new.rest) (Some (c.in-Some.key, c.in-Some.content)) = search rules in
    several_refused g.R.Reader.source g.R.Reader.entries (entry_seen g.R.Reader.source) (g.R.Reader.source c.args.reader) c.in_ok-entries.entries _ _ (c.in-Some.key, c.in-Some.content) c.next_entry-2.result (fault_of c.several_keys.result) _
    (search rules) first c.next_entry-2.ensures (search rules) c.several_keys.ensures c.told-then-is_some.ensures

pub returns-in-Some-named : goal.returns-in-Some-named
returns-in-Some-named g c =
    let s = g.R.Reader.source c.args.reader in
    let seen = entry_seen g.R.Reader.source in
    let first : TakesEntry g.R.Reader.source (g.R.Reader.entries c.in_ok-entries.entries) (g.R.Reader.entries c.next_entry.new.rest) (Some (c.in-Some.key, c.in-Some.content)) = search rules in
    let last : TakesEntry g.R.Reader.source (g.R.Reader.entries c.next_entry.new.rest) (g.R.Reader.entries c.next_entry-2.new.rest) None = search rules in
    let known : prefix_of (string_bytes c.in_ok-key.key) ≡ Some (prefix_view c.in-Some-named.prefix) = search rules in
    let same = one_entry g.R.Reader.source g.R.Reader.entries s c.in_ok-entries.entries _ _ (c.in-Some.key, c.in-Some.content) c.in_ok-key.key
    (prefix_view c.in-Some-named.prefix) (search rules) first last (search rules) known in
    value_agrees seen (entry_from s) (c.in-Some-named.prefix, c.in-Some.content) same

pub returns : goal.returns
returns g c =
    let first : TakesEntry g.R.Reader.source (g.R.Reader.entries c.in_ok-entries.entries) (g.R.Reader.entries c.next_entry.new.rest) (Some (c.in-Some.key, c.in-Some.content)) = search rules in
    let last : TakesEntry g.R.Reader.source (g.R.Reader.entries c.next_entry.new.rest) (g.R.Reader.entries c.next_entry-2.new.rest) None = search rules in
    unknown_refused g.R.Reader.source g.R.Reader.entries (entry_seen g.R.Reader.source) (g.R.Reader.source c.args.reader) c.in_ok-entries.entries _ _ (c.in-Some.key, c.in-Some.content) c.in_ok-key.key (fault_of c.unknown_key.result) _
    (search rules) first last (search rules) (search rules) (search rules) c.told-in-None.ensures
