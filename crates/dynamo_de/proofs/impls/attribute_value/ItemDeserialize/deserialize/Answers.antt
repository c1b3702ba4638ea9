use Rattle.std.proofs.Common.{rules, refl}
use Rattle.dynamo_value.specs.Item.{item_view}
use Rattle.dynamo_value.specs.Table.{Table}
use Rattle.dynamo_value.specs.View.{members_view}
use Rattle.dynamo_de.proofs.Attributes.{item_of_entries, item_stops}
use Rattle.dynamo_de.proofs.Promises.{value_read, refused_alike}
use Rattle.dynamo_de.proofs.impls.attribute_value.ItemDeserialize.deserialize.Goals as goal

pub returns-in_err-entries : goal.returns-in_err-entries
returns-in_err-entries g c =
    let stop = item_stops g.D.Reader.entries item_view (g.D.Reader.source c.args.deserializer) (g.D.Error.Error.fault c.in_err-entries.field-0.0) c.in_err-entries.ensures in
    search rules

pub returns-in_err-read_members : goal.returns-in_err-read_members
returns-in_err-read_members g c =
    let same = item_of_entries g.D.Reader.entries (g.D.Reader.source c.args.deserializer) c.in_ok-entries.entries (search rules) in
    let refused = refused_alike (λ (m : Table). members_view m.entries) item_view _ _ (g.D.Error.Error.fault c.in_err-read_members.field-0.0) same c.in_err-read_members.ensures in
    search rules

pub returns : goal.returns
returns g c =
    let same = item_of_entries g.D.Reader.entries (g.D.Reader.source c.args.deserializer) c.in_ok-entries.entries (search rules) in
    let members = value_read (λ (m : Table). members_view m.entries) _ c.in_ok-read_members.field-0 c.in_ok-read_members.ensures in
    rw (same, members, ← c.from.ensures) refl
