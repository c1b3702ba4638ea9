use Rattle.std.proofs.Common.{rules, ℕ, Option, Some, Ok, Err, String, Global}
use Rattle.std.proofs.lemmas.Result.{err_from_is_err_and}
use Rattle.std.specs.Prelude.{option_map}
use Rattle.dynamo_de.specs.Access.{NextKey, NextValue}
use Rattle.dynamo_de.specs.Fields.{NamesOne}
use Rattle.example_types.specs.GaugeShape.{told_id, told_reading, gauge_field}
use Rattle.example_types.specs.declared.by_hand.Field.{Field}
use Rattle.example_types.proofs.GaugeFields.{ReadsId, ReadsReading, id_read, id_refused, reading_read, reading_refused}
use Rattle.example_types.proofs.by_hand.GaugeVisitorVisitor.visit_map.Goals as goal

pub loop-id-preserved-in-Id : goal.loop-id-preserved-in-Id
loop-id-preserved-in-Id g c =
    let key : NextKey g.A.Error.Error.fault (NamesOne gauge_field) (g.A.MapAccess.left c.loop-id.map) (g.A.MapAccess.left c.next_key.new.self) (Ok (Some Field.Id)) = search rules in
    let value : NextValue g.A.Error.Error.fault ReadsId (g.A.MapAccess.left c.next_key.new.self) (g.A.MapAccess.left c.next_value.new.self) (Ok c.in_ok-next_value-in-Id.field-0) = search rules in
    id_read g.A.Error.Error.fault (g.A.MapAccess.left c.args.map).entries (g.A.MapAccess.left c.loop-id.map) (g.A.MapAccess.left c.next_key.new.self) (option_map told_id c.loop-id.id) (option_map told_reading c.loop-id.reading) (g.A.MapAccess.left c.next_value.new.self) c.in_ok-next_value-in-Id.field-0 c.loop-id.invariant key value

pub returns-in_err-next_value-in-Id : goal.returns-in_err-next_value-in-Id
returns-in_err-next_value-in-Id g c =
    let p = err_from_is_err_and c.from_residual-in_err-next_value-in-Id.result c.from_residual-in_err-next_value-in-Id.ensures.1 in
    let key : NextKey g.A.Error.Error.fault (NamesOne gauge_field) (g.A.MapAccess.left c.loop-id.map) (g.A.MapAccess.left c.next_key.new.self) (Ok (Some Field.Id)) = search rules in
    let value : NextValue {V = String Global} g.A.Error.Error.fault ReadsId (g.A.MapAccess.left c.next_key.new.self) (g.A.MapAccess.left c.next_value.new.self) (Err c.in_err-next_value-in-Id.field-0.0) = search rules in
    λ _. rw (p.1, p.2) (id_refused g.A.Error.Error.fault (g.A.MapAccess.left c.args.map).entries (g.A.MapAccess.left c.loop-id.map) (g.A.MapAccess.left c.next_key.new.self) (option_map told_id c.loop-id.id) (option_map told_reading c.loop-id.reading) (g.A.MapAccess.left c.next_value.new.self) c.in_err-next_value-in-Id.field-0.0 c.loop-id.invariant key value)

pub loop-id-preserved-in-Reading : goal.loop-id-preserved-in-Reading
loop-id-preserved-in-Reading g c =
    let key : NextKey g.A.Error.Error.fault (NamesOne gauge_field) (g.A.MapAccess.left c.loop-id.map) (g.A.MapAccess.left c.next_key.new.self) (Ok (Some Field.Reading)) = search rules in
    let value : NextValue g.A.Error.Error.fault ReadsReading (g.A.MapAccess.left c.next_key.new.self) (g.A.MapAccess.left c.next_value-in-Reading.new.self) (Ok c.in_ok-next_value-in-Reading.field-0) = search rules in
    reading_read g.A.Error.Error.fault (g.A.MapAccess.left c.args.map).entries (g.A.MapAccess.left c.loop-id.map) (g.A.MapAccess.left c.next_key.new.self) (option_map told_id c.loop-id.id) (option_map told_reading c.loop-id.reading) (g.A.MapAccess.left c.next_value-in-Reading.new.self) c.in_ok-next_value-in-Reading.field-0 c.loop-id.invariant key value

pub returns-in_err-next_value-in-Reading : goal.returns-in_err-next_value-in-Reading
returns-in_err-next_value-in-Reading g c =
    let p = err_from_is_err_and c.from_residual-in_err-next_value-in-Reading.result c.from_residual-in_err-next_value-in-Reading.ensures.1 in
    let key : NextKey g.A.Error.Error.fault (NamesOne gauge_field) (g.A.MapAccess.left c.loop-id.map) (g.A.MapAccess.left c.next_key.new.self) (Ok (Some Field.Reading)) = search rules in
    let value : NextValue {V = Option ℕ} g.A.Error.Error.fault ReadsReading (g.A.MapAccess.left c.next_key.new.self) (g.A.MapAccess.left c.next_value-in-Reading.new.self) (Err c.in_err-next_value-in-Reading.field-0.0) = search rules in
    λ _. rw (p.1, p.2) (reading_refused g.A.Error.Error.fault (g.A.MapAccess.left c.args.map).entries (g.A.MapAccess.left c.loop-id.map) (g.A.MapAccess.left c.next_key.new.self) (option_map told_id c.loop-id.id) (option_map told_reading c.loop-id.reading) (g.A.MapAccess.left c.next_value-in-Reading.new.self) c.in_err-next_value-in-Reading.field-0.0 c.loop-id.invariant key value)
