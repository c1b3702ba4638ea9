-- What a put on a condition comes to.
use Rattle.std.proofs.Common.{◌⊎◌, ap, inl, inr}
use Rattle.dynamo_value.specs.Fault.{Fault}
use Rattle.dynamo_value.specs.declared.item.Item.{Item}
use Rattle.table_keys.specs.declared.error.TableError.{TableError}
use Rattle.table_keys.specs.declared.condition.Condition.{Condition}
use Rattle.table_memory.specs.Change.{RefusesItem}
use Rattle.table_memory.specs.Content.{schema_of}
use Rattle.table_memory.specs.declared.table.Table.{Table}
use Rattle.table_typed.specs.Stored.{FailsCondition, FailsToPut}
use Rattle.table_typed.specs.declared.error.TypedTableError.{TypedTableError}

-- why the item of a value isn't put, said of the value
pub refused_value : {T : Type 0} (Written : T → Item → Type 0) (Unwritten : T → Fault → Type 0)
    (condition : Condition) (table : Table) (value : T) (item : Item) (e : TableError)
    → Written value item → RefusesItem condition item table e
    → FailsToPut Written Unwritten (schema_of table) value (TypedTableError.Table e)
    ⊎ FailsCondition Written condition table value (TypedTableError.Table e)
refused_value Written Unwritten condition table value item e is (inl reads) = inl (inl (item, is, reads))
refused_value Written Unwritten condition table value item e is (inr (inl lacks)) = inl (inr lacks)
refused_value Written Unwritten condition table value item e is (inr (inr fails)) =
    inr (ap (λ x. TypedTableError.Table x) fails.0, item, is, fails.1)
