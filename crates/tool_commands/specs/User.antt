-- The datum that a user tells: the struct of its three fields, in this order.
use Rattle.std.specs.Prelude.{ℕ, List, pos, codes, string_bytes}
use Rattle.dynamo_ser.specs.Datum as datum
use Rattle.dynamo_ser.specs.Datum.{Datum}
use Rattle.tool_commands.specs.declared.user.User.{User}

abbrev pub user_datum : List ℕ → List ℕ → ℕ → Datum
user_datum id name age =
    datum.struct (codes "User")
    (datum.field (codes "id") (datum.string id)
    (datum.field (codes "name") (datum.string name)
    (datum.field (codes "age") (datum.integer datum.u8 (pos age)) datum.no_fields)))

abbrev pub user_told : User → Datum
user_told user = user_datum (string_bytes user.id) (string_bytes user.name) user.age
