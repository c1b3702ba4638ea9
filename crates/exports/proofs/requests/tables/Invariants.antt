use Rattle.std.proofs.Common.{◌≡◌, List, ◌++◌, Ok, map}
use Rattle.serde_json.proofs.Views.{Entry}
use Rattle.dynamo_json.proofs.Each.{each}
use Rattle.exports.specs.Requests.{asked_of_table}
use Rattle.exports.proofs.Entries.{table_in}
use Rattle.exports.proofs.requests.tables.Given as goal

abbrev pub invariant-loop-name : goal.invariant-loop-name
invariant-loop-name l =
    (done : List Entry) × (l.object.entries ≡ done ++ l.name-iterator) × (each table_in done ≡ Ok (map asked_of_table l.tables.items))
