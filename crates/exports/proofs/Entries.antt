-- Tables of an object, one member after another.
use Rattle.std.proofs.Common.{◌≡◌, ℕ, List, [], ◌∷◌, ◌++◌, map, sym, Result, Ok, Err, refl, ap, ◌∙◌, string_bytes}
use Rattle.serde_json.specs.View as sj
use Rattle.serde_json.proofs.Views.{Entry}
use Rattle.dynamo_value.specs.Fault.{Fault}
use Rattle.dynamo_value.specs.Refusal.{Refusal, Refused, refusal_in}
use Rattle.dynamo_value.specs.Steps.{◌>>=◌}
use Rattle.dynamo_json.proofs.Each.{each, refused_as}
use Rattle.std.proofs.Common.{String, Vec, Global}
use Rattle.exports.specs.Requests.{Asked, asked, asked_of_table, requests_in, tables_in}
use Rattle.exports.specs.declared.requests.Request.{Request}
use Rattle.exports.specs.declared.requests.TableRequests.{TableRequests}

abbrev pub table_in : Entry → Result (List ℕ × List Asked) Refusal
table_in e = requests_in (sj.view e.1) >>= λ here. Ok (string_bytes e.0, here)

joined : (name : List ℕ) (first : Result (List Asked) Refusal) (rest : Result (List (List ℕ × List Asked)) Refusal)
    → (first >>= λ here. rest >>= λ more. Ok ((name, here) ∷ more)) ≡ ((first >>= λ here. Ok (name, here)) >>= λ t. rest >>= λ more. Ok (t ∷ more))
joined name (Err e) rest = refl
joined name (Ok here) (Err e) = refl
joined name (Ok here) (Ok more) = refl

pub tables_each : (es : List Entry) → tables_in (sj.members_view es) ≡ each table_in es
tables_each [] = refl
tables_each (e ∷ es) = ap (λ r. requests_in (sj.view e.1) >>= λ here. r >>= λ more. Ok ((string_bytes e.0, here) ∷ more)) (tables_each es) ∙ joined (string_bytes e.0) (requests_in (sj.view e.1)) (each table_in es)

pub table_refused : (e : Entry) (g : Fault) → Refused (refusal_in (requests_in (sj.view e.1))) g → Refused (refusal_in (table_in e)) g
table_refused e g = refused_as (requests_in (sj.view e.1)) (table_in e) g (λ x k. rw k refl)

-- one more table, under its name
pub seen_last : (ts : List TableRequests) (table : String Global) (requests : Vec Request Global) (name : List ℕ) → string_bytes table ≡ name
    → map asked_of_table ts ++ (name, map asked requests.items) ∷ [] ≡ map asked_of_table (ts ++ record { table = table; requests = requests } ∷ [])
seen_last [] table requests name is = ap (λ n. (n, map asked requests.items) ∷ []) (sym is)
seen_last (t ∷ ts) table requests name is = ap (λ us. asked_of_table t ∷ us) (seen_last ts table requests name is)
