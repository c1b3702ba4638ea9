-- The attributes of a user's item.
use Rattle.std.proofs.Common.{◌≡◌, ℕ, List, [], ◌∷◌, ◌++◌, Ok, Option, Some, append_assoc}
use Rattle.std.specs.Prelude.{option_map, codes}
use Rattle.std.specs.Fmt.{decimal}
use Rattle.std.specs.HashMap.{get_by_text}
use Rattle.dynamo_value.specs.Av as av
use Rattle.dynamo_value.specs.Av.{Av, members_of}
use Rattle.dynamo_value.specs.Item.{map_of}
use Rattle.dynamo_value.specs.View.{view, members_view}
use Rattle.dynamo_value.specs.declared.item.Item.{Item}
use Rattle.dynamo_value.proofs.Members.{found_at}
use Rattle.dynamo_write.specs.Written.{item_written}
use Rattle.tool_commands.specs.Lines.{field_line, line_at, user_lines}
use Rattle.tool_commands.specs.User.{user_datum}

abbrev user_entries : List ℕ → List ℕ → ℕ → List (List ℕ × Av)
user_entries id name age = (codes "age", av.N (decimal age)) ∷ (codes "id", av.S id) ∷ (codes "name", av.S name) ∷ []

-- what each of the three names finds
pub user_attributes : (item : Item) (id name : List ℕ) (age : ℕ) → item_written (user_datum id name age) ≡ Ok (members_view (map_of item).entries)
    → (option_map view (get_by_text (map_of item) (codes "age")) ≡ Some (av.N (decimal age)))
    × (option_map view (get_by_text (map_of item) (codes "id")) ≡ Some (av.S id))
    × (option_map view (get_by_text (map_of item) (codes "name")) ≡ Some (av.S name))
user_attributes item id name age is =
    let members : members_view (map_of item).entries ≡ members_of (user_entries id name age) = cc in (
      found_at (map_of item) (user_entries id name age) members (codes "age"),
      found_at (map_of item) (user_entries id name age) members (codes "id"),
      found_at (map_of item) (user_entries id name age) members (codes "name"),
    )

-- three lines, one after another
pub three_lines : (id name : List ℕ) (age : ℕ) (l k m n : List ℕ) (a i s : Option Av)
    → l ≡ [] → k ≡ l ++ line_at (codes "age") a → m ≡ k ++ line_at (codes "id") i → n ≡ m ++ line_at (codes "name") s
    → a ≡ Some (av.N (decimal age)) → i ≡ Some (av.S id) → s ≡ Some (av.S name) → n ≡ user_lines id name age
three_lines id name age l k m n a i s none first second third is_age is_id is_name =
    rw (third, second, first, none, is_age, is_id, is_name) (append_assoc (field_line (codes "age") (codes "N") (decimal age)) (field_line (codes "id") (codes "S") id) (field_line (codes "name") (codes "S") name))
