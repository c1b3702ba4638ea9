-- A map of two keys and more has no single entry.
use Rattle.std.proofs.Common.{◌≡◌, ℕ, ◌+◌, ◌≤◌, false, cond, List, [], ◌∷◌, length, Option, Some, None, Err, option_map, is_some, String, string_bytes, refl, ap, ◌∙◌, arith}
use Rattle.std.specs.Cmp.Lexicographic.{nat_list_cmp_total}
use Rattle.std.specs.FinMap.Entries.{length-put}
use Rattle.std.specs.List.{AllByRecursion, IsDistinct}
use Rattle.std.specs.Map.{keys_of, lookup}
use Rattle.std.specs.String.{string_eq}
use Rattle.std.specs.declared.alloc.Global.{Global}
use Rattle.dynamo_value.proofs.Members.{Entry, view_sorted, found-view}
use Rattle.dynamo_value.specs.Av.{Av, members_of}
use Rattle.dynamo_value.specs.Fault.{expected_single_key}
use Rattle.dynamo_value.specs.View.{text_cmp, entries_view, members_view, view}
use Rattle.dynamo_de.specs.Showing.{only_entry}

-- a key that differs from all others isn't found among them
absent : (q : String Global) (es : List Entry) → AllByRecursion (λ k. string_eq q k ≡ false) (keys_of es) → lookup (string_eq q) es ≡ None
absent q [] a = refl
absent q (e ∷ es) a = ap (λ b. cond b (Some e.1) (lookup (string_eq q) es)) a.0 ∙ absent q es a.1

-- keys that differ aren't put in one place
length_view : (es : List Entry) → IsDistinct string_eq (keys_of es) → length (entries_view es) ≡ length es
unfolding IsDistinct
length_view [] d = refl
length_view (e ∷ es) d =
    let is_new = found-view es (string_bytes e.0) ∙ ap (option_map view) (absent e.0 es d.0) in
    let rest = length_view es d.1 in
    length-put text_cmp nat_list_cmp_total (string_bytes e.0) (view e.1) (entries_view es) (view_sorted es)
    ∙ ap (λ (o : Option Av). cond (is_some o) (length (entries_view es)) (length (entries_view es) + 1)) is_new
    ∙ omega arith

not_single : (es : List (List ℕ × Av)) → 2 ≤ length es → only_entry (members_of es) ≡ Err expected_single_key
not_single [] low = refl
not_single (e ∷ []) low = absurd (omega arith)
not_single (d ∷ e ∷ es) low = refl

pub single_of_more : (es ds cs : List Entry) (d c : Entry) → es ≡ d ∷ ds → ds ≡ c ∷ cs → IsDistinct string_eq (keys_of es)
    → only_entry (members_view es) ≡ Err expected_single_key
single_of_more es ds cs d c first second distinct =
    not_single (entries_view es) (omega (arith, length_view es distinct, ap length first, ap length second))
