-- The order in which a hashed map keeps its entries isn't seen.
use Rattle.std.proofs.Common.{◌≡◌, List, [], ◌∷◌, slice_index_or, option_map, sym, ap}
use Rattle.std.specs.List.{All, AllByRecursion, IsDistinct}
use Rattle.std.specs.List.Sorted.{IsPermutation}
use Rattle.std.specs.Map.{keys_of}
use Rattle.std.specs.String.{string_eq, string_eq_equiv}
use Rattle.std.proofs.lemmas.List.Elements.{All-head, All-tail}
use Rattle.std.proofs.lemmas.List.Sorted.{All-permutation, IsPermutation-sym, IsPermutation-map, length_permutation}
use Rattle.std.proofs.lemmas.Map.Entries.{lookup_from_place}
use Rattle.std.proofs.lemmas.Map.Keys.{IsDistinct-IsPermutation}
use Rattle.std.proofs.lemmas.Option.{slice_get-get_or}
use Rattle.dynamo_value.proofs.Members.{Entry, Has, same_from_all}
use Rattle.dynamo_value.specs.View.{members_view, view}

-- each entry is what is found at its key
has_own : (es : List Entry) → IsDistinct string_eq (keys_of es) → All (Has es) es
has_own es d k e low =
    let f = slice_index_or es k e in
    ap (option_map view) (lookup_from_place string_eq_equiv es k f.0 f.1 d (slice_get-get_or es k e low))

by_recursion : (P : Entry → Type 0) (es : List Entry) → All P es → AllByRecursion P es
by_recursion P [] a = tt
by_recursion P (e ∷ es) a = (All-head P e es a, by_recursion P es (All-tail P e es a))

pub distinct : (es fs : List Entry) → IsPermutation es fs → IsDistinct string_eq (keys_of es) → IsDistinct string_eq (keys_of fs)
distinct es fs p d = IsDistinct-IsPermutation string_eq string_eq_equiv.symm (keys_of es) (keys_of fs) (IsPermutation-map (λ e. e.0) es fs p) d

pub same_members : (es fs : List Entry) → IsPermutation es fs → IsDistinct string_eq (keys_of es) → members_view es ≡ members_view fs
same_members es fs p d =
    let all : All (Has fs) es = All-permutation (Has fs) fs es (IsPermutation-sym es fs p) (has_own fs (distinct es fs p d)) in
    same_from_all es fs d (sym (length_permutation es fs p)) (by_recursion (Has fs) es all)

-- from what a map's `shrink_to_fit` says
pub same_fitted : (es fs : List Entry) → IsPermutation es fs → IsDistinct string_eq (keys_of fs) → members_view fs ≡ members_view es
same_fitted es fs p d = same_members fs es (IsPermutation-sym es fs p) d
