-- The keys of each map differ, where those of each value in it do.
use Rattle.std.proofs.Common.{◌≡◌, List, [], ◌∷◌, ◌++◌, map, Bool, true, false, refl, ap, ◌∙◌, String, Global}
use Rattle.dynamo_json.proofs.Common.{AllByRecursion, list_all, list_any, keys_of, string_eq}
use Rattle.dynamo_json.proofs.Common.{AttributeValue, Entry, all_differ, keys_differ, KeysDiffer}
use Rattle.dynamo_json.proofs.Common.{ElementsDiffer, EntriesDiffer}
use Rattle.std.specs.List.{IsDistinct}

abbrev pub EachDiffers : List Entry → Type 0
EachDiffers = AllByRecursion (λ e. KeysDiffer e.1)

pub one_more : (es : List Entry) (e : Entry) → EachDiffers es → KeysDiffer e.1 → EachDiffers (es ++ e ∷ [])
one_more [] e h k = (k, tt)
one_more (d ∷ es) e h k = (h.0, one_more es e h.1 k)

pub elements_differ : (vs : List AttributeValue) → AllByRecursion KeysDiffer vs → ElementsDiffer vs
elements_differ [] h = refl
elements_differ (v ∷ vs) h = rw (h.0, elements_differ vs h.1) refl

not_among : (k : String Global) (ks : List (String Global)) → AllByRecursion (λ j. string_eq k j ≡ false) ks → list_any (string_eq k) ks ≡ false
not_among k [] h = refl
not_among k (j ∷ js) h = rw (h.0, not_among k js h.1) refl

distinct : (ks : List (String Global)) → IsDistinct string_eq ks → all_differ ks ≡ true
unfolding IsDistinct
distinct [] h = refl
distinct (k ∷ ks) h = rw (not_among k ks h.0) (distinct ks h.1)

abbrev differ_in : List Entry → List (String Global × Bool)
differ_in es = map (λ e. (e.0, keys_differ e.1)) es

same_keys : (es : List Entry) → keys_of (differ_in es) ≡ keys_of es
same_keys [] = refl
same_keys (e ∷ es) = ap (λ ks. e.0 ∷ ks) (same_keys es)

each_differs : (es : List Entry) → EachDiffers es → list_all (λ e. e.1) (differ_in es) ≡ true
each_differs [] h = refl
each_differs (e ∷ es) h = rw (h.0, each_differs es h.1) refl

pub entries_differ : (es : List Entry) → IsDistinct string_eq (keys_of es) → EachDiffers es → EntriesDiffer es
entries_differ es d h = rw (each_differs es h, ap all_differ (same_keys es) ∙ distinct (keys_of es) d) refl
