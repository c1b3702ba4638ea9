-- What is written for the fields of a struct reads back by its rules: no entry of it is refused.
use Rattle.std.proofs.Common.{◌≡◌, true, false, List, [], ◌∷◌, ◌++◌, Ok, Err, refl, sym, ap, ◌∙◌, append_assoc}
use Rattle.dynamo_shape.proofs.Common.{T, bytes_eq, list_any, AllByRecursion, is_eq, is_sorted}
use Rattle.dynamo_shape.proofs.Common.{below_all, is_eq-slice_cmp, Av, members_of, ◌>>=◌, text_cmp}
use Rattle.dynamo_shape.proofs.Common.{Datum, Fields, Answer, value, Text, Entry, entries_of}
use Rattle.dynamo_shape.proofs.Common.{collect, written_fields, less, halves, nothing_more}
use Rattle.dynamo_shape.proofs.Common.{sorted-collect, is_field, AliasesApart, NearlyClearFields}
use Rattle.dynamo_shape.proofs.Common.{kept_fields, into, read_field, read_each_entry, fields_among}
use Rattle.dynamo_shape.proofs.Common.{entry_by_rules, read_by_rules, SameFields, FieldShapes}
use Rattle.dynamo_shape.specs.NameRules.{NameRules, own_name}
use Rattle.dynamo_shape.proofs.FieldsByName.{not_turned}
use Rattle.dynamo_shape.proofs.Found.{KeysIn, differs, or_false}
use Rattle.dynamo_shape.proofs.Members.{EachMember, collected}
use Rattle.dynamo_shape.proofs.Structs.{FieldsBack, named_read}

own_itself : (aliases : List (Text × Text)) (fs : FieldShapes) (t : Text) → AliasesApart fs aliases → is_field fs t ≡ true → own_name aliases t ≡ t
own_itself [] fs t p h = refl
own_itself (a ∷ others) fs t p h = rw (differs fs t a.0 h p.0) (own_itself others fs t p.1 h)

-- an entry of a field that was not read before
entry_plain : (rules : NameRules) (fs : FieldShapes) (reads : Text → Av → Answer Datum) (before : List (Text × Datum)) (e : Entry) → AliasesApart fs rules.aliases → is_field fs e.0 ≡ true → list_any (λ x. bytes_eq e.0 x.0) before ≡ false → entry_by_rules rules fs reads before e ≡ into (λ d. (e.0, d)) (reads e.0 e.1)
entry_plain rules fs reads before e p f u = rw (own_itself rules.aliases fs e.0 p f, f, u) refl

-- ---- each name once

-- none of the entries was read before
abbrev Unmet : List (Text × Datum) → List (Text × Av) → Type 0
Unmet before es = AllByRecursion (λ e. list_any (λ x. bytes_eq e.0 x.0) before ≡ false) es

all_unmet : (es : List (Text × Av)) → Unmet [] es
all_unmet [] = tt
all_unmet (e ∷ es) = (refl, all_unmet es)

among_more : (before : List (Text × Datum)) (x : Text × Datum) (t : Text) → list_any (λ y. bytes_eq t y.0) before ≡ false → bytes_eq t x.0 ≡ false → list_any (λ y. bytes_eq t y.0) (before ++ x ∷ []) ≡ false
among_more [] x t h k = rw k refl
among_more (y ∷ ys) x t h k = let p = or_false (bytes_eq t y.0) (list_any (λ y. bytes_eq t y.0) ys) h in rw p.0 (among_more ys x t p.1 k)

-- no entry has the name t
abbrev Without : Text → List (Text × Av) → Type 0
Without t es = AllByRecursion (λ e. bytes_eq e.0 t ≡ false) es

unmet_more : (before : List (Text × Datum)) (x : Text × Datum) (es : List (Text × Av)) → Unmet before es → Without x.0 es → Unmet (before ++ x ∷ []) es
unmet_more before x [] u w = tt
unmet_more before x (e ∷ es) u w = (among_more before x e.0 u.0 w.0, unmet_more before x es u.1 w.1)

below_without : (t : Text) (es : List (Text × Av)) → T (below_all text_cmp t es) → Without t es
below_without t [] h = tt
below_without t (e ∷ es) h =
    let p = halves _ _ h in
    (not_turned t e.0 (sym (is_eq-slice_cmp t e.0) ∙ ap is_eq (less _ p.0)), below_without t es p.1)

-- ---- the entries of fields alone

grouped : (before : List (Text × Datum)) (x : Text × Datum) (r : Answer (List (Text × Datum))) → into (λ rs. (before ++ x ∷ []) ++ rs) r ≡ into (λ rs. before ++ rs) (r >>= λ more. value (x ∷ more))
grouped before x (Ok rs) = ap value (append_assoc before (x ∷ []) rs)
grouped before x (Err f) = refl

joined : (before : List (Text × Datum)) (t : Text) (r : Answer Datum) (next : List (Text × Datum) → Answer (List (Text × Datum))) (rest : Answer (List (Text × Datum)))
    → ((d : Datum) → next (before ++ (t, d) ∷ []) ≡ into (λ rs. (before ++ (t, d) ∷ []) ++ rs) rest)
    → (into (λ d. (t, d)) r >>= λ x. next (before ++ x ∷ [])) ≡ into (λ rs. before ++ rs) (r >>= λ d. rest >>= λ more. value ((t, d) ∷ more))
joined before t (Ok d) next rest h = h d ∙ grouped before (t, d) rest
joined before t (Err f) next rest h = refl

as_plain : (rules : NameRules) (fs : FieldShapes) (reads : Text → Av → Answer Datum) → AliasesApart fs rules.aliases → (es : List (Text × Av)) (before : List (Text × Datum)) → KeysIn (λ t. is_field fs t ≡ true) es → T (is_sorted text_cmp es) → Unmet before es → read_by_rules rules fs reads before es ≡ into (λ rs. before ++ rs) (read_each_entry reads es)
as_plain rules fs reads p [] before k s u = ap value (sym (nothing_more before))
as_plain rules fs reads p (e ∷ es) before k s u =
    let order = halves _ _ s in
    rw (entry_plain rules fs reads before e p k.0 u.0)
    (joined before e.0 (reads e.0 e.1) (λ now. read_by_rules rules fs reads now es) (read_each_entry reads es)
    (λ d. as_plain rules fs reads p es (before ++ (e.0, d) ∷ []) k.1 order.1 (unmet_more before (e.0, d) es u.1 (below_without e.0 es order.0))))

-- ---- what is written

as_entries : (es : List (Text × Av)) → entries_of (members_of es) ≡ es
as_entries [] = refl
as_entries (e ∷ es) = ap (λ more. e ∷ more) (as_entries es)

keys_of : (P : Text → Type 0) (es : List (Text × Av)) → EachMember (λ t a. P t) (members_of es) → KeysIn P es
keys_of P [] h = tt
keys_of P (e ∷ es) h = (h.0, keys_of P es h.1)

then_same : {A B : Type 0} (r : Answer A) (next : A → Answer B) → (into (λ x. x) r >>= next) ≡ (r >>= next)
then_same (Ok x) next = refl
then_same (Err f) next = refl

pub named_by_rules : (rules : NameRules) (fs : FieldShapes) (gs : Fields) → AliasesApart fs rules.aliases → NearlyClearFields fs → FieldsBack fs gs → (es : List (Text × Av)) × (hs : Fields) × (written_fields gs ≡ Ok es) × ((read_by_rules rules fs (read_field fs) [] (entries_of (members_of (collect es))) >>= fields_among fs []) ≡ value hs) × SameFields (kept_fields gs) hs
unfolding FieldsBack
named_by_rules rules fs gs p n (es, hs, t) =
    let R = read_field fs in
    let all = collect es in
    let keys = keys_of (λ u. is_field fs u ≡ true) all (collected (λ u a. is_field fs u ≡ true) es t.keys) in
    let plain = as_plain rules fs R p all [] keys (sorted-collect es) (all_unmet all) in
    let read = ap (λ es. read_by_rules rules fs R [] es) (as_entries all) ∙ plain ∙ ap (λ es. into (λ rs. rs) (read_each_entry R es)) (sym (as_entries all)) in
    let back = named_read fs es hs n t.readable t.reads in
    (es, hs, t.wrote, ap (λ r. r >>= fields_among fs []) read ∙ then_same (read_each_entry R (entries_of (members_of all))) (fields_among fs []) ∙ back, t.alike)
