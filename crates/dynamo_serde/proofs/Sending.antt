-- The events of a list and of a map of attribute values, one value after another.
use Rattle.std.proofs.Common.{◌≡◌, ℕ, ◌+◌, ◌<◌, ◌≤◌, List, [], ◌∷◌, ◌++◌, map, length, take, get_or, Some, string_bytes, refl, sym, ap, ◌∙◌, subst, append_assoc, append-nil, length-append, arith}
use Rattle.std.proofs.lemmas.List.{take_more, take_all}
use Rattle.std.specs.FinMap.Entries.{put}
use Rattle.std.specs.List.{IsDistinct}
use Rattle.std.specs.Map.{keys_of}
use Rattle.std.specs.String.{string_eq}
use Rattle.serde.specs.Event.{Log, Logs, field_key, seq_begins, seq_ends, map_begins, map_ends}
use Rattle.serde.specs.declared.name.Case.TheVariants.{AsIs}
use Rattle.dynamo_value.specs.Av as av
use Rattle.dynamo_value.specs.Av.{Av, elements_of, members_of}
use Rattle.dynamo_value.specs.View.{view, text_cmp, elements_view, entries_view, members_view}
use Rattle.dynamo_value.specs.declared.attribute_value.AttributeValue.{AttributeValue}
use Rattle.dynamo_value.proofs.Members.{Entry, apart, entries-push}
use Rattle.dynamo_write.specs.Collect.{collect, collect_onto}
use Rattle.dynamo_serde.specs.Value.{Logged, SendsValue, elements_count, members_count, value_events, elements_events, members_events, in_order, elements_in_order, members_in_order}
use Rattle.dynamo_serde.proofs.Logged.{both, then, map_push, length-map, in_seq_logged, in_map_logged}

-- what holds no map is sent as it is
pub plain_sent : (v : AttributeValue) (a : Av) (old new : Log) → view v ≡ a → in_order a ≡ a → Logged (value_events a) old new → SendsValue (view v) old new
plain_sent v a old new seen plain logged = (a, plain ∙ sym seen, logged)

-- ---- lists

elements_push : (sent : List Av) (k : Av) → elements_events (elements_of (sent ++ k ∷ [])) ≡ elements_events (elements_of sent) ++ value_events k
elements_push [] k = append-nil (value_events k)
elements_push (a ∷ sent) k =
    ap (λ es. value_events a ++ es) (elements_push sent k) ∙ sym (append_assoc (value_events a) (elements_events (elements_of sent)) (value_events k))

pub elements_ordered : (sent : List Av) → elements_in_order (elements_of sent) ≡ elements_of (map in_order sent)
elements_ordered [] = refl
elements_ordered (a ∷ sent) = ap (av.element (in_order a)) (elements_ordered sent)

elements_counted : (sent : List Av) → elements_count (elements_of sent) ≡ length (map in_order sent)
elements_counted [] = refl
elements_counted (a ∷ sent) = omega (arith, elements_counted sent)

-- of all values, those before i are sent
abbrev pub ListUpTo : List AttributeValue → ℕ → Log → Log → Type 0
ListUpTo vs i old new = (sent : List Av) × (map in_order sent ≡ map view (take i vs)) × Logged (elements_events (elements_of sent)) old new

pub list_more : (vs : List AttributeValue) (i : ℕ) (v : AttributeValue) (old mid new : Log) → i < length vs → v ≡ get_or vs i v
    → ListUpTo vs i old mid → SendsValue (view v) mid new → ListUpTo vs (i + 1) old new
list_more vs i v old mid new lt is h k =
    let taken : take (i + 1) vs ≡ take i vs ++ v ∷ [] = take_more vs i v lt ∙ ap (λ y. take i vs ++ y ∷ []) (sym is) in (
      h.0 ++ k.0 ∷ [],
      map_push in_order h.0 k.0 ∙ ap (λ ys. ys ++ in_order k.0 ∷ []) h.1 ∙ ap (λ y. map view (take i vs) ++ y ∷ []) k.1
          ∙ sym (map_push view (take i vs) v) ∙ ap (map view) (sym taken),
      subst (λ es. Logged es old new) (sym (elements_push h.0 k.0)) (both (elements_events (elements_of h.0)) (value_events k.0) old mid new h.2 k.2),
    )

pub list_all : (vs xs : List AttributeValue) (i n : ℕ) (old first last new : Log) → xs ≡ vs → length xs ≤ i → n ≡ length vs
    → Logs old first (seq_begins (Some n)) → ListUpTo xs i first last → Logs last new seq_ends → SendsValue (av.L (elements_view vs)) old new
list_all vs xs i n old first last new same end len begun h ended =
    let all : map in_order h.0 ≡ map view vs = h.1 ∙ ap (map view) (take_all i xs end ∙ same) in
    let count : n ≡ elements_count (elements_of h.0) = len ∙ sym (length-map view vs) ∙ sym (ap length all) ∙ sym (elements_counted h.0) in (
      av.L (elements_of h.0),
      ap av.L (elements_ordered h.0 ∙ ap elements_of all),
      in_seq_logged (elements_count (elements_of h.0)) (elements_events (elements_of h.0)) old first last new
          (subst (λ m. Logs old first (seq_begins (Some m))) count begun) h.2 ended,
    )

-- ---- maps

members_push : (sent : List (List ℕ × Av)) (key : List ℕ) (k : Av)
    → members_events (members_of (sent ++ (key, k) ∷ [])) ≡ members_events (members_of sent) ++ (field_key key AsIs ∷ value_events k)
members_push [] key k = append-nil (field_key key AsIs ∷ value_events k)
members_push (e ∷ sent) key k =
    ap (λ es. (field_key e.0 AsIs ∷ value_events e.1) ++ es) (members_push sent key k)
    ∙ sym (append_assoc (field_key e.0 AsIs ∷ value_events e.1) (members_events (members_of sent)) (field_key key AsIs ∷ value_events k))

pub ordered_push : (sent : List (List ℕ × Av)) (key : List ℕ) (k : Av)
    → members_in_order (members_of (sent ++ (key, k) ∷ [])) ≡ members_in_order (members_of sent) ++ (key, in_order k) ∷ []
ordered_push [] key k = refl
ordered_push (e ∷ sent) key k = ap (λ es. (e.0, in_order e.1) ∷ es) (ordered_push sent key k)

pub collect_push : (es before : List (List ℕ × Av)) (key : List ℕ) (a : Av)
    → collect_onto before (es ++ (key, a) ∷ []) ≡ put text_cmp key a (collect_onto before es)
collect_push [] before key a = refl
collect_push (e ∷ es) before key a = collect_push es (put text_cmp e.0 e.1 before) key a

members_counted : (sent : List (List ℕ × Av)) → members_count (members_of sent) ≡ length sent
members_counted [] = refl
members_counted (e ∷ sent) = omega (arith, members_counted sent)

length-push : {A B : Type 0} (xs : List A) (ys : List B) (x : A) (y : B) → length xs ≡ length ys → length (xs ++ x ∷ []) ≡ length (ys ++ y ∷ [])
length-push xs ys x y e = length-append xs (x ∷ []) ∙ ap (λ n. n + 1) e ∙ sym (length-append ys (y ∷ []))

-- of all entries, those before rest are sent
abbrev pub MapUpTo : List Entry → List Entry → Log → Log → Type 0
MapUpTo all rest old new =
    (done : List Entry) × (all ≡ done ++ rest) × (sent : List (List ℕ × Av)) × (collect (members_in_order (members_of sent)) ≡ entries_view done)
    × (length sent ≡ length done) × Logged (members_events (members_of sent)) old new

pub map_starts : (all rest : List Entry) (old : Log) → rest ≡ all → Logged [] old old → MapUpTo all rest old old
map_starts all rest old same start = ([], sym same, [], refl, refl, start)

pub map_more : (all rest left : List Entry) (e : Entry) (old mid named new : Log) → IsDistinct string_eq (keys_of all) → rest ≡ e ∷ left
    → MapUpTo all rest old mid → Logs mid named (field_key (string_bytes e.0) AsIs) → SendsValue (view e.1) named new → MapUpTo all left old new
map_more all rest left e old mid named new distinct step h key k =
    let split : all ≡ h.0 ++ e ∷ left = h.1 ∙ ap (λ es. h.0 ++ es) step in
    let other = apart h.0 e left (subst (λ es. IsDistinct string_eq (keys_of es)) split distinct) in
    let here : List ℕ × Av = (string_bytes e.0, k.0) in (
      h.0 ++ e ∷ [],
      split ∙ sym (append_assoc h.0 (e ∷ []) left),
      h.2 ++ here ∷ [],
      ap collect (ordered_push h.2 (string_bytes e.0) k.0) ∙ collect_push (members_in_order (members_of h.2)) [] (string_bytes e.0) (in_order k.0)
          ∙ ap (put text_cmp (string_bytes e.0) (in_order k.0)) h.3 ∙ ap (λ a. put text_cmp (string_bytes e.0) a (entries_view h.0)) k.1 ∙ sym (entries-push h.0 e other),
      length-push h.2 h.0 here e h.4,
      subst (λ es. Logged es old new) (sym (members_push h.2 (string_bytes e.0) k.0))
          (both (members_events (members_of h.2)) (field_key (string_bytes e.0) AsIs ∷ value_events k.0) old mid new h.5
          (then (field_key (string_bytes e.0) AsIs) (value_events k.0) mid named new key k.2)),
    )

pub map_all : (all rest : List Entry) (n : ℕ) (old first last new : Log) → rest ≡ [] → n ≡ length all
    → Logs old first (map_begins (Some n)) → MapUpTo all rest first last → Logs last new map_ends → SendsValue (av.M (members_view all)) old new
map_all all rest n old first last new end len begun h ended =
    let done : h.0 ≡ all = sym (h.1 ∙ ap (λ es. h.0 ++ es) end ∙ append-nil h.0) in
    let count : n ≡ members_count (members_of h.2) = len ∙ sym (ap length done) ∙ sym h.4 ∙ sym (members_counted h.2) in (
      av.M (members_of h.2),
      ap (λ es. av.M (members_of es)) h.3 ∙ ap (λ es. av.M (members_view es)) done,
      in_map_logged (members_count (members_of h.2)) (members_events (members_of h.2)) old first last new
          (subst (λ m. Logs old first (map_begins (Some m))) count begun) h.5 ended,
    )
