-- What a value of a program tells is among what its attribute value tells.
use Rattle.std.proofs.Common.{◌≡◌, ◌||◌, ℕ, List, [], ◌∷◌, map, Bool, true, false, cond, Less, Equal, Greater, refl, sym, ap, subst, ◌∙◌, inl, inr, String, string_bytes, Global, Vec}
use Rattle.dynamo_json.proofs.Common.{put, by_order, AllByRecursion, list_all, list_any, keys_of}
use Rattle.dynamo_json.proofs.Common.{is_eq, string_eq, Av, members_of, base64_text, text_cmp}
use Rattle.dynamo_json.proofs.Common.{view_step, view, elements_view, entries_view, members_view}
use Rattle.dynamo_json.proofs.Common.{AttributeValue, Entry, Datum, TellsItsDatum, TellsItsItem}
use Rattle.dynamo_json.proofs.Common.{strings, Tells, ElementsTell, MembersTell, all_differ}
use Rattle.dynamo_json.proofs.Common.{differ_step, keys_differ, KeysDiffer, EntriesDiffer}
use Rattle.dynamo_value.specs.Prefix as prefix
use Rattle.dynamo_ser.specs.Datum as datum
use Rattle.std.specs.Str.{bytes_eq}
use Rattle.std.proofs.lemmas.Bool.{true≢false, and_parts}
use Rattle.std.proofs.lemmas.Map.Text.{is_eq-slice_cmp}
use Rattle.dynamo_value.specs.Item.{map_of}
use Rattle.dynamo_value.specs.declared.attribute_value.AttributeValue.TheOpen.{AttributeValue-F}
use Rattle.dynamo_value.specs.declared.attribute_value.AttributeValue.TheFolds.{map-AttributeValue, fold-roll-AttributeValue}
use Rattle.dynamo_value.specs.declared.attribute_value.AttributeValue.TheViews.{roll-AttributeValue}
use Rattle.dynamo_ser.specs.AttributeDatum.{attribute_step, attribute_datum, text_datum, bytes_datum, under}
use Rattle.dynamo_ser.proofs.Attributes.{entries_told}
use Rattle.dynamo_json.proofs.EveryValue.{Layer, Inside, every_value, every_entry}

-- ---- a member that is put in its place is told first

abbrev Fresh : List ℕ → List (List ℕ × Av) → Type 0
Fresh k ms = AllByRecursion (λ m. bytes_eq k m.0 ≡ false) ms

put_fresh : (k j : List ℕ) (a : Av) (ms : List (List ℕ × Av)) → bytes_eq k j ≡ false → Fresh k ms → Fresh k (put text_cmp j a ms)
put_fresh k j a [] h f = (h, tt)
put_fresh k j a (m ∷ ms) h f = elim (text_cmp j m.0) as (λ o. Fresh k (by_order o ((j, a) ∷ m ∷ ms) ((m.0, a) ∷ ms) (m ∷ put text_cmp j a ms))) [
  | Less ↦ (h, f)
  | Equal ↦ f
  | Greater ↦ (f.0, put_fresh k j a ms h f.1)
]

put_tells : (k : List ℕ) (a : Av) (d : Datum) (ms : List (List ℕ × Av)) (ps : datum.Pairs) → Fresh k ms → Tells a d
    → MembersTell (members_of ms) ps → MembersTell (members_of (put text_cmp k a ms)) (datum.pair (datum.string k) d ps)
put_tells k a d [] ps f t h = (d, ps, inl (refl, refl, refl), t, h)
put_tells k a d (m ∷ ms) ps f t h =
    elim (text_cmp k m.0) as (λ o. text_cmp k m.0 ≡ o
    → MembersTell (members_of (by_order o ((k, a) ∷ m ∷ ms) ((m.0, a) ∷ ms) (m ∷ put text_cmp k a ms))) (datum.pair (datum.string k) d ps)) [
      | Less ↦ λ _. (d, ps, inl (refl, refl, refl), t, h)
      | Equal ↦ λ e. absurd (true≢false (sym (ap is_eq e) ∙ is_eq-slice_cmp k m.0 ∙ f.0))
      | Greater ↦ λ _. (h.0, datum.pair (datum.string k) d h.1, inr (h.1, refl, h.2), h.3, put_tells k a d ms h.1 f.1 t h.4)
    ] refl

-- ---- keys that differ

neither : (a b : Bool) → (a || b) ≡ false → (a ≡ false) × (b ≡ false)
neither true b h = absurd (true≢false h)
neither false b h = (refl, h)

unless : (a b : Bool) → cond a false b ≡ true → (a ≡ false) × (b ≡ true)
unless true b h = absurd (true≢false (sym h))
unless false b h = (refl, h)

abbrev differ_in : List Entry → List (String Global × Bool)
differ_in es = map (λ e. (e.0, keys_differ e.1)) es

fresh_key : (k : String Global) (es : List Entry) → list_any (string_eq k) (keys_of (differ_in es)) ≡ false → Fresh (string_bytes k) (entries_view es)
fresh_key k [] h = tt
fresh_key k (e ∷ es) h =
    let parts = neither (string_eq k e.0) (list_any (string_eq k) (keys_of (differ_in es))) h in
    put_fresh (string_bytes k) (string_bytes e.0) (view e.1) (entries_view es) parts.0 (fresh_key k es parts.1)

abbrev Good : AttributeValue → Type 0
Good v = KeysDiffer v → Tells (view v) (attribute_datum v)

abbrev pairs_told : List Entry → datum.Pairs
pairs_told es = datum.pairs_of (map (λ e. (text_datum e.0, attribute_datum e.1)) es)

entries_tell : (es : List Entry) → AllByRecursion (λ e. Good e.1) es → all_differ (keys_of (differ_in es)) ≡ true → list_all (λ e. e.1) (differ_in es) ≡ true
    → MembersTell (members_view es) (pairs_told es)
entries_tell [] h k l = refl
entries_tell (e ∷ es) h k l =
    let keys = unless (list_any (string_eq e.0) (keys_of (differ_in es))) (all_differ (keys_of (differ_in es))) k in
    let inner = and_parts (keys_differ e.1) (list_all (λ d. d.1) (differ_in es)) l in
    put_tells (string_bytes e.0) (view e.1) (attribute_datum e.1) (entries_view es) (pairs_told es)
    (fresh_key e.0 es keys.0) (h.0 inner.0) (entries_tell es h.1 keys.1 inner.1)

members_tell : (es : List Entry) → AllByRecursion (λ e. Good e.1) es → EntriesDiffer es → MembersTell (members_view es) (pairs_told es)
members_tell es h k = let parts = and_parts (all_differ (keys_of (differ_in es))) (list_all (λ e. e.1) (differ_in es)) k in entries_tell es h parts.0 parts.1

elements_tell : (vs : List AttributeValue) → AllByRecursion Good vs → list_all (λ b. b) (map keys_differ vs) ≡ true
    → ElementsTell (elements_view vs) (datum.elements_of (map attribute_datum vs))
elements_tell [] h k = refl
elements_tell (v ∷ vs) h k =
    let parts = and_parts (keys_differ v) (list_all (λ b. b) (map keys_differ vs)) k in
    (attribute_datum v, datum.elements_of (map attribute_datum vs), refl, h.0 parts.0, elements_tell vs h.1 parts.1)

texts_told : (texts : List (String Global)) → datum.elements_of (map text_datum texts) ≡ strings (map string_bytes texts)
texts_told [] = refl
texts_told (t ∷ ts) = ap (datum.element (text_datum t)) (texts_told ts)

blobs_told : (blobs : List (Vec ℕ Global)) → datum.elements_of (map bytes_datum blobs) ≡ strings (map base64_text (map (λ b. b.items) blobs))
blobs_told [] = refl
blobs_told (b ∷ bs) = ap (datum.element (bytes_datum b)) (blobs_told bs)

-- ---- one level

abbrev seen : Layer → Av
seen x = view_step (map-AttributeValue AttributeValue Av view x)

abbrev told : Layer → Datum
told x = attribute_step (map-AttributeValue AttributeValue Datum attribute_datum x)

abbrev differ : Layer → Bool
differ x = differ_step (map-AttributeValue AttributeValue Bool keys_differ x)

layer_tells : (x : Layer) → Inside Good x → differ x ≡ true → Tells (seen x) (told x)
layer_tells (AttributeValue-F.N text) h k = refl
layer_tells (AttributeValue-F.S text) h k = refl
layer_tells (AttributeValue-F.Bool b) h k = refl
layer_tells (AttributeValue-F.B bytes) h k = refl
layer_tells (AttributeValue-F.Null b) h k = refl
layer_tells (AttributeValue-F.M m) h k =
    (pairs_told m.entries, ap (λ ps. under prefix.M (datum.map ps)) (entries_told m.entries), members_tell m.entries h k)
layer_tells (AttributeValue-F.L values) h k = (datum.elements_of (map attribute_datum values.items), refl, elements_tell values.items h k)
layer_tells (AttributeValue-F.Ss set) h k = ap (λ ds. under prefix.Ss (datum.seq ds)) (texts_told set.items)
layer_tells (AttributeValue-F.Ns set) h k = ap (λ ds. under prefix.Ns (datum.seq ds)) (texts_told set.items)
layer_tells (AttributeValue-F.Bs set) h k = ap (λ ds. under prefix.Bs (datum.seq ds)) (blobs_told set.items)

-- ---- every level

roll_tells : (x : Layer) → Inside Good x → Good (roll-AttributeValue x)
roll_tells x h k =
    let seen_here = fold-roll-AttributeValue Av view_step x in
    let told_here = fold-roll-AttributeValue Datum attribute_step x in
    let differs : differ x ≡ true = sym (fold-roll-AttributeValue Bool differ_step x) ∙ k in
    subst (λ a. Tells a (attribute_datum (roll-AttributeValue x))) (sym seen_here) (subst (Tells (seen x)) (sym told_here) (layer_tells x h differs))

pub tells_its_datum : TellsItsDatum
tells_its_datum = every_value Good roll_tells

pub tells_its_item : TellsItsItem
tells_its_item item k = let es = (map_of item).entries in (pairs_told es, refl, members_tell es (every_entry Good roll_tells es) k)
