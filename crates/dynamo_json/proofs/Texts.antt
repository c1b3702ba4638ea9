-- The texts of each JSON value of a program hold bytes.
use Rattle.std.proofs.Common.{◌≡◌, ℕ, zero, suc, ◌<◌, List, [], ◌∷◌, ◌++◌, map, Bool, true, false, cond, ltb, ◌&&◌, refl, sym, subst, arith, rules, ⊎_elim, String, string_bytes, Global}
use Rattle.dynamo_json.proofs.Common.{AllByRecursion, IsBytes, Data, Value, HoldsTexts}
use Rattle.serde_json.specs.Data as json
use Rattle.serde_json.specs.View as sj
use Rattle.std.specs.Char.{IsScalar, encode_utf8}
use Rattle.std.specs.Str.{IsUtf8, encode_utf8_all}
use Rattle.std.proofs.Math.Utf8.{scalar, scalars, scalar_cases}
use Rattle.std.proofs.lemmas.Str.{IsUtf8-string_bytes}
use borrow.Author.Tests.{ltb-true}
use Rattle.serde_json.specs.declared.value.Value.{the_lemmas}
use Rattle.serde_json.specs.declared.value.Value.TheOpen.{Value-F}
use Rattle.serde_json.specs.declared.value.Value.TheFolds.{ind-Value, map-Value}
use Rattle.serde_json.specs.declared.value.Value.TheViews.{roll-Value}
use Rattle.serde_json.proofs.Views.{Entry}
use Rattle.dynamo_json.specs.Texts.{HasTexts, ItemsHaveTexts, MembersHaveTexts}

both : (x y : Bool) → x && y ≡ true → (x ≡ true) × (y ≡ true)
both true y e = (refl, e)
both false y e = cc

abbrev AreBytes : List ℕ → Type 0
AreBytes = AllByRecursion (λ x. x < 256)

bytes_at : (xs : List ℕ) → AreBytes xs → IsBytes xs
bytes_at [] h i = omega arith
bytes_at (x ∷ xs) h zero = h.0
bytes_at (x ∷ xs) h (suc i) = bytes_at xs h.1 i

bytes-append : (xs ys : List ℕ) → AreBytes xs → AreBytes ys → AreBytes (xs ++ ys)
bytes-append [] ys h k = k
bytes-append (x ∷ xs) ys h k = (h.0, bytes-append xs ys h.1 k)

either : (b : Bool) (x y : List ℕ) → (b ≡ true → AreBytes x) → AreBytes y → AreBytes (cond b x y)
either true x y h k = h refl
either false x y h k = k

scalar_range : (c : ℕ) → IsScalar c → c < 1114112
scalar_range c s = ⊎_elim (λ h. omega arith) (λ h. h.1) (scalar_cases c s)

char_bytes : (c : ℕ) → IsScalar c → AreBytes (encode_utf8 c)
unfolding encode_utf8
char_bytes c s =
    let fits = scalar_range c s in
    either (ltb c 128) _ _ (λ e. (omega (arith, ltb-true c 128 e), tt))
    (either (ltb c 2048) _ _ (λ e. (omega (arith, ltb-true c 2048 e), (omega arith, tt)))
    (either (ltb c 65536) _ _ (λ e. (omega (arith, ltb-true c 65536 e), (omega arith, (omega arith, tt))))
    (omega (arith, fits), (omega arith, (omega arith, (omega arith, tt))))))

all_bytes : (cs : List ℕ) → scalars cs ≡ true → AreBytes (encode_utf8_all cs)
all_bytes [] h = tt
all_bytes (c ∷ cs) h =
    let parts = both (scalar c) (scalars cs) h in
    bytes-append (encode_utf8 c) (encode_utf8_all cs) (char_bytes c parts.0) (all_bytes cs parts.1)

pub IsBytes-IsUtf8 : (bs : List ℕ) → IsUtf8 bs → IsBytes bs
IsBytes-IsUtf8 bs u = bytes_at bs (subst AreBytes u.1.1 (all_bytes u.0 u.1.0))

pub IsBytes-string_bytes : (text : String Global) → IsBytes (string_bytes text)
IsBytes-string_bytes text = IsBytes-IsUtf8 (string_bytes text) (IsUtf8-string_bytes text)

abbrev Good : Value → Type 0
Good v = HasTexts (sj.view v)

abbrev Layer : Type 0
Layer = Value-F Value

items_good : (vs : List Value) → AllByRecursion Good vs → ItemsHaveTexts (sj.items_view vs)
items_good [] h = tt
items_good (v ∷ vs) h = (h.0, items_good vs h.1)

members_good : (es : List Entry) → AllByRecursion (λ e. Good e.1) es → MembersHaveTexts (sj.members_view es)
members_good [] h = tt
members_good (e ∷ es) h = (h.0, members_good es h.1)

-- the values inside, each good
abbrev Inside : Layer → Type 0
Inside (Value-F.Array v) = AllByRecursion Good v.items
Inside (Value-F.Object m) = AllByRecursion (λ e. Good e.1) m.entries
Inside _ = Unit {0}

abbrev seen : Layer → Data
seen Value-F.Null = json.null
seen (Value-F.Bool b) = json.boolean b
seen (Value-F.Number x) = json.number (sj.number_view x)
seen (Value-F.String s) = json.string (string_bytes s)
seen (Value-F.Array v) = json.array (sj.items_view v.items)
seen (Value-F.Object m) = json.object (sj.members_view m.entries)

view-roll : (x : Layer) → sj.view (roll-Value x) ≡ seen x
view-roll Value-F.Null = search (rules, the_lemmas)
view-roll (Value-F.Bool b) = search (rules, the_lemmas)
view-roll (Value-F.Number x) = search (rules, the_lemmas)
view-roll (Value-F.String s) = search (rules, the_lemmas)
view-roll (Value-F.Array v) = search (rules, the_lemmas)
view-roll (Value-F.Object m) = search (rules, the_lemmas)

seen_good : (x : Layer) → Inside x → HasTexts (seen x)
seen_good (Value-F.String s) h = IsBytes-string_bytes s
seen_good (Value-F.Array v) h = items_good v.items h
seen_good (Value-F.Object m) h = members_good m.entries h
seen_good _ h = tt

-- a value that is good
abbrev Child : Type 0
Child = (v : Value) × Good v

items_inside : (cs : List Child) → AllByRecursion Good (map (λ c. c.0) cs)
items_inside [] = tt
items_inside (c ∷ cs) = (c.1, items_inside cs)

members_inside : (es : List (String Global × Child)) → AllByRecursion (λ (e : Entry). Good e.1) (map (λ e. (e.0, e.1.0)) es)
members_inside [] = tt
members_inside (e ∷ es) = (e.1.1, members_inside es)

inside : (y : Value-F Child) → Inside (map-Value Child Value (λ c. c.0) y)
inside (Value-F.Array v) = items_inside v.items
inside (Value-F.Object m) = members_inside m.entries
inside y = tt

pub has_texts : HoldsTexts
has_texts = ind-Value Good (λ x y is. subst HasTexts (sym (view-roll x)) (seen_good x (subst Inside is (inside y))))
