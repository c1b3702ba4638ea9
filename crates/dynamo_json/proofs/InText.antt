-- What is in the tokens of a text: the elements of an array and the members of an object, one after another.
use Rattle.std.proofs.Common.{◌≡◌, ℕ, ◌-◌, ◌<◌, ◌≤◌, List, [], ◌∷◌, ◌++◌, length, map, Option, Some, None, option_map, option_and_then, Bool, refl, sym, ap, ◌∙◌, arith}
use Rattle.dynamo_json.proofs.Common.{map-append, AllByRecursion, tokens, Token, parse_map}
use Rattle.dynamo_json.proofs.Common.{after_end_array, read_key, items, members, Data, string}
use Rattle.dynamo_json.proofs.Common.{boolean, array, object, Items, no_items, item, no_members}
use Rattle.dynamo_json.proofs.Common.{items_of, Av, Prefix, json_of, under}
use Rattle.json.specs.Json as json
use Rattle.json.specs.Json.{value}
use Rattle.json.proofs.Grammar.{value_is, value-begin_array, value-begin_object, items_end, items_more, members_end, members_more, read_key-shorter}
use Rattle.serde_json.specs.Data.{Members, member, put}
use Rattle.serde_json.specs.Read.{of_json, of_items, of_members, converted, read}
use Rattle.dynamo_json.specs.OfText.{Stands, ContentStands, ItemsStand, MembersStand}

-- ---- what a conversion leaves

abbrev pub pick : {A : Type 0} → A → Option A → A
pick d None = d
pick d (Some a) = a

found : {B : Type 0} (r s : List Token) (x : Option B) (b : B) → option_map {U = B × List Token} (λ y. (y, r)) x ≡ Some (b, s) → (r ≡ s) × (x ≡ Some b)
found r s None b e = absurd (cc)
found r s (Some y) b e = let same = ap (pick (y, r)) e in (ap (λ p. p.1) same, ap (λ p. Some p.0) same)

-- what was converted was parsed
pub parsed : {A B : Type 0} (f : A → Option B) (o : Option (A × List Token)) (b : B) (r : List Token) → converted f o ≡ Some (b, r) → (a : A) × (o ≡ Some (a, r)) × (f a ≡ Some b)
parsed f None b r e = absurd (cc)
parsed f (Some p) b r e = let both = found p.1 r (f p.0) b e in (p.0, ap (λ s. Some (p.0, s)) both.0, both.1)

twice : {A B : Type 0} (g : A → B) (r : List Token) (x : Option A) → option_map (λ b. (b, r)) (option_map g x) ≡ parse_map g (option_map (λ a. (a, r)) x)
twice g r None = refl
twice g r (Some a) = refl

-- ---- one value

pub string_stands : (depth : ℕ) (ts r : List Token) (text : List ℕ) → ts ≡ Token.string text ∷ r → Stands depth ts (string text) r
string_stands depth ts r text e = ap (converted of_json) (ap (value depth) e ∙ value_is depth _)

pub boolean_stands : (depth : ℕ) (ts r : List Token) (b : Bool) → ts ≡ Token.boolean b ∷ r → Stands depth ts (boolean b) r
boolean_stands depth ts r b e = ap (converted of_json) (ap (value depth) e ∙ value_is depth _)

of_array : (o : Option (json.Items × List Token)) → converted of_json (parse_map json.array o) ≡ parse_map array (converted of_items o)
of_array None = refl
of_array (Some p) = twice array p.1 (of_items p.0)

of_object : (o : Option (json.Members × List Token)) → converted of_json (parse_map json.object o) ≡ parse_map object (converted (λ ms. of_members ms no_members) o)
of_object None = refl
of_object (Some p) = twice object p.1 (of_members p.0 no_members)

pub array_stands : (depth : ℕ) (ts s r : List Token) (js : Items) → 0 < depth → ts ≡ Token.begin_array ∷ s → ItemsStand (depth - 1) s js r → Stands depth ts (array js) r
array_stands depth ts s r js some first inside =
    ap (converted of_json) (ap (value depth) first ∙ value-begin_array depth s some) ∙ of_array (items (value (depth - 1)) (length s) s) ∙ ap (parse_map array) inside

pub object_stands : (depth : ℕ) (ts s r : List Token) (ms : Members) → 0 < depth → ts ≡ Token.begin_object ∷ s → MembersStand (depth - 1) s ms r → Stands depth ts (object ms) r
object_stands depth ts s r ms some first inside =
    ap (converted of_json) (ap (value depth) first ∙ value-begin_object depth s some) ∙ of_object (members (value (depth - 1)) (length s) s) ∙ ap (parse_map object) inside

-- ---- the content of an attribute value

module _ (depth : ℕ) (ts s r : List Token) (p : Prefix) (a : Av) where
  pub text_stands : (text : List ℕ) → ts ≡ Token.string text ∷ r → json_of a ≡ under p (string text) → ContentStands depth ts p a r
  text_stands text first is = (string text, string_stands depth ts r text first, is)

  pub flag_stands : (b : Bool) → ts ≡ Token.boolean b ∷ r → json_of a ≡ under p (boolean b) → ContentStands depth ts p a r
  flag_stands b first is = (boolean b, boolean_stands depth ts r b first, is)

  pub list_stands : (js : Items) → 0 < depth → ts ≡ Token.begin_array ∷ s → ItemsStand (depth - 1) s js r → json_of a ≡ under p (array js) → ContentStands depth ts p a r
  list_stands js some first inside is = (array js, array_stands depth ts s r js some first inside, is)

  pub map_stands : (ms : Members) → 0 < depth → ts ≡ Token.begin_object ∷ s → MembersStand (depth - 1) s ms r → json_of a ≡ under p (object ms) → ContentStands depth ts p a r
  map_stands ms some first inside is = (object ms, object_stands depth ts s r ms some first inside, is)

-- ---- arrays

abbrev pub before : List Data → Items → Items
before [] rest = rest
before (d ∷ ds) rest = item d (before ds rest)

before_none : (ds : List Data) → before ds no_items ≡ items_of ds
before_none [] = refl
before_none (d ∷ ds) = ap (item d) (before_none ds)

before_one : (ds : List Data) (d : Data) (rest : Items) → before ds (item d rest) ≡ before (ds ++ d ∷ []) rest
before_one [] d rest = refl
before_one (e ∷ ds) d rest = ap (item e) (before_one ds d rest)

one_more : (ds : List Data) (d : Data) (o : Option (Items × List Token)) → parse_map (before ds) (parse_map (item d) o) ≡ parse_map (before (ds ++ d ∷ [])) o
one_more ds d None = refl
one_more ds d (Some p) = ap (λ js. Some (js, p.1)) (before_one ds d p.0)

with_item : (j : json.Json) (d : Data) → of_json j ≡ Some d → (o : Option (json.Items × List Token)) → converted of_items (parse_map (json.item j) o) ≡ parse_map (item d) (converted of_items o)
with_item j d e None = refl
with_item j d e (Some p) = rw e (twice (item d) p.1 (of_items p.0))

-- a list that grew by one element, seen through f
pub pushed : {A B : Type 0} (f : A → B) (old new : List A) (a : A) (b : B) → new ≡ old ++ a ∷ [] → f a ≡ b → map f new ≡ map f old ++ b ∷ []
pushed f old new a b grown is = ap (map f) grown ∙ map-append f old (a ∷ []) ∙ ap (λ b. map f old ++ b ∷ []) is

pub all_and : {A : Type 0} (P : A → Type 0) (as' : List A) (a : A) → AllByRecursion P as' → P a → AllByRecursion P (as' ++ a ∷ [])
all_and P [] a all here = (here, tt)
all_and P (b ∷ as') a all here = (all.0, all_and P as' a all.1 here)

-- Of the elements of an array, which begin at `all`, ds have been read, and the others are at `ts`.
abbrev pub ItemsLeft : ℕ → List Token → List Data → List Token → Type 0
ItemsLeft depth all ds ts = (n : ℕ) × (length ts ≤ n) × (length ts ≤ length all)
    × (converted of_items (items (value depth) (length all) all) ≡ parse_map (before ds) (converted of_items (items (value depth) n ts)))

pub items_next : (depth : ℕ) (all : List Token) (ds : List Data) (ts r : List Token) (d : Data) (more : List Data) → ItemsLeft depth all ds ts → after_end_array ts ≡ None
    → Stands depth ts d r → length r < length ts → more ≡ ds ++ d ∷ [] → ItemsLeft depth all more r
items_next depth all ds ts r d more left going here less pushed =
    let j = parsed of_json (value depth ts) d r here in
    let turn = ap (converted of_items) (items_more (value depth) left.0 ts r j.0 (omega (arith, left.1)) going j.1) ∙ with_item j.0 d j.2 _ in
    (left.0 - 1, omega (arith, left.1), omega (arith, left.2), left.3 ∙ ap (parse_map (before ds)) turn ∙ one_more ds d _ ∙ ap (λ es. parse_map (before es) (converted of_items (items (value depth) (left.0 - 1) r))) (sym pushed))

pub items_done : (depth : ℕ) (all : List Token) (ds : List Data) (ts r : List Token) → ItemsLeft depth all ds ts → after_end_array ts ≡ Some r → ItemsStand depth all (items_of ds) r
items_done depth all ds ts r left end =
    left.3 ∙ ap (λ o. parse_map (before ds) (converted of_items o)) (items_end (value depth) left.0 ts r left.1 end) ∙ ap (λ js. Some (js, r)) (before_none ds)

-- ---- objects

abbrev onto : Members → Option (json.Members × List Token) → Option (Members × List Token)
onto ms o = converted (λ found. of_members found ms) o

with_member : (k : List ℕ) (j : json.Json) (d : Data) (ms : Members) → of_json j ≡ Some d → (o : Option (json.Members × List Token)) → onto ms (parse_map (json.member k j) o) ≡ onto (put k d ms) o
with_member k j d ms e None = refl
with_member k j d ms e (Some p) = rw e

-- Of the members of an object, which begin at `all`, those were read that make `ms`, and the others are at `ts`.
abbrev pub MembersLeft : ℕ → List Token → Members → List Token → Type 0
MembersLeft depth all ms ts = (n : ℕ) × (length ts ≤ n) × (length ts ≤ length all)
    × (onto no_members (members (value depth) (length all) all) ≡ onto ms (members (value depth) n ts))

pub members_begin : (depth : ℕ) (all : List Token) → MembersLeft depth all no_members all
members_begin depth all = (length all, omega arith, omega arith, refl)

pub members_next : (depth : ℕ) (all : List Token) (ms : Members) (ts s r : List Token) (k : List ℕ) (d : Data) (more : Members) → MembersLeft depth all ms ts → read_key ts ≡ Some (Some k, s)
    → Stands depth s d r → length r < length s → more ≡ put k d ms → MembersLeft depth all more r
members_next depth all ms ts s r k d more left key here less grown =
    let j = parsed of_json (value depth s) d r here in
    let shorter = read_key-shorter ts (Some k) s key in
    let turn = ap (onto ms) (members_more (value depth) left.0 k ts s r j.0 (omega (arith, left.1, shorter)) key j.1) ∙ with_member k j.0 d ms j.2 _ in
    (left.0 - 1, omega (arith, left.1, shorter, less), omega (arith, left.2, shorter, less), left.3 ∙ turn ∙ ap (λ found. onto found (members (value depth) (left.0 - 1) r)) (sym grown))

pub members_done : (depth : ℕ) (all : List Token) (ms : Members) (ts r : List Token) → MembersLeft depth all ms ts → read_key ts ≡ Some (None, r) → MembersStand depth all ms r
members_done depth all ms ts r left end = left.3 ∙ ap (onto ms) (members_end (value depth) left.0 ts r left.1 end)

-- an object of one member
pub single : (depth : ℕ) (ts s t u r : List Token) (k : List ℕ) (d : Data) → 0 < depth → ts ≡ Token.begin_object ∷ s → read_key s ≡ Some (Some k, t) → Stands (depth - 1) t d u
    → length u < length t → u ≡ Token.end_object ∷ r → Stands depth ts (object (member k d no_members)) r
single depth ts s t u r k d some first key here less end =
    let left = members_next (depth - 1) s no_members s t u k d _ (members_begin (depth - 1) s) key here less refl in
    object_stands depth ts s _ _ some first (members_done (depth - 1) s _ u _ left (ap read_key end))

-- ---- the whole text

pub whole : (text : List ℕ) (ts : List Token) (d : Data) → ts ≡ [] → Stands 127 (tokens text) d ts → read text ≡ Some d
whole text ts d none here =
    let j = parsed of_json (value 127 (tokens text)) d ts here in
    ap (λ o. option_and_then of_json (option_and_then (λ p. json.if_last p.0 p.1) o)) (j.1 ∙ ap (λ r. Some (j.0, r)) none) ∙ j.2
