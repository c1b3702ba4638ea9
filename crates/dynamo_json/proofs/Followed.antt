-- What is left of the tokens of an attribute value, of a list, a map or a set, after each step of reading.
use Rattle.std.proofs.Common.{◌≡◌, ◌≢◌, ℕ, suc, ◌-◌, ◌≤◌, List, [], ◌∷◌, ◌++◌, map, Option, Some, None, refl, sym, ap, ◌∙◌, subst, arith, append_assoc, inl, inr, Result, Err, IfErr}
use Rattle.dynamo_json.proofs.Common.{AllByRecursion, IsBytes, after_end_array, read_key, tokens}
use Rattle.dynamo_json.proofs.Common.{Token, Data, depth, items_depth, members_depth, outline}
use Rattle.dynamo_json.proofs.Common.{items_outline, members_outline, Av, base64_text}
use Rattle.dynamo_json.proofs.Common.{bytes_of_base64, Fault, out_of_memory, HasBytes}
use Rattle.dynamo_json.proofs.Common.{ElementsHaveBytes, MembersHaveBytes, Prefix, prefix_text}
use Rattle.dynamo_json.proofs.Common.{prefix_of, Refused, refusal_in, SpellsItem, ValueIsNext}
use Rattle.dynamo_json.proofs.Common.{ContentIsNext, ElementsAreNext, MembersAreNext, TextsAreNext}
use Rattle.dynamo_json.proofs.Common.{BlobsAreNext, prefix_in, content_in, json_of, elements_json}
use Rattle.dynamo_json.proofs.Common.{members_json, item_json, under, tokens_in, tokens_within}
use Rattle.dynamo_json.proofs.Common.{tokens_of}
use Rattle.json.specs.Token as token
use Rattle.serde_json.specs.Data as json
use Rattle.dynamo_value.specs.Av as av
use Rattle.dynamo_value.specs.Prefix as prefix
use Rattle.json.specs.Json as parse
use Rattle.json.specs.Tree as tree
use Rattle.json.proofs.Printed.Trees.{value-json_tokens}
use Rattle.serde_json.specs.Read.{of_json}
use Rattle.dynamo_json.specs.OfText.{Stands, ContentStands, texts_json}
use Rattle.dynamo_json.specs.declared.from_text.Stop.{Stop}
use Rattle.dynamo_json.proofs.InText.{parsed, pick}
use Rattle.dynamo_json.proofs.ReadBack.{blob_back}

-- ---- why the whole stops where a step inside does

pub stops : {A : Type 0} (r : Result A Stop) (stop : Stop) (Inner Whole : Type 0) → r ≡ Err stop → (Whole → Inner) → (stop ≡ Stop.Unlike → Inner → ⊥)
    → IfErr r (λ s. s ≡ Stop.Unlike → Whole → ⊥)
stops r stop Inner Whole is inside none = subst (λ q. IfErr q (λ s. s ≡ Stop.Unlike → Whole → ⊥)) (sym is) (λ e h. none e (inside h))

pub stops_for_memory : {A : Type 0} (r : Result A Stop) (stop : Stop) (Whole : Type 0) → r ≡ Err stop → (Whole → stop ≡ Stop.OutOfMemory)
    → IfErr r (λ s. s ≡ Stop.Unlike → Whole → ⊥)
stops_for_memory r stop Whole is memory = stops r stop Whole Whole is (λ h. h) (λ e h. let both : Stop.OutOfMemory ≡ Stop.Unlike = sym (memory h) ∙ e in cc)

-- ---- a JSON value whose tokens come next is the one that is read

mutual
  depth_outline : (d : Data) → tree.depth (outline d) ≡ depth d
  depth_outline json.null = refl
  depth_outline (json.boolean b) = refl
  depth_outline (json.number n) = refl
  depth_outline (json.string s) = refl
  depth_outline (json.array js) = ap suc (items_depth_outline js)
  depth_outline (json.object ms) = ap suc (members_depth_outline ms)

  items_depth_outline : (js : json.Items) → tree.items_depth (items_outline js) ≡ items_depth js
  items_depth_outline json.no_items = refl
  items_depth_outline (json.item j js) = rw (depth_outline j, items_depth_outline js) refl

  members_depth_outline : (ms : json.Members) → tree.members_depth (members_outline ms) ≡ members_depth ms
  members_depth_outline json.no_members = refl
  members_depth_outline (json.member k j ms) = rw (depth_outline j, members_depth_outline ms) refl

same_rest : {A : Type 0} (x y : A) (r s : List Token) → ◌≡◌ {A = Option (A × List Token)} (Some (x, r)) (Some (y, s)) → r ≡ s
same_rest x y r s e = ap (λ p. p.1) (ap (pick (x, r)) e)

same_text : (s t : List ℕ) (r u : List Token) → token.string s ∷ r ≡ token.string t ∷ u → (s ≡ t) × (r ≡ u)
same_text s t r u e = (cc, cc)

-- what follows it
pub follows : (d : ℕ) (c j : Data) (ts new rest : List Token) → depth c ≤ d → ts ≡ tokens_of c ++ rest → Stands d ts j new → new ≡ rest
follows d c j ts new rest fits is here =
    let p = parsed of_json (parse.value d ts) j new here in
    let q = ap (parse.value d) is ∙ value-json_tokens (outline c) d rest (omega (arith, depth_outline c)) in
    same_rest p.0 (outline c) new rest (sym p.1 ∙ q)

-- ---- an attribute value

shape : (a : Av) → json_of a ≡ under (prefix_in a) (content_in a)
shape (av.N text) = refl
shape (av.S text) = refl
shape (av.Boolean b) = refl
shape (av.B bytes) = refl
shape (av.Null b) = refl
shape (av.M _) = refl
shape (av.L _) = refl
shape (av.Ss texts) = refl
shape (av.Ns texts) = refl
shape (av.Bs blobs) = refl

-- the tokens of an attribute value without the first brace
abbrev pub after_brace : Av → List Token → List Token
after_brace a rest = token.key (prefix_text (prefix_in a)) ∷ (tokens_of (content_in a) ++ token.end_object ∷ rest)

tokens_are : (a : Av) (rest : List Token) → tokens_of (json_of a) ++ rest ≡ token.begin_object ∷ after_brace a rest
tokens_are a rest =
    ap (λ j. tokens_of j ++ rest) (shape a)
    ∙ ap (λ (ts : List Token). token.begin_object ∷ token.key (prefix_text (prefix_in a)) ∷ ts) (append_assoc (tokens_of (content_in a)) (token.end_object ∷ []) rest)

same_key : (k l : List ℕ) (r s : List Token) → ◌≡◌ {A = Option (Option (List ℕ) × List Token)} (Some (Some k, r)) (Some (Some l, s)) → (k ≡ l) × (r ≡ s)
same_key k l r s e = let p = ap (pick (Some k, r)) e in (ap (λ q. pick k q.0) p, ap (λ q. q.1) p)

key_or_end : (k : List ℕ) (r s : List Token) → ◌≡◌ {A = Option (Option (List ℕ) × List Token)} (Some (Some k, r)) (Some (None, s)) → ⊥
key_or_end k r s e = let here : Some k ≡ None = ap (λ q. q.0) (ap (pick (Some k, r)) e) in cc

-- the key of an attribute value comes next, and its content after it
abbrev pub KeyIsNext : ℕ → List Token → Type 0
KeyIsNext d s = (a : Av) × (rest : List Token) × HasBytes a × (depth (content_in a) ≤ d) × (s ≡ after_brace a rest)

pub begun : (d : ℕ) (ts s : List Token) → ValueIsNext d ts → ts ≡ token.begin_object ∷ s → KeyIsNext (d - 1) s
begun d ts s h is =
    let deep : depth (json_of h.0) ≡ suc (depth (content_in h.0)) = ap depth (shape h.0) ∙ omega arith in
    let both : token.begin_object ∷ s ≡ token.begin_object ∷ after_brace h.0 h.1 = sym is ∙ h.4 ∙ tokens_are h.0 h.1 in
    (h.0, h.1, h.2, omega (arith, h.3, deep), cc)

-- the content comes next, and the last brace after it
abbrev pub Inside : ℕ → List ℕ → List Token → Type 0
Inside d k t = (a : Av) × (rest : List Token) × HasBytes a × (depth (content_in a) ≤ d) × (k ≡ prefix_text (prefix_in a)) × (t ≡ tokens_of (content_in a) ++ token.end_object ∷ rest)

pub keyed : (d : ℕ) (s t : List Token) (k : List ℕ) → KeyIsNext d s → read_key s ≡ Some (Some k, t) → Inside d k t
keyed d s t k h e =
    let same = same_key k (prefix_text (prefix_in h.0)) t (tokens_of (content_in h.0) ++ token.end_object ∷ h.1) (sym e ∙ ap read_key h.4) in
    (h.0, h.1, h.2, h.3, same.0, same.1)

prefix_back : (p : Prefix) → prefix_of (prefix_text p) ≡ Some p
prefix_back prefix.N = refl
prefix_back prefix.S = refl
prefix_back prefix.Bool = refl
prefix_back prefix.B = refl
prefix_back prefix.Null = refl
prefix_back prefix.M = refl
prefix_back prefix.L = refl
prefix_back prefix.Ss = refl
prefix_back prefix.Ns = refl
prefix_back prefix.Bs = refl

pub content_next : (d : ℕ) (k : List ℕ) (t : List Token) (p : Prefix) → Inside d k t → prefix_of k ≡ Some p → ContentIsNext d p t
content_next d k t p h e =
    let known : Some (prefix_in h.0) ≡ Some p = sym (ap prefix_of h.4 ∙ prefix_back (prefix_in h.0)) ∙ e in
    (h.0, token.end_object ∷ h.1, cc, h.2, h.3, h.5)

pub not_closed : (d : ℕ) (k : List ℕ) (t new : List Token) (p : Prefix) (b : Av) → Inside d k t → ContentStands d t p b new
    → ((rest : List Token) → new ≢ token.end_object ∷ rest) → ⊥
not_closed d k t new p b h stands none = none h.1 (follows d (content_in h.0) stands.0 t new (token.end_object ∷ h.1) h.3 h.5 stands.1)

-- ---- the members of a map

-- a value comes next, and the other members after it
abbrev pub MemberIsNext : ℕ → List Token → Type 0
MemberIsNext d s =
    (a : Av) × (ms : av.Members) × (rest : List Token) × (HasBytes a × MembersHaveBytes ms)
    × (depth (json_of a) ≤ d) × (members_depth (members_json ms) ≤ d) × (s ≡ tokens_of (json_of a) ++ (tokens_within (members_json ms) ++ rest))

pub member_next : (d : ℕ) (ts s : List Token) (k : List ℕ) → MembersAreNext d ts → read_key ts ≡ Some (Some k, s) → MemberIsNext d s
member_next d ts s k (av.no_members, rest, bytes, fits, is) e = absurd (key_or_end k s rest (sym e ∙ ap read_key is))
member_next d ts s k (av.member l a ms, rest, bytes, fits, is) e =
    let same = same_key k l s _ (sym e ∙ ap read_key is) in
    (a, ms, rest, bytes, omega (arith, fits), omega (arith, fits), same.1 ∙ append_assoc (tokens_of (json_of a)) (tokens_within (members_json ms)) rest)

pub value_of_member : (d : ℕ) (s : List Token) → MemberIsNext d s → ValueIsNext d s
value_of_member d s h = (h.0, tokens_within (members_json h.1) ++ h.2, h.3.0, h.4, h.6)

pub members_left : (d : ℕ) (s new : List Token) (j : Data) → MemberIsNext d s → Stands d s j new → MembersAreNext d new
members_left d s new j h stands = (h.1, h.2, h.3.1, h.5, follows d (json_of h.0) j s new (tokens_within (members_json h.1) ++ h.2) h.4 h.6 stands)

-- ---- the elements of a list

abbrev pub ElementIsNext : ℕ → List Token → Type 0
ElementIsNext d s =
    (a : Av) × (as' : av.Elements) × (rest : List Token) × (HasBytes a × ElementsHaveBytes as')
    × (depth (json_of a) ≤ d) × (items_depth (elements_json as') ≤ d) × (s ≡ tokens_of (json_of a) ++ (tokens_in (elements_json as') ++ rest))

pub element_next : (d : ℕ) (ts : List Token) → ElementsAreNext d ts → after_end_array ts ≡ None → ElementIsNext d ts
element_next d ts (av.no_elements, rest, bytes, fits, is) e = let known = ap after_end_array is in absurd cc
element_next d ts (av.element a as', rest, bytes, fits, is) e =
    (a, as', rest, bytes, omega (arith, fits), omega (arith, fits), is ∙ append_assoc (tokens_of (json_of a)) (tokens_in (elements_json as')) rest)

pub elements_left : (d : ℕ) (s new : List Token) (j : Data) → ElementIsNext d s → Stands d s j new → ElementsAreNext d new
elements_left d s new j h stands = (h.1, h.2, h.3.1, h.5, follows d (json_of h.0) j s new (tokens_in (elements_json h.1) ++ h.2) h.4 h.6 stands)

-- ---- the texts of a set

no_text : (ts rest : List Token) (P : Type 0) → ts ≡ token.end_array ∷ rest → after_end_array ts ≡ None → P
no_text ts rest P is e = let known = ap after_end_array is in absurd cc

pub text_next : (ts : List Token) → TextsAreNext ts → after_end_array ts ≡ None → ((text : List ℕ) (rest : List Token) → ts ≢ token.string text ∷ rest) → ⊥
text_next ts ([], rest, is) e none = no_text ts rest ⊥ is e
text_next ts (text ∷ texts, rest, is) e none = none text _ is

pub texts_left : (ts new : List Token) (text : List ℕ) → TextsAreNext ts → ts ≡ token.string text ∷ new → TextsAreNext new
texts_left ts new text ([], rest, is) e = let both = sym is ∙ e in absurd cc
texts_left ts new text (t ∷ texts, rest, is) e = (texts, rest, sym (same_text t text _ new (sym is ∙ e)).1)

-- the base64 text of a byte string comes next, and the others after it
abbrev pub BlobIsNext : List Token → Type 0
BlobIsNext ts =
    (bytes : List ℕ) × (blobs : List (List ℕ)) × (rest : List Token) × (IsBytes bytes × AllByRecursion IsBytes blobs)
    × (ts ≡ token.string (base64_text bytes) ∷ (tokens_in (texts_json (map base64_text blobs)) ++ rest))

pub blob_next : (ts : List Token) → BlobsAreNext ts → after_end_array ts ≡ None → BlobIsNext ts
blob_next ts ([], rest, bytes, is) e = no_text ts rest (BlobIsNext ts) is e
blob_next ts (b ∷ blobs, rest, bytes, is) e = (b, blobs, rest, bytes, is)

pub blob_begins : (ts : List Token) → BlobIsNext ts → ((text : List ℕ) (rest : List Token) → ts ≢ token.string text ∷ rest) → ⊥
blob_begins ts h none = none (base64_text h.0) _ h.4

pub blob_text : (ts new : List Token) (text : List ℕ) → BlobIsNext ts → ts ≡ token.string text ∷ new → BlobsAreNext new
blob_text ts new text h e = (h.1, h.2, h.3.1, sym (same_text (base64_text h.0) text _ new (sym h.4 ∙ e)).1)

-- base64 of bytes is refused only if memory runs out
pub only_memory : (bytes : List ℕ) (text : List ℕ) (f : Fault) → IsBytes bytes → text ≡ base64_text bytes → Refused (refusal_in (bytes_of_base64 text)) f → f ≡ out_of_memory
only_memory bytes text f h is refused =
    let known = ap bytes_of_base64 is ∙ blob_back bytes h in
    elim (subst (λ r. Refused (refusal_in r) f) known refused) [ inl memory ↦ memory | inr never ↦ absurd never ]

pub blob_decodes : (ts new : List Token) (text : List ℕ) (f : Fault) → BlobIsNext ts → ts ≡ token.string text ∷ new
    → Refused (refusal_in (bytes_of_base64 text)) f → f ≡ out_of_memory
blob_decodes ts new text f h e refused = only_memory h.0 text f h.3.0 (sym (same_text (base64_text h.0) text _ new (sym h.4 ∙ e)).0) refused

-- the same of a byte string that is an attribute value
is_blob : (a : Av) → prefix_in a ≡ prefix.B → HasBytes a → (bytes : List ℕ) × IsBytes bytes × (content_in a ≡ json.string (base64_text bytes))
is_blob (av.N text) e h = absurd cc
is_blob (av.S text) e h = absurd cc
is_blob (av.Boolean b) e h = absurd cc
is_blob (av.B bytes) e h = (bytes, h, refl)
is_blob (av.Null b) e h = absurd cc
is_blob (av.M _) e h = absurd cc
is_blob (av.L _) e h = absurd cc
is_blob (av.Ss texts) e h = absurd cc
is_blob (av.Ns texts) e h = absurd cc
is_blob (av.Bs blobs) e h = absurd cc

pub content_decodes : (d : ℕ) (ts new : List Token) (text : List ℕ) (f : Fault) → ContentIsNext d prefix.B ts → ts ≡ token.string text ∷ new
    → Refused (refusal_in (bytes_of_base64 text)) f → f ≡ out_of_memory
content_decodes d ts new text f h e refused =
    let blob = is_blob h.0 h.2 h.3 in
    let known : token.string (base64_text blob.0) ∷ h.1 ≡ token.string text ∷ new = sym (ap (λ j. tokens_of j ++ h.1) blob.2) ∙ sym h.5 ∙ e in
    only_memory blob.0 text f blob.1 (sym (same_text (base64_text blob.0) text h.1 new known).0) refused

-- ---- the object of one item

-- after the item comes the last brace, and nothing else
pub item_ends : (text name : List ℕ) (ms : av.Members) (j : Data) (outer content rest : List Token) → SpellsItem text name ms → tokens text ≡ token.begin_object ∷ outer
    → read_key outer ≡ Some (Some name, content) → Stands 126 content j rest → rest ≡ token.end_object ∷ []
item_ends text name ms j outer content rest h first key stands =
    let item = tokens_of (item_json ms) ++ token.end_object ∷ [] in
    let both : token.begin_object ∷ outer ≡ token.begin_object ∷ token.key name ∷ item = sym first ∙ h.1 in
    let named : outer ≡ token.key name ∷ item = cc in
    let behind : content ≡ item = (same_key name name content item (sym key ∙ ap read_key named)).1 in
    follows 126 (item_json ms) j content rest (token.end_object ∷ []) (omega (arith, h.0.1)) behind stands
