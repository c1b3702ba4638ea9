-- What was written of a JSON value as DynamoDB JSON, and what is left to write.
use Rattle.std.proofs.Common.{◌≡◌, ◌⊎◌, ℕ, ◌+◌, ◌<◌, List, [], ◌∷◌, ◌++◌, length, get_or, drop, Result}
use Rattle.std.proofs.Common.{Ok, Err, inl, inr, refl, sym, ap, ap₂, ◌∙◌, subst, append_assoc}
use Rattle.dynamo_json.proofs.Common.{at_drop_more, is_sorted, T, Token, key, Data, compact_text}
use Rattle.dynamo_json.proofs.Common.{Av, members_of, Fault, fault_of, out_of_memory, ◌>>=◌, text_cmp, json_datum}
use Rattle.dynamo_json.proofs.Common.{json_pairs, collect, written, written_pairs, Alike}
use Rattle.dynamo_json.proofs.Common.{collect-sorted, sorted_alike, json_of, members_json, entries}
use Rattle.dynamo_json.proofs.Common.{Prints, behind, stored, stored_members, tokens_within}
use Rattle.dynamo_json.proofs.Common.{tokens_of}
use Rattle.serde_json.specs.Data as json
use Rattle.json.specs.Print.{print}
use Rattle.serde_json.proofs.Texts.{print-outline}
use Rattle.dynamo_value.specs.declared.error.Error.{Error}
use Rattle.dynamo_json.specs.StoredText.{Lacks}

-- ---- the members of an object, in the order in which they are written

abbrev pub stored_pairs : List Token → json.Members → Result (List Token) Fault
stored_pairs so_far ms = behind (λ es. tokens_within (members_json (members_of es))) so_far (written_pairs (json_pairs ms))

member_behind : (so_far new : List Token) (name : List ℕ) (r : Result Av Fault) (rest : Result (List (List ℕ × Av)) Fault)
    → behind (λ a. tokens_of (json_of a)) (so_far ++ key name ∷ []) r ≡ Ok new
    → behind (λ es. tokens_within (members_json (members_of es))) so_far (r >>= λ a. rest >>= λ es. Ok ((name, a) ∷ es))
    ≡ behind (λ es. tokens_within (members_json (members_of es))) new rest
member_behind so_far new name (Ok a) (Ok es) h =
    let wrote : (so_far ++ key name ∷ []) ++ tokens_of (json_of a) ≡ new = cc in
    let left = tokens_within (members_json (members_of es)) in
    ap Ok (sym (append_assoc so_far (key name ∷ []) (tokens_of (json_of a) ++ left))
    ∙ sym (append_assoc (so_far ++ key name ∷ []) (tokens_of (json_of a)) left)
    ∙ ap (λ (ts : List Token). ts ++ left) wrote)
member_behind so_far new name (Ok a) (Err e) h = refl
member_behind so_far new name (Err e) rest h = cc

pub member_stored : (so_far new : List Token) (name : List ℕ) (j : Data) (ms : json.Members) → stored (so_far ++ key name ∷ []) j ≡ Ok new
    → stored_pairs so_far (json.member name j ms) ≡ stored_pairs new ms
member_stored so_far new name j ms h = member_behind so_far new name (written (json_datum j)) (written_pairs (json_pairs ms)) h

-- ---- members in order are collected as they come

abbrev Named : Av → Data → Type 0
Named a j = Unit {0}

after_one : (name : List ℕ) (j : Data) (ms : json.Members) (r : Result Av Fault) (rest : Result (List (List ℕ × Av)) Fault) (es : List (List ℕ × Av))
    → ((fs : List (List ℕ × Av)) → rest ≡ Ok fs → Alike Named fs (entries ms))
    → (r >>= λ a. rest >>= λ fs. Ok ((name, a) ∷ fs)) ≡ Ok es → Alike Named es (entries (json.member name j ms))
after_one name j ms (Ok a) (Ok fs) es all h =
    let is : ((name, a) ∷ fs) ≡ es = cc in
    subst (λ gs. Alike Named gs (entries (json.member name j ms))) is (refl, tt, all fs refl)
after_one name j ms (Ok a) (Err e) es all h = cc
after_one name j ms (Err e) rest es all h = cc

names_kept : (ms : json.Members) (es : List (List ℕ × Av)) → written_pairs (json_pairs ms) ≡ Ok es → Alike Named es (entries ms)
names_kept json.no_members es h =
    let none : [] ≡ es = cc in
    subst (λ gs. Alike Named gs []) none tt
names_kept (json.member name j ms) es h = after_one name j ms (written (json_datum j)) (written_pairs (json_pairs ms)) es (names_kept ms) h

collected : (so_far : List Token) (r : Result (List (List ℕ × Av)) Fault) → ((es : List (List ℕ × Av)) → r ≡ Ok es → collect es ≡ es)
    → behind (λ es. tokens_within (members_json (members_of (collect es)))) so_far r
    ≡ behind (λ es. tokens_within (members_json (members_of es))) so_far r
collected so_far (Ok es) h = ap (λ fs. Ok (so_far ++ tokens_within (members_json (members_of fs)))) (h es refl)
collected so_far (Err e) h = refl

pub in_order : (so_far : List Token) (ms : json.Members) → T (is_sorted text_cmp (entries ms)) → stored_members so_far ms ≡ stored_pairs so_far ms
in_order so_far ms sorted = collected so_far (written_pairs (json_pairs ms)) (λ es h.
    collect-sorted es (subst T (sym (sorted_alike Named es (entries ms) (names_kept ms es h))) sorted))

-- ---- the elements of a list in turn

-- what is left, by the element that comes next
pub next_of : {X Y : Type 0} (left : List X → Y) (after_it : List X → Y) (xs : List X) (i : ℕ) (x : X)
    → i < length xs → x ≡ get_or xs i x → ((rest : List X) → left (x ∷ rest) ≡ after_it rest) → left (drop i xs) ≡ after_it (drop (i + 1) xs)
next_of left after_it xs i x here is step =
    at_drop_more left xs i x here ∙ ap (λ y. left (y ∷ drop (i + 1) xs)) (sym is) ∙ step (drop (i + 1) xs)

-- ---- where writing what is inside stops, the whole stops, for the same reason

pub stopped : {R : Type 0} (Keeps : R → Fault → Type 0) (done : Result (Unit {0}) Error) (e : Error) (inner whole : Result (List Token) R) (new end : List Token)
    → done ≡ Err e → Prints Keeps (Err e) inner new → ((r : R) → inner ≡ Err r → whole ≡ Err r) → Prints Keeps done whole end
stopped Keeps done e inner whole new end is (inl lacks) same = subst (λ q. Prints Keeps q whole end) (sym is) (inl lacks)
stopped Keeps done e (Ok x) whole new end is (inr h) same = absurd h
stopped Keeps done e (Err r) whole new end is (inr h) same =
    subst (λ q. Prints Keeps q whole end) (sym is) (inr (subst (λ w. Lacks Keeps w (fault_of e)) (sym (same r refl)) h))

-- ---- the text of what is written by itself

pub text_of : {A R : Type 0} (f : A → Data) (r : Result A R) (so_far new : List Token) (before text : List ℕ) → so_far ≡ [] → before ≡ []
    → behind (λ x. tokens_of (f x)) so_far r ≡ Ok new → text ≡ before ++ print new
    → (x : A) × (r ≡ Ok x) × (text ≡ compact_text (f x))
text_of f (Ok x) so_far new before text none empty wrote is =
    let whole : so_far ++ tokens_of (f x) ≡ new = cc in
    let tokens : new ≡ tokens_of (f x) = sym whole ∙ ap (λ (ts : List Token). ts ++ tokens_of (f x)) none in
    (x, refl, is ∙ ap₂ (λ (xs ys : List ℕ). xs ++ ys) empty (ap print tokens ∙ print-outline (f x)))
text_of f (Err e) so_far new before text none empty wrote is = cc

-- the fault of what isn't written
pub not_written : (r : Result Av Fault) (so_far : List Token) (fault : Fault)
    → (fault ≡ out_of_memory) ⊎ Lacks (λ f g. f ≡ g) (behind (λ a. tokens_of (json_of a)) so_far r) fault
    → (fault ≡ out_of_memory) ⊎ (r ≡ Err fault)
not_written r so_far fault (inl lacks) = inl lacks
not_written (Ok a) so_far fault (inr h) = absurd h
not_written (Err f) so_far fault (inr h) = inr (ap Err h)
