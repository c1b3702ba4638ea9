-- What was written of an attribute value as plain JSON, and what is left to write.
use Rattle.std.proofs.Common.{◌≡◌, ◌⊎◌, ℕ, ℤ, pos, negsuc, Bool, true, false, List, [], ◌∷◌, ◌++◌, Some, None, Result}
use Rattle.std.proofs.Common.{Ok, Err, inl, inr, refl, sym, ap, ◌∙◌, subst, append_assoc}
use Rattle.dynamo_json.proofs.Common.{decimal, signed_decimal, is_sorted, T, Token, key, Data, Av}
use Rattle.dynamo_json.proofs.Common.{Fault, failed_to_parse_float, out_of_memory, ◌>>=◌, text_cmp, Alike}
use Rattle.dynamo_json.proofs.Common.{collect-sorted, sorted_alike, entries, behind, plain_members}
use Rattle.dynamo_json.proofs.Common.{plain_number, plain_numbers, tokens_in, tokens_within}
use Rattle.dynamo_json.proofs.Common.{tokens_of}
use Rattle.serde_json.specs.Data as json
use Rattle.dynamo_value.specs.Av as av
use Rattle.std.specs.Prelude.{if◌then◌else◌}
use Rattle.dynamo_value.specs.Integer.{i64, u64}
use Rattle.dynamo_value.specs.Refusal.{Refusal, Refused, Says, any_message, fault, refusal_in}
use Rattle.dynamo_de.specs.Answer as answer
use Rattle.dynamo_de.specs.Answer.{Answer}
use Rattle.dynamo_de.specs.Number.{parse, is_float_text}
use Rattle.dynamo_de.specs.ReadJson.{number, read_value, read_elements, read_members, read_number, read_numbers}
use Rattle.dynamo_json.specs.Plain.{members_of}
use Rattle.dynamo_json.specs.StoredText.{Lacks, plain, plain_elements, number_refusal}
use Rattle.dynamo_json.proofs.JsonBack.{ReadsAs, collected_back, members_again}

-- ---- a number

signed_token : (z : ℤ) → tokens_of (number z) ≡ Token.number (signed_decimal z) ∷ []
signed_token (pos n) = refl
signed_token (negsuc n) = refl

-- an integer of 64 bits
pub signed_read : (so_far : List Token) (text : List ℕ) (z : ℤ) → parse i64 text ≡ Some z
    → plain_number so_far text ≡ Ok (so_far ++ Token.number (signed_decimal z) ∷ [])
signed_read so_far text z reads = rw reads (ap (λ ts. Ok (so_far ++ ts)) (signed_token z))

-- one without a sign, which no i64 holds
pub unsigned_read : (so_far : List Token) (text : List ℕ) (n : ℕ) → parse i64 text ≡ None → parse u64 text ≡ Some (pos n)
    → plain_number so_far text ≡ Ok (so_far ++ Token.number (decimal n) ∷ [])
unsigned_read so_far text n none reads = rw (none, reads) refl

no_number_behind : (so_far : List Token) (is : Bool) (f : Fault)
    → behind {A = Data} tokens_of so_far (if is then answer.refused else answer.fault f) ≡ Err (if is then any_message else fault f)
no_number_behind so_far true f = refl
no_number_behind so_far false f = refl

pub no_number : (so_far : List Token) (text : List ℕ) → parse i64 text ≡ None → parse u64 text ≡ None
    → plain_number so_far text ≡ Err (number_refusal text)
no_number so_far text none nor = rw (none, nor) (no_number_behind so_far (is_float_text text) (failed_to_parse_float text))

-- ---- the values of a list and the numbers of a set

-- one more value of what is read in turn
abbrev one_more_item : {R : Type 0} → Result Data R → Result json.Items R → Result json.Items R
one_more_item r rest = r >>= λ j. rest >>= λ js. Ok (json.item j js)

item_behind : (so_far new : List Token) (r : Answer Data) (rest : Answer json.Items)
    → behind tokens_of so_far r ≡ Ok new → behind tokens_in so_far (one_more_item r rest) ≡ behind tokens_in new rest
item_behind so_far new (Ok j) (Ok js) h =
    let wrote : so_far ++ tokens_of j ≡ new = cc in
    ap Ok (sym (append_assoc so_far (tokens_of j) (tokens_in js)) ∙ ap (λ (ts : List Token). ts ++ tokens_in js) wrote)
item_behind so_far new (Ok j) (Err e) h = refl
item_behind so_far new (Err e) rest h = cc

no_item : (so_far : List Token) (r : Answer Data) (rest : Answer json.Items) (why : Refusal)
    → behind tokens_of so_far r ≡ Err why → behind tokens_in so_far (one_more_item r rest) ≡ Err why
no_item so_far (Ok j) rest why h = cc
no_item so_far (Err e) rest why h = h

abbrev pub elements_behind : List Token → av.Elements → Result (List Token) Refusal
elements_behind so_far as' = behind tokens_in so_far (read_elements as')

pub element_read : (so_far new : List Token) (a : Av) (as' : av.Elements) → plain so_far a ≡ Ok new
    → elements_behind so_far (av.element a as') ≡ elements_behind new as'
element_read so_far new a as' h = item_behind so_far new (read_value a) (read_elements as') h

pub element_refused : (so_far : List Token) (a : Av) (as' : av.Elements) (why : Refusal) → plain so_far a ≡ Err why
    → elements_behind so_far (av.element a as') ≡ Err why
element_refused so_far a as' why h = no_item so_far (read_value a) (read_elements as') why h

abbrev pub numbers_behind : List Token → List (List ℕ) → Result (List Token) Refusal
numbers_behind so_far ts = behind tokens_in so_far (read_numbers ts)

pub number_read : (so_far new : List Token) (t : List ℕ) (ts : List (List ℕ)) → plain_number so_far t ≡ Ok new
    → numbers_behind so_far (t ∷ ts) ≡ numbers_behind new ts
number_read so_far new t ts h = item_behind so_far new (read_number t) (read_numbers ts) h

pub number_refused : (so_far : List Token) (t : List ℕ) (ts : List (List ℕ)) (why : Refusal) → plain_number so_far t ≡ Err why
    → numbers_behind so_far (t ∷ ts) ≡ Err why
number_refused so_far t ts why h = no_item so_far (read_number t) (read_numbers ts) why h

-- after the bracket that opens an array comes what is in it
pub opened : (so_far : List Token) (r : Answer json.Items)
    → behind tokens_in (so_far ++ Token.begin_array ∷ []) r ≡ behind (λ js. tokens_of (json.array js)) so_far r
opened so_far (Ok js) = ap Ok (append_assoc so_far (Token.begin_array ∷ []) (tokens_in js))
opened so_far (Err e) = refl

-- from what is left of a set to the whole of it
pub numbers_begun : (old : List Token) (texts : List (List ℕ)) (begun now : List Token)
    (rest all : List (List ℕ)) → begun ≡ old ++ Token.begin_array ∷ []
    → texts ≡ all → numbers_behind now rest ≡ numbers_behind begun all → plain_numbers old texts ≡ numbers_behind now rest
numbers_begun old texts begun now rest all opens is so_far =
    sym (opened old (read_numbers texts)) ∙ ap (λ ts. numbers_behind ts texts) (sym opens) ∙ ap (numbers_behind begun) is ∙ sym so_far

-- the same of a list
pub elements_begun : (old : List Token) (as' : av.Elements) (begun now : List Token) (rest all : av.Elements) → begun ≡ old ++ Token.begin_array ∷ []
    → as' ≡ all → elements_behind now rest ≡ elements_behind begun all → plain_elements old as' ≡ elements_behind now rest
elements_begun old as' begun now rest all opens is so_far =
    sym (opened old (read_elements as')) ∙ ap (λ ts. elements_behind ts as') (sym opens) ∙ ap (elements_behind begun) is ∙ sym so_far

pub opened_object : (so_far : List Token) (r : Answer json.Members)
    → behind tokens_within (so_far ++ Token.begin_object ∷ []) r ≡ behind (λ js. tokens_of (json.object js)) so_far r
opened_object so_far (Ok js) = ap Ok (append_assoc so_far (Token.begin_object ∷ []) (tokens_within js))
opened_object so_far (Err e) = refl

-- ---- the members of a map, each after those before it

abbrev pub read_in_turn : av.Members → Answer json.Members
read_in_turn av.no_members = Ok json.no_members
read_in_turn (av.member t a ms) = read_value a >>= λ j. read_in_turn ms >>= λ js. Ok (json.member t j js)

abbrev pub members_behind : List Token → av.Members → Result (List Token) Refusal
members_behind so_far ms = behind tokens_within so_far (read_in_turn ms)

member_behind : (so_far new : List Token) (name : List ℕ) (r : Answer Data) (rest : Answer json.Members)
    → behind tokens_of (so_far ++ key name ∷ []) r ≡ Ok new
    → behind tokens_within so_far (r >>= λ j. rest >>= λ js. Ok (json.member name j js)) ≡ behind tokens_within new rest
member_behind so_far new name (Ok j) (Ok js) h =
    let wrote : (so_far ++ key name ∷ []) ++ tokens_of j ≡ new = cc in
    ap Ok (sym (append_assoc so_far (key name ∷ []) (tokens_of j ++ tokens_within js))
    ∙ sym (append_assoc (so_far ++ key name ∷ []) (tokens_of j) (tokens_within js))
    ∙ ap (λ (ts : List Token). ts ++ tokens_within js) wrote)
member_behind so_far new name (Ok j) (Err e) h = refl
member_behind so_far new name (Err e) rest h = cc

pub member_read : (so_far new : List Token) (name : List ℕ) (a : Av) (ms : av.Members) → plain (so_far ++ key name ∷ []) a ≡ Ok new
    → members_behind so_far (av.member name a ms) ≡ members_behind new ms
member_read so_far new name a ms h = member_behind so_far new name (read_value a) (read_in_turn ms) h

no_member : (so_far : List Token) (name : List ℕ) (r : Answer Data) (rest : Answer json.Members) (why : Refusal)
    → behind tokens_of (so_far ++ key name ∷ []) r ≡ Err why
    → behind tokens_within so_far (r >>= λ j. rest >>= λ js. Ok (json.member name j js)) ≡ Err why
no_member so_far name (Ok j) rest why h = cc
no_member so_far name (Err e) rest why h = h

pub member_refused : (so_far : List Token) (name : List ℕ) (a : Av) (ms : av.Members) (why : Refusal) → plain (so_far ++ key name ∷ []) a ≡ Err why
    → members_behind so_far (av.member name a ms) ≡ Err why
member_refused so_far name a ms why h = no_member so_far name (read_value a) (read_in_turn ms) why h

-- ---- members in order are read as they come

alike_one : (name : List ℕ) (a : Av) (es : List (List ℕ × Av)) (r : Answer Data) (rest : Answer json.Members) (js : json.Members)
    → read_value a ≡ r → ((ks : json.Members) → rest ≡ Ok ks → Alike ReadsAs es (entries ks))
    → (r >>= λ j. rest >>= λ ks. Ok (json.member name j ks)) ≡ Ok js → Alike ReadsAs ((name, a) ∷ es) (entries js)
alike_one name a es (Ok j) (Ok ks) js is all h =
    let whole : json.member name j ks ≡ js = cc in
    subst (λ ms. Alike ReadsAs ((name, a) ∷ es) (entries ms)) whole (refl, is, all ks refl)
alike_one name a es (Ok j) (Err e) js is all h = cc
alike_one name a es (Err e) rest js is all h = cc

alike : (es : List (List ℕ × Av)) (js : json.Members) → read_in_turn (av.members_of es) ≡ Ok js → Alike ReadsAs es (entries js)
alike [] js h =
    let none : json.no_members ≡ js = cc in
    subst (λ ms. Alike ReadsAs [] (entries ms)) none tt
alike (e ∷ es) js h = alike_one e.0 e.1 es (read_value e.1) (read_in_turn (av.members_of es)) js refl (alike es) h

refused_one : (name : List ℕ) (so_far : json.Members) (es : List (List ℕ × Av)) (r : Answer Data) (rest : Answer json.Members) (why : Refusal)
    → (r >>= λ j. rest >>= λ ks. Ok (json.member name j ks)) ≡ Err why
    → (rest ≡ Err why → (ms : json.Members) → read_members ms (av.members_of es) ≡ Err why)
    → (r >>= λ j. read_members (json.put name j so_far) (av.members_of es)) ≡ Err why
refused_one name so_far es (Ok j) (Ok ks) why h later = cc
refused_one name so_far es (Ok j) (Err e) why h later = later h (json.put name j so_far)
refused_one name so_far es (Err e) rest why h later = h

refused : (es : List (List ℕ × Av)) (why : Refusal) → read_in_turn (av.members_of es) ≡ Err why → (so_far : json.Members)
    → read_members so_far (av.members_of es) ≡ Err why
refused [] why h so_far = cc
refused (e ∷ es) why h so_far = refused_one e.0 so_far es (read_value e.1) (read_in_turn (av.members_of es)) why h (refused es why)

same_members : (so_far : List Token) (es : List (List ℕ × Av)) (r : Answer json.Members)
    → read_in_turn (av.members_of es) ≡ r → T (is_sorted text_cmp es)
    → behind (λ js. tokens_of (json.object js)) so_far (read_members json.no_members (av.members_of es))
    ≡ behind (λ js. tokens_of (json.object js)) so_far r
same_members so_far es (Ok js) is sorted =
    let each = alike es js is in
    let in_order = collect-sorted (entries js) (subst T (sorted_alike ReadsAs es (entries js) each) sorted) in
    ap (behind (λ js. tokens_of (json.object js)) so_far)
    (collected_back [] es (entries js) each ∙ ap (λ fs. Ok (members_of fs)) in_order
    ∙ ap Ok (members_again js))
same_members so_far es (Err why) is sorted =
    ap (behind (λ js. tokens_of (json.object js)) so_far) (refused es why is json.no_members)

pub read_in_order : (so_far : List Token) (es : List (List ℕ × Av)) → T (is_sorted text_cmp es)
    → members_behind (so_far ++ Token.begin_object ∷ []) (av.members_of es)
    ≡ behind (λ js. tokens_of (json.object js)) so_far (read_members json.no_members (av.members_of es))
read_in_order so_far es sorted = opened_object so_far (read_in_turn (av.members_of es))
    ∙ sym (same_members so_far es (read_in_turn (av.members_of es)) refl sorted)

-- from what is left of a map to the whole of it
pub members_begun : (old : List Token) (es : List (List ℕ × Av)) (begun now : List Token) (rest all : av.Members) → T (is_sorted text_cmp es)
    → begun ≡ old ++ Token.begin_object ∷ [] → av.members_of es ≡ all → members_behind now rest ≡ members_behind begun all
    → plain_members old (av.members_of es) ≡ members_behind now rest
members_begun old es begun now rest all sorted opens is so_far =
    sym (read_in_order old es sorted) ∙ ap (λ ts. members_behind ts (av.members_of es)) (sym opens) ∙ ap (members_behind begun) is ∙ sym so_far

-- the content of a map, and what it is read as
pub map_read : (old : List Token) (ms : av.Members) → plain old (av.M ms) ≡ plain_members old ms
map_read old ms = content (read_members json.no_members ms)
  where
    content : (r : Answer json.Members) → behind tokens_of old (r >>= λ js. Ok (json.object js)) ≡ behind (λ js. tokens_of (json.object js)) old r
    content (Ok js) = refl
    content (Err e) = refl

-- the fault of what isn't read
pub not_read : (r : Answer Data) (so_far : List Token) (f : Fault)
    → (f ≡ out_of_memory) ⊎ Lacks Says (behind tokens_of so_far r) f → Refused (refusal_in r) f
not_read r so_far f (inl lacks) = inl lacks
not_read (Ok j) so_far f (inr h) = absurd h
not_read (Err why) so_far f (inr h) = inr h
