-- Reading an attribute value, one level at a time.
use Rattle.std.proofs.Common.{◌≡◌, ◌⊎◌, ℕ, suc, ◌≤◌, true, false, List, [], ◌∷◌, ◌++◌, map, Option, Some, None, Result, Ok, Err, String, Vec, Global, string_bytes, refl, ap, sym, subst, ◌∙◌, inl, inr, arith}
use Rattle.std.specs.Prelude.{is_some, OnOk}
use Rattle.std.specs.Result.{is_err}
use Rattle.std.specs.FinMap.Entries.{put}
use Rattle.dynamo_value.specs.View.{text_cmp, view}
use Rattle.dynamo_value.specs.declared.attribute_value.AttributeValue.{AttributeValue}
use Rattle.dynamo_value.specs.Av as av
use Rattle.dynamo_value.specs.Av.{Av, elements_of}
use Rattle.dynamo_value.specs.Base64.{bytes_of_base64}
use Rattle.dynamo_value.specs.Fault.{Fault, out_of_memory}
use Rattle.dynamo_value.specs.Prefix as prefix
use Rattle.dynamo_value.specs.Prefix.{Prefix, prefix_of}
use Rattle.dynamo_value.specs.PrefixView.{prefix_view}
use Rattle.dynamo_value.specs.declared.prefix.Prefix as declared
use Rattle.dynamo_value.specs.Refusal.{Refused, refusal_in}
use Rattle.dynamo_value.specs.SingleKey.{several_keys, unknown_key, known}
use Rattle.dynamo_de.specs.Access.{NextElement}
use Rattle.dynamo_de.specs.Answer.{Answer, Gives, After}
use Rattle.dynamo_de.specs.Ignored.{source_height, sources_height, entries_height}
use Rattle.dynamo_de.specs.Promises.{Reading, promised, refuse, Agrees}
use Rattle.dynamo_value.specs.Steps.{◌>>=◌}
use Rattle.dynamo_de.specs.ReadAttribute.{read_attribute, read_content, read_elements, read_members, read_none, own_refusals, own_refusals_in, refusals_of, Opened, whole, in_map, in_list, attribute_from, entry_in, entry_from, opened_from, content_opened, read_opened, item_from, read_each, read_entries, read_text, read_texts, read_blob, read_blobs, no_map, refusal_of}
use Rattle.dynamo_de.specs.Reading as reading
use Rattle.dynamo_de.specs.Reading.{taken, read_string, read_bool}
use Rattle.dynamo_de.specs.Reads.{ReadsEach, ReadsList}
use Rattle.dynamo_de.specs.Shows.{TakesEntry}
use Rattle.dynamo_de.specs.Source.{Source, attribute, key_text, number_text, plain_text, byte_string, Entry, entries_of, values_of, each}
use Rattle.dynamo_de.specs.Visitors.{claims_map, take_entries, claims_seq, take_elements}
use Rattle.dynamo_value.proofs.Steps.{bind_same, bind_in_turn}
use Rattle.dynamo_de.proofs.Ignored.{elements_high, members_high, flat}
use Rattle.dynamo_de.proofs.Reading.{number_cases}
use Rattle.dynamo_de.proofs.Promises.{EachFrom, each_more, each_stops, answer_stops, value_answered, fault_answered, value_read, value_agrees, part_agrees, stops, refusal_agrees, told, each_reads}

-- ---- what an attribute value is read from

-- a number is no map
unknown_map : {A : Type 0} (t : List ℕ) (next : List Entry → Reading A) → refuse (no_map (number_text t)) ≡ (promised (reading.read_entries (number_text t)) >>= next)
unknown_map t next = number_cases (λ x. refuse (refusal_of (taken claims_map take_entries x)) ≡ (promised (taken claims_map take_entries x) >>= next)) (λ z. refl) (λ z. refl) (λ t. refl) (λ f. refl) t

own_same : (ms : av.Members) → own_refusals ms ≡ own_refusals_in (entries_of ms)
own_same av.no_members = refl
own_same (av.member key a ms) = ap (λ rs. refusals_of (promised (known key) >>= λ p. read_content p a) ++ rs) (own_same ms)

members_same : (so_far : List (List ℕ × Av)) (ms : av.Members) → read_members so_far ms ≡ read_entries so_far (entries_of ms)
members_same so_far av.no_members = refl
members_same so_far (av.member key a ms) = bind_same (read_attribute a) (λ value. members_same (put text_cmp key value so_far) ms)

pub item_as_entries : (s : Source) → item_from s ≡ (promised (reading.read_entries s) >>= read_entries [])
item_as_entries (attribute (av.M ms)) = members_same [] ms
item_as_entries (attribute _) = refl
item_as_entries (key_text t) = refl
item_as_entries (number_text t) = unknown_map t (read_entries [])
item_as_entries (plain_text t) = refl
item_as_entries (byte_string bytes) = refl

as_elements : Reading (List Av) → Reading av.Elements
as_elements x = x >>= λ values. Ok (elements_of values)

elements_same : (as' : av.Elements) → read_elements as' ≡ as_elements (read_each attribute_from (values_of as'))
unfolding as_elements
elements_same av.no_elements = refl
elements_same (av.element a as') = rw (elements_same as') (in_turn (read_attribute a) (read_each attribute_from (values_of as')))
  where
    in_turn : (x : Reading Av) (y : Reading (List Av)) → (x >>= λ value. as_elements y >>= λ values. Ok (av.element value values)) ≡ as_elements (x >>= λ value. y >>= λ values. Ok (value ∷ values))
    in_turn (Ok value) (Ok values) = refl
    in_turn (Ok value) (Err rs) = refl
    in_turn (Err rs) y = refl

none_same : (source : List ℕ → Source) → ((t : List ℕ) → attribute_from (source t) ≡ refuse (no_map (source t))) → (ts : List (List ℕ)) → read_none source ts ≡ as_elements (read_each attribute_from (each source ts))
unfolding as_elements
none_same source h [] = refl
none_same source h (t ∷ ts) = rw (h t) refl

as_list : Reading av.Elements → Reading Av
as_list x = x >>= λ elements. Ok (av.L elements)

listed : (x : Reading (List Av)) → as_list (as_elements x) ≡ (x >>= λ values. Ok (av.L (elements_of values)))
unfolding as_list as_elements
listed (Ok values) = refl
listed (Err rs) = refl

-- what is opened whole is the value
in_whole : {A : Type 0} (x : Reading A) (f : A → Av) → (x >>= λ y. Ok (f y)) ≡ ((x >>= λ y. Ok (whole (f y))) >>= read_opened)
in_whole (Ok y) f = refl
in_whole (Err rs) f = refl

content_same : (p : Prefix) (a : Av) → read_content p a ≡ (content_opened p (attribute a) >>= read_opened)
unfolding as_list
content_same prefix.N a = in_whole (read_text (attribute a)) av.N
content_same prefix.S a = in_whole (read_text (attribute a)) av.S
content_same prefix.Bool a = in_whole (promised (read_bool (attribute a))) av.Boolean
content_same prefix.B a = in_whole (read_blob (attribute a)) av.B
content_same prefix.Null a = in_whole (promised (read_bool (attribute a))) av.Null
content_same prefix.M (av.M ms) = ap (λ x. x >>= λ members. Ok (av.M members)) (members_same [] ms)
content_same prefix.M _ = refl
content_same prefix.L (av.L as') = ap as_list (elements_same as') ∙ listed _
content_same prefix.L (av.Ss ts) = ap as_list (none_same plain_text (λ t. refl) ts) ∙ listed _
content_same prefix.L (av.Ns ts) = ap as_list (none_same number_text (λ t. refl) ts) ∙ listed _
content_same prefix.L (av.Bs ts) = ap as_list (none_same byte_string (λ t. refl) ts) ∙ listed _
content_same prefix.L _ = refl
content_same prefix.Ss a = in_whole (read_texts (attribute a)) av.Ss
content_same prefix.Ns a = in_whole (read_texts (attribute a)) av.Ns
content_same prefix.Bs a = in_whole (read_blobs (attribute a)) av.Bs

abbrev entry_under : Source → Prefix → Reading (Prefix × Source)
entry_under content p = Ok (p, content)

abbrev under_prefix : Prefix × Source → Reading Opened
under_prefix e = content_opened e.0 e.1

pub attribute_opened : (s : Source) → attribute_from s ≡ (opened_from s >>= read_opened)
attribute_opened (attribute (av.M av.no_members)) = refl
attribute_opened (attribute (av.M (av.member key a av.no_members))) = one (known key)
  where
    one : (x : Answer Prefix) → (promised x >>= λ p. read_content p a) ≡ (((promised x >>= entry_under (attribute a)) >>= under_prefix) >>= read_opened)
    one (Ok p) = content_same p a
    one (Err r) = refl
attribute_opened (attribute (av.M (av.member key a (av.member other b ms)))) = ap (λ rs. Err (several_keys ∷ rs)) (own_same (av.member key a (av.member other b ms)))
attribute_opened (attribute _) = refl
attribute_opened (key_text t) = refl
attribute_opened (number_text t) =
    let entries = promised (reading.read_entries (number_text t)) in
    unknown_map t (λ es. (entry_in es >>= under_prefix) >>= read_opened)
    ∙ sym (ap (λ x. x >>= read_opened) (bind_in_turn entries entry_in under_prefix) ∙ bind_in_turn entries (λ es. entry_in es >>= under_prefix) read_opened)
attribute_opened (plain_text t) = refl
attribute_opened (byte_string bytes) = refl

-- ---- how deep it goes

pub entries_lower : {M : Type 0} (entries : M → List Entry) (s : Source) (m : M) → Gives entries (reading.read_entries s) (Ok m) → suc (entries_height (entries m)) ≤ source_height s
entries_lower entries s m h = below s (value_answered entries (reading.read_entries s) m h)
  where
    below : (s : Source) → promised (reading.read_entries s) ≡ Ok (entries m) → suc (entries_height (entries m)) ≤ source_height s
    below (attribute (av.M ms)) e = let same : entries_of ms ≡ entries m = cc in rw (← same, members_high ms) (omega arith)
    below (attribute _) e = cc
    below (key_text t) e = cc
    below (number_text t) e = absurd (number_cases (λ x. promised (taken claims_map take_entries x) ≡ Ok (entries m) → ⊥) (λ z e. cc) (λ z e. cc) (λ t e. cc) (λ f e. cc) t e)
    below (plain_text t) e = cc
    below (byte_string bytes) e = cc

pub elements_lower : {L : Type 0} (elements : L → List Source) (s : Source) (l : L) → Gives elements (reading.read_elements s) (Ok l) → suc (sources_height (elements l)) ≤ source_height s
elements_lower elements s l h = below s (value_answered elements (reading.read_elements s) l h)
  where
    flat_below : (source : List ℕ → Source) → ((t : List ℕ) → source_height (source t) ≡ 0) → (ts : List (List ℕ)) → each source ts ≡ elements l → suc (sources_height (elements l)) ≤ 1
    flat_below source none ts same = rw (← same, flat source none ts) (omega arith)

    below : (s : Source) → promised (reading.read_elements s) ≡ Ok (elements l) → suc (sources_height (elements l)) ≤ source_height s
    below (attribute (av.L as')) e = let same : values_of as' ≡ elements l = cc in rw (← same, elements_high as') (omega arith)
    below (attribute (av.Ss ts)) e = flat_below plain_text (λ t. refl) ts cc
    below (attribute (av.Ns ts)) e = flat_below number_text (λ t. refl) ts cc
    below (attribute (av.Bs ts)) e = flat_below byte_string (λ t. refl) ts cc
    below (attribute _) e = cc
    below (key_text t) e = cc
    below (number_text t) e = absurd (number_cases (λ x. promised (taken claims_seq take_elements x) ≡ Ok (elements l) → ⊥) (λ z e. cc) (λ z e. cc) (λ t e. cc) (λ f e. cc) t e)
    below (plain_text t) e = cc
    below (byte_string bytes) e = cc

-- how deep what isn't read yet goes
abbrev pub opened_height : Opened → ℕ
opened_height (whole a) = 0
opened_height (in_map es) = entries_height es
opened_height (in_list ss) = sources_height ss

-- it nests less deep than the whole
pub opened_lower : {V : Type 0} (seen : V → Opened) (s : Source) (v : V) → Agrees seen (opened_from s) (Ok v) → suc (opened_height (seen v)) ≤ source_height s
opened_lower seen s v h = below (reading.read_entries s) (λ es is. entries_lower (λ es. es) s es (subst (λ x. Gives (λ es. es) x (Ok es)) (sym is) refl)) (value_read seen (opened_from s) v h)
  where
    flat_value : {A : Type 0} (x : Reading A) (f : A → Av) → (x >>= λ y. Ok (whole (f y))) ≡ Ok (seen v) → opened_height (seen v) ≡ 0
    flat_value (Ok y) f is = let same : whole (f y) ≡ seen v = cc in ap opened_height (sym same)
    flat_value (Err rs) f is = cc

    flat_content : (c : Source) → opened_height (seen v) ≡ 0 → opened_height (seen v) ≤ source_height c
    flat_content c none = rw none (omega arith)

    content_lower : (p : Prefix) (c : Source) → content_opened p c ≡ Ok (seen v) → opened_height (seen v) ≤ source_height c
    content_lower prefix.N c is = flat_content c (flat_value (read_text c) av.N is)
    content_lower prefix.S c is = flat_content c (flat_value (read_text c) av.S is)
    content_lower prefix.Bool c is = flat_content c (flat_value (promised (read_bool c)) av.Boolean is)
    content_lower prefix.B c is = flat_content c (flat_value (read_blob c) av.B is)
    content_lower prefix.Null c is = flat_content c (flat_value (promised (read_bool c)) av.Null is)
    content_lower prefix.M c is = of_map (reading.read_entries c) (λ es same. entries_lower (λ es. es) c es (subst (λ x. Gives (λ es. es) x (Ok es)) (sym same) refl)) is
      where
        of_map : (x : Answer (List Entry)) → ((es : List Entry) → x ≡ Ok es → suc (entries_height es) ≤ source_height c) → (promised x >>= λ es. Ok (in_map es)) ≡ Ok (seen v) → opened_height (seen v) ≤ source_height c
        of_map (Ok es) high is = let same : in_map es ≡ seen v = cc in rw (← same) (omega (arith, high es refl))
        of_map (Err r) high is = cc
    content_lower prefix.L c is = of_list (reading.read_elements c) (λ ss same. elements_lower (λ ss. ss) c ss (subst (λ x. Gives (λ ss. ss) x (Ok ss)) (sym same) refl)) is
      where
        of_list : (x : Answer (List Source)) → ((ss : List Source) → x ≡ Ok ss → suc (sources_height ss) ≤ source_height c) → (promised x >>= λ ss. Ok (in_list ss)) ≡ Ok (seen v) → opened_height (seen v) ≤ source_height c
        of_list (Ok ss) high is = let same : in_list ss ≡ seen v = cc in rw (← same) (omega (arith, high ss refl))
        of_list (Err r) high is = cc
    content_lower prefix.Ss c is = flat_content c (flat_value (read_texts c) av.Ss is)
    content_lower prefix.Ns c is = flat_content c (flat_value (read_texts c) av.Ns is)
    content_lower prefix.Bs c is = flat_content c (flat_value (read_blobs c) av.Bs is)

    alone : (es : List Entry) → (entry_in es >>= under_prefix) ≡ Ok (seen v) → suc (entries_height es) ≤ source_height s → suc (opened_height (seen v)) ≤ source_height s
    alone [] is high = cc
    alone (e ∷ []) is high = under (known e.0) is
      where
        under : (x : Answer Prefix) → ((promised x >>= entry_under (attribute e.1)) >>= under_prefix) ≡ Ok (seen v) → suc (opened_height (seen v)) ≤ source_height s
        under (Ok p) is = omega (arith, high, content_lower p (attribute e.1) is)
        under (Err r) is = cc
    alone (e ∷ f ∷ es) is high = cc

    below : (x : Answer (List Entry)) → ((es : List Entry) → x ≡ Ok es → suc (entries_height es) ≤ source_height s) → ((promised x >>= entry_in) >>= under_prefix) ≡ Ok (seen v) → suc (opened_height (seen v)) ≤ source_height s
    below (Ok es) high is = alone es is (high es refl)
    below (Err r) high is = cc

-- ---- texts

text_agrees : (x : Answer (List ℕ)) (r : Result (String Global) Fault) → Gives string_bytes x r → Agrees string_bytes (promised x) r
text_agrees x (Ok text) h = value_agrees string_bytes (promised x) text (value_answered string_bytes x text h)
text_agrees x (Err f) h = fault_answered string_bytes x f h

pub texts_read : (s : Source) (r : Result (Vec (String Global) Global) Fault) → After (reading.read_elements s) (ReadsList (λ e. Gives string_bytes (read_string e))) r
    → Agrees (λ v. map string_bytes v.items) (read_texts s) r
texts_read s r h = all (reading.read_elements s) r h
  where
    each : (ss : List Source) (r : Result (List (String Global)) Fault) → ReadsEach (λ e. Gives string_bytes (read_string e)) ss r → Agrees (map string_bytes) (read_each read_text ss) r
    each = each_reads string_bytes read_text (λ e. Gives string_bytes (read_string e)) (λ e. text_agrees (read_string e))

    all : (x : Answer (List Source)) (r : Result (Vec (String Global) Global) Fault) → After x (ReadsList (λ e. Gives string_bytes (read_string e))) r
        → Agrees (λ v. map string_bytes v.items) (promised x >>= read_each read_text) r
    all (Ok ss) (Ok v) h = part_agrees (map string_bytes) (λ v. v.items) (read_each read_text ss) (Ok v) (each ss (Ok v.items) h)
    all (Ok ss) (Err f) h = part_agrees (map string_bytes) (λ (v : Vec (String Global) Global). v.items) (read_each read_text ss) (Err f) (each ss (Err f) h)
    all (Err g) (Ok v) h = absurd h
    all (Err g) (Err f) h = inl h

-- ---- base64

pub blob_refused : (s : Source) (text : String Global) (f g : Fault) → Gives string_bytes (read_string s) (Ok text) → Refused (refusal_in (bytes_of_base64 (string_bytes text))) f
    → (g ≡ f) ⊎ (g ≡ out_of_memory) → (g ≡ out_of_memory) ⊎ Agrees {V = Vec ℕ Global} (λ b. b.items) (read_blob s) (Err g)
blob_refused s text f g is refused says =
    rw (value_answered string_bytes (read_string s) text is) (refusal_agrees (λ (b : Vec ℕ Global). b.items) (bytes_of_base64 (string_bytes text)) g (told _ f g says refused))

pub blobs_of : {L : Type 0} (elements : L → List Source) (s : Source) (l : L) → Gives elements (reading.read_elements s) (Ok l) → read_each read_blob (elements l) ≡ read_blobs s
blobs_of elements s l is = rw (value_answered elements (reading.read_elements s) l is) refl

-- ---- entries that are taken in order

entry_of_entries : {M : Type 0} (entries : M → List Entry) (s : Source) (m : M) → Gives entries (reading.read_entries s) (Ok m) → entry_from s ≡ entry_in (entries m)
entry_of_entries entries s m is = rw (value_answered entries (reading.read_entries s) m is) refl

-- how the entry that is read is seen
abbrev pub entry_seen : {D : Type 0} → (D → Source) → declared.Prefix × D → Prefix × Source
entry_seen source e = (prefix_view e.0, source e.1)

pub none_entered : {M V : Type 0} (entries : M → List Entry) (seen : V → Prefix × Source) (s : Source) (f : Fault) → (f ≡ out_of_memory) ⊎ Gives entries (reading.read_entries s) (Err f) → (f ≡ out_of_memory) ⊎ Agrees seen (entry_from s) (Err f)
none_entered entries seen s f h = answer_stops entries seen entry_in (reading.read_entries s) f h

-- what the prefix opens is what the whole opens
pub entry_opens : {V : Type 0} (seen : V → Prefix × Source) (s : Source) (v : V) → Agrees seen (entry_from s) (Ok v) → opened_from s ≡ content_opened (seen v).0 (seen v).1
entry_opens seen s v is = ap (λ x. x >>= under_prefix) (value_read seen (entry_from s) v is)

pub entry_stops : {V W : Type 0} (seen : V → Prefix × Source) (then : W → Opened) (s : Source) (f : Fault) → (f ≡ out_of_memory) ⊎ Agrees seen (entry_from s) (Err f) → (f ≡ out_of_memory) ⊎ Agrees then (opened_from s) (Err f)
entry_stops seen then s f (inl lacks) = inl lacks
entry_stops seen then s f (inr h) = inr (stops seen then under_prefix (entry_from s) f h)

-- what is read of it is what is read of the whole
pub opened_is : {V : Type 0} (seen : V → Opened) (s : Source) (v : V) → Agrees seen (opened_from s) (Ok v) → attribute_from s ≡ read_opened (seen v)
opened_is seen s v is = attribute_opened s ∙ ap (λ x. x >>= read_opened) (value_read seen (opened_from s) v is)

pub opened_stops : {V : Type 0} (seen : V → Opened) (s : Source) (f : Fault) → (f ≡ out_of_memory) ⊎ Agrees seen (opened_from s) (Err f) → (f ≡ out_of_memory) ⊎ Agrees view (attribute_from s) (Err f)
opened_stops seen s f (inl lacks) = inl lacks
opened_stops seen s f (inr h) = inr (subst (λ x. Agrees view x (Err f)) (sym (attribute_opened s)) (stops seen view read_opened (opened_from s) f h))

-- ---- elements that are taken and opened in order

module _ {V E : Type 0} (fault : E → Fault) (seen : V → Opened) where
  -- the next of what was left, with what is left after it
  abbrev pub TakesOpened : List Source → List Source → Result (Option V) E → Type 0
  TakesOpened left new r = NextElement fault (λ s. Agrees seen (opened_from s)) left new r

  -- it nests less deep than what was left
  pub next_lower : (left new : List Source) (o : V) → TakesOpened left new (Ok (Some o)) → (suc (opened_height (seen o)) ≤ sources_height left) × (sources_height new ≤ sources_height left)
  next_lower [] new o t = cc
  next_lower (s ∷ ss) new o t = let lower = opened_lower seen s o t.1 in rw t.0 (omega (arith, lower), omega arith)

  module _ (all : Reading (List Av)) (vs : List AttributeValue) where
    pub next_more : (v : AttributeValue) (left new : List Source) (o : V) → TakesOpened left new (Ok (Some o)) → EachFrom view attribute_from vs left ≡ all
        → Agrees view (read_opened (seen o)) (Ok v) → EachFrom view attribute_from (vs ++ v ∷ []) new ≡ all
    next_more v [] new o t so_far h = cc
    next_more v (s ∷ ss) new o t so_far h =
        rw t.0 (sym (each_more view attribute_from vs v s ss (subst (λ x. Agrees view x (Ok v)) (sym (opened_is seen s o t.1)) h)) ∙ so_far)

    -- the fault of opening an element, and that of what it holds, is the whole's
    pub next_stops : {W : Type 0} (then : W → List Av) (left new : List Source) (e : E) → TakesOpened left new (Err e) → EachFrom view attribute_from vs left ≡ all
        → (fault e ≡ out_of_memory) ⊎ Agrees then all (Err (fault e))
    next_stops then [] new e t so_far = cc
    next_stops then (s ∷ ss) new e t so_far = fails (opened_stops seen s (fault e) t.1)
      where
        fails : (fault e ≡ out_of_memory) ⊎ Agrees view (attribute_from s) (Err (fault e)) → (fault e ≡ out_of_memory) ⊎ Agrees then all (Err (fault e))
        fails (inl lacks) = inl lacks
        fails (inr h) = inr (subst (λ x. Agrees then x (Err (fault e))) so_far (each_stops view attribute_from then vs s ss (fault e) h))

    pub next_fails : {W : Type 0} (then : W → List Av) (left new : List Source) (o : V) (f : Fault) → TakesOpened left new (Ok (Some o)) → EachFrom view attribute_from vs left ≡ all
        → (f ≡ out_of_memory) ⊎ Agrees view (read_opened (seen o)) (Err f) → (f ≡ out_of_memory) ⊎ Agrees then all (Err f)
    next_fails then left new o f t so_far (inl lacks) = inl lacks
    next_fails then [] new o f t so_far (inr h) = cc
    next_fails then (s ∷ ss) new o f t so_far (inr h) =
        inr (subst (λ x. Agrees then x (Err f)) so_far (each_stops view attribute_from then vs s ss f (subst (λ x. Agrees view x (Err f)) (sym (opened_is seen s o t.1)) h)))

pub item_stops : {M W : Type 0} (entries : M → List Entry) (tells : W → av.Members) (s : Source) (f : Fault) → (f ≡ out_of_memory) ⊎ Gives entries (reading.read_entries s) (Err f) → (f ≡ out_of_memory) ⊎ Agrees tells (item_from s) (Err f)
item_stops entries tells s f h = subst (λ x. (f ≡ out_of_memory) ⊎ Agrees tells x (Err f)) (sym (item_as_entries s)) (answer_stops entries tells (read_entries []) (reading.read_entries s) f h)

pub item_of_entries : {M : Type 0} (entries : M → List Entry) (s : Source) (m : M) → Gives entries (reading.read_entries s) (Ok m) → item_from s ≡ read_entries [] (entries m)
item_of_entries entries s m is = item_as_entries s ∙ rw (value_answered entries (reading.read_entries s) m is) refl

module _ {D M : Type 0} (source : D → Source) (entries : M → List Entry) where
  named : (e : Entry) (d : D × D) (name : String Global) → source d.0 ≡ key_text e.0 → Gives string_bytes (read_string (source d.0)) (Ok name) → string_bytes name ≡ e.0
  named e d name is given = subst (λ s. Gives string_bytes (read_string s) (Ok name)) is given

  -- the one entry of a map
  pub one_entry : (s : Source) (m : M) (new end : List Entry) (d : D × D) (name : String Global) (p : Prefix) → Gives entries (reading.read_entries s) (Ok m)
      → TakesEntry source (entries m) new (Some d) → TakesEntry source new end None → Gives string_bytes (read_string (source d.0)) (Ok name)
      → prefix_of (string_bytes name) ≡ Some p → entry_from s ≡ Ok (p, source d.1)
  one_entry s m new end d name p is first last given known = entry_of_entries entries s m is ∙ alone (entries m) new first last
    where
      alone : (es new : List Entry) → TakesEntry source es new (Some d) → TakesEntry source new end None → entry_in es ≡ Ok (p, source d.1)
      alone [] new t l = cc
      alone (e ∷ es) (f ∷ fs) t l = absurd l
      alone (e ∷ []) [] t l = rw (t.2, ← named e d name t.1 given, known) refl
      alone (e ∷ f ∷ es) [] t l = absurd (nil≢cons t.0)
        where
          nil≢cons : [] ≡ f ∷ es → ⊥
          nil≢cons h = cc

  -- the refusals of none that is alone, and of one under a key that is no prefix
  pub several_refused : {V : Type 0} (seen : V → Prefix × Source) (s : Source) (m : M) (new end : List Entry) (d : D × D) (o : Option (D × D)) (f g : Fault) → Gives entries (reading.read_entries s) (Ok m)
      → TakesEntry source (entries m) new (Some d) → TakesEntry source new end o → is_some o ≡ true → Refused (Some several_keys) f → (g ≡ f) ⊎ (g ≡ out_of_memory)
      → (g ≡ out_of_memory) ⊎ Agrees seen (entry_from s) (Err g)
  several_refused seen s m new end d None f g is first second more refused says = cc
  several_refused seen s m new end d (Some b) f g is first second more refused says =
      subst (λ x. (g ≡ out_of_memory) ⊎ Agrees seen x (Err g)) (sym (entry_of_entries entries s m is)) (along (entries m) new first second (told (Some several_keys) f g says refused))
    where
      along : (es new : List Entry) → TakesEntry source es new (Some d) → TakesEntry source new end (Some b) → Refused (Some several_keys) g → (g ≡ out_of_memory) ⊎ Agrees seen (entry_in es) (Err g)
      along [] new t u h = cc
      along (e ∷ []) [] t u h = cc
      along (e ∷ []) (x ∷ xs) t u h = cc
      along (e ∷ x ∷ es) new t u (inl lacks) = inl lacks
      along (e ∷ x ∷ es) new t u (inr says) = inr (inl says)

  pub unknown_refused : {V : Type 0} (seen : V → Prefix × Source) (s : Source) (m : M) (new end : List Entry) (d : D × D) (name : String Global) (f g : Fault) → Gives entries (reading.read_entries s) (Ok m)
      → TakesEntry source (entries m) new (Some d) → TakesEntry source new end None → Gives string_bytes (read_string (source d.0)) (Ok name) → prefix_of (string_bytes name) ≡ None
      → Refused (Some (unknown_key (string_bytes name))) f → (g ≡ f) ⊎ (g ≡ out_of_memory) → (g ≡ out_of_memory) ⊎ Agrees seen (entry_from s) (Err g)
  unknown_refused seen s m new end d name f g is first last given none refused says =
      subst (λ x. (g ≡ out_of_memory) ⊎ Agrees seen x (Err g)) (sym (entry_of_entries entries s m is)) (along (entries m) new first last (told (Some (unknown_key (string_bytes name))) f g says refused))
    where
      along : (es new : List Entry) → TakesEntry source es new (Some d) → TakesEntry source new end None → Refused (Some (unknown_key (string_bytes name))) g
          → (g ≡ out_of_memory) ⊎ Agrees seen (entry_in es) (Err g)
      along [] new t l h = cc
      along (e ∷ es) (x ∷ xs) t l h = absurd l
      along (e ∷ []) [] t l (inl lacks) = inl lacks
      along (e ∷ []) [] t l (inr says) = rw (← named e d name t.1 given, none) (inr (inl says))
      along (e ∷ x ∷ es) [] t l h = cc

  pub member_more : (all : Reading av.Members) (so_far : List (List ℕ × Av)) (name : String Global) (v : AttributeValue) (es new : List Entry) (d : D × D) → TakesEntry source es new (Some d)
      → read_entries so_far es ≡ all → Gives string_bytes (read_string (source d.0)) (Ok name) → Agrees view (attribute_from (source d.1)) (Ok v)
      → read_entries (put text_cmp (string_bytes name) (view v) so_far) new ≡ all
  member_more all so_far name v [] new d t is given agrees = cc
  member_more all so_far name v (e ∷ es) new d t is given agrees =
      let same_value : read_attribute e.1 ≡ Ok (view v) = value_read view (read_attribute e.1) v (subst (λ s. Agrees view (attribute_from s) (Ok v)) t.2 agrees) in
      rw (named e d name t.1 given, t.0) (ap (λ x. x >>= λ value. read_entries (put text_cmp e.0 value so_far) es) (sym same_value) ∙ is)

  pub member_stops : {W : Type 0} (told : W → av.Members) (all : Reading av.Members) (so_far : List (List ℕ × Av)) (es new : List Entry) (d : D × D) (f : Fault) → TakesEntry source es new (Some d)
      → read_entries so_far es ≡ all → (f ≡ out_of_memory) ⊎ Agrees view (attribute_from (source d.1)) (Err f) → (f ≡ out_of_memory) ⊎ Agrees told all (Err f)
  member_stops told all so_far es new d f t is (inl lacks) = inl lacks
  member_stops told all so_far [] new d f t is (inr agrees) = cc
  member_stops told all so_far (e ∷ es) new d f t is (inr agrees) =
      inr (subst (λ x. Agrees told x (Err f)) is (stops view told (λ value. read_entries (put text_cmp e.0 value so_far) es) (read_attribute e.1) f (subst (λ s. Agrees view (attribute_from s) (Err f)) t.2 agrees)))

-- what holds where there is no error
pub kept : {T E P : Type 0} (r : Result T E) → is_err r ≡ false → OnOk r P → P
kept (Ok x) is h = h
kept (Err e) is h = cc
