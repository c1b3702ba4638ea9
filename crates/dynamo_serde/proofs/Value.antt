-- The machine, fed with the events of an attribute value, puts in this attribute value.
use Rattle.std.proofs.Common.{◌≡◌, ℕ, ◌∙◌, List, [], ◌∷◌, ◌++◌, map, length, Some, None, Ok, refl, sym, ap, subst, append_assoc, append-nil}
use Rattle.std.specs.FinMap.Entries.{put}
use Rattle.serde.specs.Event as event
use Rattle.serde.specs.Event.{Event, Log, field_key}
use Rattle.serde.specs.Spelling.{spelled}
use Rattle.serde.specs.declared.name.Case.TheVariants.{AsIs}
use Rattle.serde.specs.declared.name.NameKind.TheVariants.{Field}
use Rattle.dynamo_value.specs.Av as av
use Rattle.dynamo_value.specs.Av.{Av, Members, Elements, elements_of}
use Rattle.dynamo_value.specs.Steps.{◌>>=◌}
use Rattle.dynamo_value.specs.View.{text_cmp}
use Rattle.dynamo_ser.specs.Symbols.{SetKind, strings, numbers, blobs}
use Rattle.dynamo_write.specs.Set.{as_set, set_kind, set_element, set_elements, set_of}
use Rattle.dynamo_serde.specs.Symbol.{Symbol, word, a_set, a_number, a_null, converted}
use Rattle.dynamo_serde.specs.Sent.{Frame, State, table, list, TakesAll, IsValueOf}
use Rattle.dynamo_serde.specs.Told.{in_seq, under}
use Rattle.dynamo_serde.specs.Value.{text_events, blob_events, number_events, each, set_events, elements_count, members_count, value_events, members_events, elements_events, in_order, members_in_order, elements_in_order, SendsValue}
use Rattle.dynamo_serde.proofs.Machine.{parted}
use Rattle.dynamo_serde.proofs.Names.{as_is}
use Rattle.dynamo_serde.proofs.Told.{at, Lands, PutsIn, ElementsIn, EntriesIn, Becomes, added, symbol_told, set_told, seq_told, table_told, entry_landed, stands_for, key_waits, ok_same}

-- ---- what is under a symbol

becomes : (symbol : Symbol) (a b : Av) → converted symbol a ≡ Some b → (bs : List Frame) (t : Frame) (new : State) → Becomes symbol (Ok a) bs t new → Lands bs t (Ok b) new
becomes symbol a b to bs t new h =
    let same = ok_same a h.0 h.2 in
    let is : Some b ≡ Some h.1 = sym to ∙ ap (converted symbol) same ∙ h.3 in
    (h.1, h.4, cc (is), h.5, h.6)

text_told : (text : List ℕ) → PutsIn (text_events text) (Ok (av.S text))
text_told text bs t new run = added bs t _ _ run.0 new run.1 run.2

blob_told : (blob : List ℕ) → PutsIn (blob_events blob) (Ok (av.B blob))
blob_told blob bs t new run = let p = run.1.1 in (av.B blob, p.0, refl, p.1, run.2 ∙ p.2)

boolean_told : (b : _) → PutsIn (event.boolean b ∷ []) (Ok (av.Boolean b))
boolean_told b bs t new run = added bs t _ _ run.0 new run.1 run.2

number_told : (text : List ℕ) → PutsIn (number_events text) (Ok (av.N text))
number_told text bs t new run =
    becomes a_number (av.S text) (av.N text) refl bs t new (symbol_told (word a_number) a_number refl (text_events text) (Ok (av.S text)) (text_told text) bs t new run)

null_told : (b : _) → PutsIn (under (word a_null) (event.boolean b ∷ [])) (Ok (av.Null b))
null_told b bs t new run =
    becomes a_null (av.Boolean b) (av.Null b) refl bs t new (symbol_told (word a_null) a_null refl (event.boolean b ∷ []) (Ok (av.Boolean b)) (boolean_told b) bs t new run)

-- ---- sets

each_told : (send : List ℕ → List Event) (make : List ℕ → Av) → ((x : List ℕ) → PutsIn (send x) (Ok (make x))) → (xs : List (List ℕ))
    → ElementsIn (each send xs) (Ok (elements_of (map make xs)))
each_told send make one [] bs before new run = ([], refl, run ∙ ap (λ ys. at bs (list ys)) (sym (append-nil before)))
each_told send make one (x ∷ xs) bs before new run =
    let parts = parted (send x) (each send xs) (at bs (list before)) new run in
    let l = one x bs (list before) parts.0 parts.1 in
    let same = ok_same (make x) l.0 l.2 in
    let top : list (before ++ l.0 ∷ []) ≡ l.1 = cc (l.3) in
    let rest = each_told send make one xs bs (before ++ l.0 ∷ []) new (subst (λ s. TakesAll s (each send xs) new) (l.4 ∙ ap (at bs) (sym top)) parts.2) in (
      l.0 ∷ rest.0,
      ap (λ a. Ok (av.element a (elements_of (map make xs)))) same ∙ ap (λ x. x >>= λ as'. Ok (av.element l.0 as')) rest.1,
      rest.2 ∙ ap (λ ys. at bs (list ys)) (append_assoc before (l.0 ∷ []) rest.0),
    )

made_set : (kind : SetKind) (make : List ℕ → Av) → ((x : List ℕ) → set_element kind (make x) ≡ Ok x) → (xs : List (List ℕ))
    → set_elements kind (elements_of (map make xs)) ≡ Ok xs
made_set kind make one [] = refl
made_set kind make one (x ∷ xs) = rw (one x, made_set kind make one xs) refl

set_is_told : (kind : SetKind) (send : List ℕ → List Event) (make : List ℕ → Av) → set_kind (word (a_set kind)) ≡ Some kind
    → ((x : List ℕ) → PutsIn (send x) (Ok (make x))) → ((x : List ℕ) → set_element kind (make x) ≡ Ok x) → (xs : List (List ℕ))
    → PutsIn (set_events kind send xs) (Ok (set_of kind xs))
set_is_told kind send make symbol one element xs bs t new run =
    let as' = elements_of (map make xs) in
    let inside = seq_told (length xs) (each send xs) (Ok as') (each_told send make one xs) in
    let made : as_set kind (av.L as') ≡ Ok (set_of kind xs) = ap (λ x. x >>= λ ys. Ok (set_of kind ys)) (made_set kind make element xs) in
    subst (λ r. Lands bs t r new) made (set_told (word (a_set kind)) kind symbol (in_seq (length xs) (each send xs)) (Ok (av.L as')) inside bs t new run)

-- ---- each attribute value

mutual
  pub value_told : (a : Av) → PutsIn (value_events a) (Ok (in_order a))
  value_told (av.N text) bs t new run = number_told text bs t new run
  value_told (av.S text) bs t new run = text_told text bs t new run
  value_told (av.Boolean b) bs t new run = boolean_told b bs t new run
  value_told (av.B blob) bs t new run = blob_told blob bs t new run
  value_told (av.Null b) bs t new run = null_told b bs t new run
  value_told (av.M ms) bs t new run = table_told (members_count ms) (members_events ms) (Ok (members_in_order ms)) (members_told ms) bs t new run
  value_told (av.L as') bs t new run = seq_told (elements_count as') (elements_events as') (Ok (elements_in_order as')) (elements_told as') bs t new run
  value_told (av.Ss texts) bs t new run = set_is_told strings text_events av.S refl text_told (λ x. refl) texts bs t new run
  value_told (av.Ns texts) bs t new run = set_is_told numbers number_events av.N refl number_told (λ x. refl) texts bs t new run
  value_told (av.Bs xs) bs t new run = set_is_told blobs blob_events av.B refl blob_told (λ x. refl) xs bs t new run

  members_told : (ms : Members) → EntriesIn (members_events ms) (Ok (members_in_order ms))
  members_told av.no_members bs before new run = ([], refl, run)
  members_told (av.member key a ms) bs before new run =
      let parts = parted (field_key key AsIs ∷ value_events a) (members_events ms) (at bs (table before None 0)) new run in
      let waits : parts.1.0 ≡ at bs (table before (Some key) 0) = key_waits bs before (spelled AsIs Field key) key parts.1.0 (as_is Field key) parts.1.1 in
      let l = value_told a bs (table before (Some key) 0) parts.0 (subst (λ s. TakesAll s (value_events a) parts.0) waits parts.1.2) in
      let entry = entry_landed bs before key (Ok (in_order a)) parts.0 l in
      let same = ok_same (in_order a) entry.0 entry.1 in
      let rest = members_told ms bs (put text_cmp key entry.0 before) new (subst (λ s. TakesAll s (members_events ms) new) entry.2 parts.2) in
      let first : Ok ((key, in_order a) ∷ members_in_order ms) ≡ Ok ((key, entry.0) ∷ members_in_order ms) = ap (λ b. Ok ((key, b) ∷ members_in_order ms)) same in
      ((key, entry.0) ∷ rest.0, first ∙ ap (λ x. x >>= λ more. Ok ((key, entry.0) ∷ more)) rest.1, rest.2)

  elements_told : (as' : Elements) → ElementsIn (elements_events as') (Ok (elements_in_order as'))
  elements_told av.no_elements bs before new run = ([], refl, run ∙ ap (λ ys. at bs (list ys)) (sym (append-nil before)))
  elements_told (av.element a as') bs before new run =
      let parts = parted (value_events a) (elements_events as') (at bs (list before)) new run in
      let l = value_told a bs (list before) parts.0 parts.1 in
      let same = ok_same (in_order a) l.0 l.2 in
      let top : list (before ++ l.0 ∷ []) ≡ l.1 = cc (l.3) in
      let rest = elements_told as' bs (before ++ l.0 ∷ []) new (subst (λ s. TakesAll s (elements_events as') new) (l.4 ∙ ap (at bs) (sym top)) parts.2) in (
        l.0 ∷ rest.0,
        ap (λ b. Ok (av.element b (elements_in_order as'))) same ∙ ap (λ x. x >>= λ bs'. Ok (av.element l.0 bs')) rest.1,
        rest.2 ∙ ap (λ ys. at bs (list ys)) (append_assoc before (l.0 ∷ []) rest.0),
      )

-- what stands for an attribute value's events is this attribute value
pub value_written : (a b : Av) → (log : Log) × SendsValue a (Some []) log × IsValueOf log b → b ≡ a
value_written a b h =
    let sent = h.1 in
    let log : h.0 ≡ Some (value_events sent.0) = sent.2 in
    let is = stands_for (value_events sent.0) (Ok (in_order sent.0)) b (value_told sent.0) (subst (λ l. IsValueOf l b) log h.2) in
    sym (ok_same (in_order sent.0) b is) ∙ sent.1
