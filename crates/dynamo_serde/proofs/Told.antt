-- The machine, fed with the events of a datum, puts in what the library writes for the datum.
use Rattle.std.proofs.Common.{◌≡◌, ℕ, ℤ, pos, negsuc, ◌+◌, arith, List, [], ◌∷◌, ◌++◌, Bool, true, false, Option, Some, None, Result, Ok, Err, refl, sym, ap, ◌∙◌, subst, ⊎_elim, append_assoc, append-nil}
use Rattle.std.specs.Prelude.{encode_utf8, decimal}
use Rattle.std.specs.Fmt.{signed_decimal}
use Rattle.std.specs.FinMap.Entries.{put}
use Rattle.serde.specs.Event as event
use Rattle.serde.specs.Event.{Event, seq_ends, map_ends, key_ends, variant_key}
use Rattle.serde.specs.Spelling.{spelled}
use Rattle.serde.specs.declared.name.Case.TheVariants.{AsIs}
use Rattle.serde.specs.declared.name.NameKind.TheVariants.{Field, Variant}
use Rattle.dynamo_value.specs.Av as av
use Rattle.dynamo_value.specs.Av.{Av, elements_of, members_of}
use Rattle.dynamo_value.specs.Fault.{Fault}
use Rattle.dynamo_value.specs.Steps.{◌>>=◌}
use Rattle.dynamo_value.specs.View.{text_cmp}
use Rattle.dynamo_ser.specs.Datum as datum
use Rattle.dynamo_ser.specs.Datum.{Datum, IntegerKind, i8, i16, i32, i64, i128, u8, u16, u32, u64, u128}
use Rattle.dynamo_ser.specs.Key.{bool_text, key_text}
use Rattle.dynamo_ser.specs.Symbols.{SetKind}
use Rattle.dynamo_write.specs.Collect.{collect_onto}
use Rattle.dynamo_write.specs.Set.{set_kind, as_set, named}
use Rattle.dynamo_write.specs.Written.{written, written_elements, written_pairs, written_fields}
use Rattle.dynamo_value.proofs.Steps.{bind_itself, bind_in_turn}
use Rattle.dynamo_serde.specs.Symbol.{Symbol, a_set, set_or, other_named, named as symbol_named, taken, converted}
use Rattle.dynamo_serde.specs.Sent.{Frame, State, whole, list, table, marked, start, filled, put_in, symbol_in, variant_in, share_in, made, Turns, Keys, Adds, Closes, TakesAll, IsValueOf}
use Rattle.dynamo_serde.specs.Told.{events, elements_events, pairs_events, fields_events, natural, integer_event, newtype, under, in_seq, in_map, elements_count, pairs_count, fields_count, IsKeyTold, IsTold, AreTold, PairsTold, FieldsTold}
use Rattle.std.proofs.Props.{props}
use mathlib.Core.Logic.{∥∥₁_elim}
use Rattle.dynamo_value.specs.Equal.{av_eq, av_eq_decides}
use Rattle.dynamo_serde.proofs.Machine.{parted}
use Rattle.dynamo_serde.proofs.Names.{as_is}

-- where a value may come, and where a key is read
abbrev pub at : List Frame → Frame → State
at bs t = record { below = bs; top = t; at_key = false; flattens = false }

abbrev in_key : List Frame → Frame → State
in_key bs t = record { below = bs; top = t; at_key = true; flattens = false }

-- the value is put in
abbrev pub Lands : List Frame → Frame → Result Av Fault → State → Type 0
Lands bs t r new = (a : Av) × (inner : Frame) × (r ≡ Ok a) × (put_in t a ≡ Some inner) × (new ≡ at bs inner)

-- the key waits
abbrev Waits : List Frame → List (List ℕ × Av) → Datum → State → Type 0
Waits bs es k new = (text : List ℕ) × (key_text k ≡ Ok text) × (new ≡ in_key bs (table es (Some text) 0))

-- ---- names and lists

not_empty : {A : Type 0} (xs : List A) (x : A) → [] ≡ xs ++ x ∷ [] → ⊥
not_empty [] x e = cc
not_empty (y ∷ xs) x e = cc

last_same : {A : Type 0} (xs : List A) (x : A) (ys : List A) (y : A) → xs ++ x ∷ [] ≡ ys ++ y ∷ [] → (xs ≡ ys) × (x ≡ y)
last_same [] x [] y e = (refl, cc)
last_same [] x (z ∷ ys) y e = let rest : [] ≡ ys ++ y ∷ [] = cc in absurd (not_empty ys y rest)
last_same (w ∷ xs) x [] y e = let rest : [] ≡ xs ++ x ∷ [] = cc in absurd (not_empty xs x rest)
last_same (w ∷ xs) x (z ∷ ys) y e =
    let rest : xs ++ x ∷ [] ≡ ys ++ y ∷ [] = cc in
    let both = last_same xs x ys y rest in let first : w ≡ z = cc in
    ((λ i. first i ∷ both.0 i), both.1)

-- the key is one that waits
pub key_waits : (bs : List Frame) (es : List (List ℕ × Av)) (spelling key : List ℕ) (new : State) → spelling ≡ key → Keys (at bs (table es None 0)) spelling new → new ≡ at bs (table es (Some key) 0)
key_waits bs es spelling key new same turn =
    let top : table es (Some spelling) 0 ≡ turn.0 = cc (turn.1) in
    turn.2 ∙ sym (ap (at bs) top) ∙ ap (λ text. at bs (table es (Some text) 0)) same

abbrev Same : Result Av Fault → Result Av Fault → Type 0
Same x y = x ≡ y

pub ok_same : (a b : Av) → Same (Ok a) (Ok b) → a ≡ b
ok_same a b e = cc (e)

then_ok : (r : Result Av Fault) (a b : Av) (make : Av → Av) → r ≡ Ok a → Same (Ok (make a)) (Ok b) → (r >>= λ x. Ok (make x)) ≡ Ok b
then_ok r a b make is same = ap (λ x. x >>= λ y. Ok (make y)) is ∙ same

-- ---- scalars

untrue : {P : Type 0} → false ≡ true → P
untrue e = let no : ⊥ = cc in absurd no

pub added : (bs : List Frame) (t : Frame) (key : List ℕ) (a : Av) (mid new : State) → Adds (at bs t) key a mid → new ≡ mid → Lands bs t (Ok a) new
added bs t key a mid new adds is = ⊎_elim (λ k. untrue k.0) (λ p. (a, p.1.0, refl, p.1.1, is ∙ p.1.2)) adds.1

key_added : (bs : List Frame) (es : List (List ℕ × Av)) (key : List ℕ) (a : Av) (mid new : State) (k : Datum) → key_text k ≡ Ok key
    → Adds (in_key bs (table es None 0)) key a mid → new ≡ mid → Waits bs es k new
key_added bs es key a mid new k has adds is =
    ⊎_elim (λ p. let top : table es (Some key) 0 ≡ p.1.0 = cc (p.1.1) in (key, has, is ∙ p.1.2 ∙ ap (in_key bs) (sym top)))
    (λ p. untrue (sym p.0)) adds.1

counted : (z : ℤ) (bs : List Frame) (t : Frame) (new : State) → TakesAll (at bs t) (natural z ∷ []) new → Lands bs t (Ok (av.N (signed_decimal z))) new
counted (pos n) bs t new run = added bs t _ _ run.0 new run.1 run.2
counted (negsuc n) bs t new run = added bs t _ _ run.0 new run.1 run.2

integer_told : (kind : IntegerKind) (z : ℤ) (bs : List Frame) (t : Frame) (new : State) → TakesAll (at bs t) (integer_event kind z ∷ []) new → Lands bs t (Ok (av.N (signed_decimal z))) new
integer_told i8 z bs t new run = added bs t _ _ run.0 new run.1 run.2
integer_told i16 z bs t new run = added bs t _ _ run.0 new run.1 run.2
integer_told i32 z bs t new run = added bs t _ _ run.0 new run.1 run.2
integer_told i64 z bs t new run = added bs t _ _ run.0 new run.1 run.2
integer_told i128 z bs t new run = added bs t _ _ run.0 new run.1 run.2
integer_told u8 z bs t new run = counted z bs t new run
integer_told u16 z bs t new run = counted z bs t new run
integer_told u32 z bs t new run = counted z bs t new run
integer_told u64 z bs t new run = counted z bs t new run
integer_told u128 z bs t new run = counted z bs t new run

key_counted : (kind : IntegerKind) (z : ℤ) (bs : List Frame) (es : List (List ℕ × Av)) (new : State) → TakesAll (in_key bs (table es None 0)) (natural z ∷ []) new → Waits bs es (datum.integer kind z) new
key_counted kind (pos n) bs es new run = key_added bs es (decimal n) (av.N (decimal n)) run.0 new (datum.integer kind (pos n)) refl run.1 run.2
key_counted kind (negsuc n) bs es new run = key_added bs es (signed_decimal (negsuc n)) (av.N (signed_decimal (negsuc n))) run.0 new (datum.integer kind (negsuc n)) refl run.1 run.2

key_integer : (kind : IntegerKind) (z : ℤ) (bs : List Frame) (es : List (List ℕ × Av)) (new : State) → TakesAll (in_key bs (table es None 0)) (integer_event kind z ∷ []) new → Waits bs es (datum.integer kind z) new
key_integer i8 z bs es new run = key_added bs es (signed_decimal z) (av.N (signed_decimal z)) run.0 new (datum.integer i8 z) refl run.1 run.2
key_integer i16 z bs es new run = key_added bs es (signed_decimal z) (av.N (signed_decimal z)) run.0 new (datum.integer i16 z) refl run.1 run.2
key_integer i32 z bs es new run = key_added bs es (signed_decimal z) (av.N (signed_decimal z)) run.0 new (datum.integer i32 z) refl run.1 run.2
key_integer i64 z bs es new run = key_added bs es (signed_decimal z) (av.N (signed_decimal z)) run.0 new (datum.integer i64 z) refl run.1 run.2
key_integer i128 z bs es new run = key_added bs es (signed_decimal z) (av.N (signed_decimal z)) run.0 new (datum.integer i128 z) refl run.1 run.2
key_integer u8 z bs es new run = key_counted u8 z bs es new run
key_integer u16 z bs es new run = key_counted u16 z bs es new run
key_integer u32 z bs es new run = key_counted u32 z bs es new run
key_integer u64 z bs es new run = key_counted u64 z bs es new run
key_integer u128 z bs es new run = key_counted u128 z bs es new run

pub nothing_told : (bs : List Frame) (t : Frame) (new : State) → TakesAll (at bs t) (event.nothing ∷ []) new → Lands bs t (Ok (av.Null true)) new
nothing_told bs t new run = ⊎_elim (λ k. untrue k.0) (λ p. (av.Null true, p.1.0, refl, p.1.1, run.2 ∙ p.1.2)) run.1.1

-- ---- what ends

closed : (bs : List Frame) (t top : Frame) (a : Av) (mid : State) → Closes (at (bs ++ t ∷ []) top) a mid → (inner : Frame) × (put_in t a ≡ Some inner) × (mid ≡ at bs inner)
closed bs t top a mid c =
    let same = last_same bs t c.0 c.1 c.3 in
    (c.2, subst (λ f. put_in f a ≡ Some c.2) (sym same.1) c.4, c.5 ∙ ap (λ xs. at xs c.2) (sym same.0))

-- the frames of a list and of a map that was opened
list_ends : (bs : List Frame) (t : Frame) (as' : List Av) (new : State) → TakesAll (at (bs ++ t ∷ []) (list as')) (seq_ends ∷ []) new → Lands bs t (Ok (av.L (elements_of as'))) new
list_ends bs t as' new run =
    let same : as' ≡ run.1.0 = cc (run.1.1) in
    let c = closed bs t (list as') (av.L (elements_of run.1.0)) run.0 run.1.2 in
    (av.L (elements_of as'), c.0, refl, subst (λ xs. put_in t (av.L (elements_of xs)) ≡ Some c.0) (sym same) c.1, run.2 ∙ c.2)

not_shared : (f : Frame) (es : List (List ℕ × Av)) (key : Option (List ℕ)) → share_in f ≡ Some (table es key 0) → ⊥
not_shared (whole a) es key e = cc
not_shared (list as') es key e = cc
not_shared (table ms k n) es key e = let up : n + 1 ≡ 0 = cc in omega arith
not_shared (marked symbol a) es key e = cc

not_marked_shared : (f : Frame) (symbol : Symbol) (a : Option Av) → share_in f ≡ Some (marked symbol a) → ⊥
not_marked_shared (whole b) symbol a e = cc
not_marked_shared (list as') symbol a e = cc
not_marked_shared (table ms k n) symbol a e = cc
not_marked_shared (marked other b) symbol a e = cc

map_ends_so : (bs : List Frame) (t top : Frame) (a : Av) (new : State) → ((f : Frame) → share_in f ≡ Some top → ⊥) → made top ≡ Some a
    → TakesAll (at (bs ++ t ∷ []) top) (map_ends ∷ []) new → Lands bs t (Ok a) new
map_ends_so bs t top a new alone makes run =
    ⊎_elim (λ s. absurd (alone s.0 s.1))
    (λ e. let same : Some a ≡ Some e.0 = sym makes ∙ e.1 in let is : a ≡ e.0 = cc (same) in
    let c = closed bs t top e.0 run.0 e.2 in
    (a, c.0, refl, subst (λ b. put_in t b ≡ Some c.0) (sym is) c.1, run.2 ∙ c.2)) run.1

-- ---- keys

key_told : (k : Datum) → IsKeyTold k → (bs : List Frame) (es : List (List ℕ × Av)) (new : State) → TakesAll (in_key bs (table es None 0)) (events k) new → Waits bs es k new
key_told (datum.boolean b) is bs es new run = key_added bs es (bool_text b) (av.Boolean b) run.0 new (datum.boolean b) refl run.1 run.2
key_told (datum.integer kind z) is bs es new run = key_integer kind z bs es new run
key_told (datum.char c) is bs es new run = key_added bs es (encode_utf8 c) (av.S (encode_utf8 c)) run.0 new (datum.char c) refl run.1 run.2
key_told (datum.string text) is bs es new run = key_added bs es text (av.S text) run.0 new (datum.string text) refl run.1 run.2
key_told (datum.unit_variant variant) is bs es new run =
    let name = spelled AsIs Variant variant.name in
    let waits = key_added bs es name (av.S name) run.0 new (datum.string name) refl run.1 run.2 in
    (variant.name, refl, subst (λ text. new ≡ in_key bs (table es (Some text) 0)) (cc (waits.1) ∙ as_is Variant variant.name) waits.2)
key_told (datum.newtype_struct name content) is bs es new run =
    key_told content is.1 bs es new (subst (λ kind. TakesAll (in_key bs (table es None 0)) (newtype kind name (events content)) new) is.0 run)
key_told (datum.bytes bytes) is bs es new run = absurd is
key_told datum.none is bs es new run = absurd is
key_told datum.unit is bs es new run = absurd is
key_told (datum.unit_struct name) is bs es new run = absurd is
key_told (datum.some content) is bs es new run = absurd is
key_told (datum.newtype_variant variant content) is bs es new run = absurd is
key_told (datum.seq ds) is bs es new run = absurd is
key_told (datum.tuple ds) is bs es new run = absurd is
key_told (datum.tuple_struct name ds) is bs es new run = absurd is
key_told (datum.tuple_variant variant ds) is bs es new run = absurd is
key_told (datum.map ps) is bs es new run = absurd is
key_told (datum.struct name fs) is bs es new run = absurd is
key_told (datum.struct_variant variant fs) is bs es new run = absurd is
key_told (datum.refuse text) is bs es new run = absurd is

-- ---- what holds others, by what they hold

-- events that put in what r says, wherever a value may come
abbrev pub PutsIn : List Event → Result Av Fault → Type 0
PutsIn es r = (bs : List Frame) (t : Frame) (new : State) → TakesAll (at bs t) es new → Lands bs t r new

-- the key of a map that waits takes what lands
abbrev pub Entry : List Frame → List (List ℕ × Av) → List ℕ → Result Av Fault → State → Type 0
Entry bs es key r new = (a : Av) × (r ≡ Ok a) × (new ≡ at bs (table (put text_cmp key a es) None 0))

pub entry_landed : (bs : List Frame) (es : List (List ℕ × Av)) (key : List ℕ) (r : Result Av Fault) (new : State) → Lands bs (table es (Some key) 0) r new → Entry bs es key r new
entry_landed bs es key r new l =
    let same : table (put text_cmp key l.0 es) None 0 ≡ l.1 = cc (l.3) in
    (l.0, l.2, l.4 ∙ ap (at bs) (sym same))

-- a map of one member, whose key is no symbol
under_told : (name : List ℕ) → symbol_named name ≡ None → (es : List Event) (r : Result Av Fault) → PutsIn es r → PutsIn (under name es) (r >>= λ a. Ok (av.M (members_of ((name, a) ∷ []))))
under_told name plain es r inside bs t new run =
    let open_at = at (bs ++ t ∷ []) (table [] None 0) in
    let begun : run.0 ≡ open_at = ⊎_elim (λ k. untrue k.0) (λ o. o.1) run.1.1 in
    let run1 : TakesAll open_at (variant_key name AsIs ∷ (es ++ map_ends ∷ [])) new = subst (λ s. TakesAll s (variant_key name AsIs ∷ (es ++ map_ends ∷ [])) new) begun run.2 in
    let turn : Keys open_at (spelled AsIs Variant name) run1.0 = subst (λ kind. Turns (λ f. variant_in f kind (spelled AsIs Variant name)) open_at run1.0) plain run1.1 in
    let waiting = at (bs ++ t ∷ []) (table [] (Some name) 0) in
    let waits : run1.0 ≡ waiting = key_waits (bs ++ t ∷ []) [] (spelled AsIs Variant name) name run1.0 (as_is Variant name) turn in
    let parts = parted es (map_ends ∷ []) waiting new (subst (λ s. TakesAll s (es ++ map_ends ∷ []) new) waits run1.2) in
    let entry = entry_landed (bs ++ t ∷ []) [] name r parts.0 (inside (bs ++ t ∷ []) (table [] (Some name) 0) parts.0 parts.1) in
    let whole_map : Av = av.M (members_of ((name, entry.0) ∷ [])) in
    let ends = map_ends_so bs t (table ((name, entry.0) ∷ []) None 0) whole_map new (λ f. not_shared f _ _) refl (subst (λ s. TakesAll s (map_ends ∷ []) new) entry.2 parts.2) in
    (ends.0, ends.1, then_ok r entry.0 ends.0 (λ a. av.M (members_of ((name, a) ∷ []))) entry.1 ends.2, ends.3, ends.4)

filled_so : (symbol : Symbol) (x : Option Av) (f : Frame) → filled symbol x ≡ Some f → (b : Av) × (x ≡ Some b) × (f ≡ marked symbol (Some b))
filled_so symbol (Some b) f e = let same : marked symbol (Some b) ≡ f = cc (e) in (b, refl, sym same)
filled_so symbol None f e = let no : ⊥ = cc (e) in absurd no

-- what lands under a symbol, and what it becomes
abbrev pub Becomes : Symbol → Result Av Fault → List Frame → Frame → State → Type 0
Becomes symbol r bs t new = (a b : Av) × (r ≡ Ok a) × (converted symbol a ≡ Some b) × (inner : Frame) × (put_in t b ≡ Some inner) × (new ≡ at bs inner)

-- a map whose key is a symbol
pub symbol_told : (name : List ℕ) (symbol : Symbol) → symbol_named name ≡ Some symbol → (es : List Event) (r : Result Av Fault) → PutsIn es r
    → (bs : List Frame) (t : Frame) (new : State) → TakesAll (at bs t) (under name es) new → Becomes symbol r bs t new
symbol_told name symbol is es r inside bs t new run =
    let open_at = at (bs ++ t ∷ []) (table [] None 0) in
    let begun : run.0 ≡ open_at = ⊎_elim (λ k. untrue k.0) (λ o. o.1) run.1.1 in
    let run1 : TakesAll open_at (variant_key name AsIs ∷ (es ++ map_ends ∷ [])) new = subst (λ s. TakesAll s (variant_key name AsIs ∷ (es ++ map_ends ∷ [])) new) begun run.2 in
    let turn : Turns (λ f. symbol_in f symbol) open_at run1.0 = subst (λ k. Turns (λ f. variant_in f k (spelled AsIs Variant name)) open_at run1.0) is run1.1 in
    let waiting = at (bs ++ t ∷ []) (marked symbol None) in
    let top : marked symbol None ≡ turn.0 = cc (turn.1) in
    let waits : run1.0 ≡ waiting = turn.2 ∙ ap (at (bs ++ t ∷ [])) (sym top) in
    let parts = parted es (map_ends ∷ []) waiting new (subst (λ s. TakesAll s (es ++ map_ends ∷ []) new) waits run1.2) in
    let l = inside (bs ++ t ∷ []) (marked symbol None) parts.0 parts.1 in
    let f = filled_so symbol (converted symbol l.0) l.1 l.3 in
    let ends = map_ends_so bs t (marked symbol (Some f.0)) f.0 new (λ g. not_marked_shared g _ _) refl (subst (λ s. TakesAll s (map_ends ∷ []) new) (l.4 ∙ ap (at (bs ++ t ∷ [])) f.2) parts.2) in
    (l.0, ends.0, l.2, f.1 ∙ ap Some (ok_same f.0 ends.0 ends.2), ends.1, ends.3, ends.4)

taken_so : (x : Result Av Fault) (b : Av) → taken x ≡ Some b → x ≡ Ok b
taken_so (Ok a) b e = let same : a ≡ b = cc (e) in ap Ok same
taken_so (Err f) b e = let no : ⊥ = cc (e) in absurd no

-- a map whose key is the symbol of a kind of sets
pub set_told : (name : List ℕ) (kind : SetKind) → set_kind name ≡ Some kind → (es : List Event) (r : Result Av Fault) → PutsIn es r → PutsIn (under name es) (r >>= as_set kind)
set_told name kind is es r inside bs t new run =
    let h = symbol_told name (a_set kind) (ap (λ k. set_or k (other_named name)) is) es r inside bs t new run in
    (h.1, h.4, ap (λ x. x >>= as_set kind) h.2 ∙ taken_so (as_set kind h.0) h.1 h.3, h.5, h.6)

newtype_told : (k : Option SetKind) (name : List ℕ) → set_kind name ≡ k → (es : List Event) (r : Result Av Fault) → PutsIn es r → PutsIn (newtype k name es) (r >>= named k)
newtype_told None name is es r inside bs t new run = subst (λ x. Lands bs t x new) (sym (bind_itself r)) (inside bs t new run)
newtype_told (Some kind) name is es r inside bs t new run = set_told name kind is es r inside bs t new run

-- elements, entries and fields, after those that were put in
abbrev pub ElementsIn : List Event → Result av.Elements Fault → Type 0
ElementsIn es r = (bs : List Frame) (before : List Av) (new : State) → TakesAll (at bs (list before)) es new → (as' : List Av) × (r ≡ Ok (elements_of as')) × (new ≡ at bs (list (before ++ as')))

abbrev pub EntriesIn : List Event → Result (List (List ℕ × Av)) Fault → Type 0
EntriesIn es r = (bs : List Frame) (before : List (List ℕ × Av)) (new : State) → TakesAll (at bs (table before None 0)) es new → (more : List (List ℕ × Av)) × (r ≡ Ok more) × (new ≡ at bs (table (collect_onto before more) None 0))

pub seq_told : (n : ℕ) (es : List Event) (r : Result av.Elements Fault) → ElementsIn es r → PutsIn (event.seq_begins (Some n) ∷ (es ++ seq_ends ∷ [])) (r >>= λ as'. Ok (av.L as'))
seq_told n es r inside bs t new run =
    let open_at = at (bs ++ t ∷ []) (list []) in
    let parts = parted es (seq_ends ∷ []) open_at new (subst (λ s. TakesAll s (es ++ seq_ends ∷ []) new) run.1.1 run.2) in
    let h = inside (bs ++ t ∷ []) [] parts.0 parts.1 in
    let ends = list_ends bs t h.0 new (subst (λ s. TakesAll s (seq_ends ∷ []) new) h.2 parts.2) in
    (ends.0, ends.1, ap (λ x. x >>= λ as'. Ok (av.L as')) h.1 ∙ ends.2, ends.3, ends.4)

pub table_told : (n : ℕ) (es : List Event) (r : Result (List (List ℕ × Av)) Fault) → EntriesIn es r → PutsIn (event.map_begins (Some n) ∷ (es ++ map_ends ∷ [])) (r >>= λ more. Ok (av.M (members_of (collect_onto [] more))))
table_told n es r inside bs t new run =
    let open_at = at (bs ++ t ∷ []) (table [] None 0) in
    let begun : run.0 ≡ open_at = ⊎_elim (λ k. untrue k.0) (λ o. o.1) run.1.1 in
    let parts = parted es (map_ends ∷ []) open_at new (subst (λ s. TakesAll s (es ++ map_ends ∷ []) new) begun run.2) in
    let h = inside (bs ++ t ∷ []) [] parts.0 parts.1 in
    let ends = map_ends_so bs t (table (collect_onto [] h.0) None 0) (av.M (members_of (collect_onto [] h.0))) new (λ f. not_shared f _ _) refl (subst (λ s. TakesAll s (map_ends ∷ []) new) h.2 parts.2) in
    (ends.0, ends.1, ap (λ x. x >>= λ more. Ok (av.M (members_of (collect_onto [] more)))) h.1 ∙ ends.2, ends.3, ends.4)

all_ok : (x : Result (List ℕ) Fault) (y : Result Av Fault) (z : Result (List (List ℕ × Av)) Fault) (text : List ℕ) (a : Av) (more : List (List ℕ × Av))
    → x ≡ Ok text → y ≡ Ok a → z ≡ Ok more → (x >>= λ t. y >>= λ b. z >>= λ es. Ok ((t, b) ∷ es)) ≡ Ok ((text, a) ∷ more)
all_ok x y z text a more p q r = rw (p, q, r)

-- ---- each datum

mutual
  pub told : (d : Datum) → IsTold d → PutsIn (events d) (written d)
  told (datum.boolean b) is bs t new run = added bs t _ _ run.0 new run.1 run.2
  told (datum.integer kind z) is bs t new run = integer_told kind z bs t new run
  told (datum.char c) is bs t new run = added bs t _ _ run.0 new run.1 run.2
  told (datum.string text) is bs t new run = added bs t _ _ run.0 new run.1 run.2
  told (datum.bytes bytes) is bs t new run = let p = run.1.1 in (av.B bytes, p.0, refl, p.1, run.2 ∙ p.2)
  told datum.none is bs t new run = nothing_told bs t new run
  told datum.unit is bs t new run = nothing_told bs t new run
  told (datum.unit_struct name) is bs t new run = nothing_told bs t new run
  told (datum.some content) is bs t new run = told content is bs t new run
  told (datum.unit_variant variant) is bs t new run =
      subst (λ name. Lands bs t (Ok (av.S name)) new) (as_is Variant variant.name) (added bs t _ _ run.0 new run.1 run.2)
  told (datum.newtype_struct name content) is bs t new run = newtype_told (set_kind name) name refl (events content) (written content) (told content is) bs t new run
  told (datum.newtype_variant variant content) is bs t new run = under_told variant.name is.0 (events content) (written content) (told content is.1) bs t new run
  told (datum.seq ds) is bs t new run = seq_told (elements_count ds) (elements_events ds) (written_elements ds) (elements_told ds is) bs t new run
  told (datum.tuple ds) is bs t new run = seq_told (elements_count ds) (elements_events ds) (written_elements ds) (elements_told ds is) bs t new run
  told (datum.tuple_struct name ds) is bs t new run = seq_told (elements_count ds) (elements_events ds) (written_elements ds) (elements_told ds is) bs t new run
  told (datum.tuple_variant variant ds) is bs t new run =
      let under_name : Av → Av = λ a. av.M (members_of ((variant.name, a) ∷ [])) in
      subst (λ r. Lands bs t r new) (bind_in_turn (written_elements ds) (λ x. Ok (av.L x)) (λ a. Ok (under_name a)))
      (under_told variant.name is.0 (in_seq (elements_count ds) (elements_events ds)) (written_elements ds >>= λ as'. Ok (av.L as')) (seq_told (elements_count ds) (elements_events ds) (written_elements ds) (elements_told ds is.1)) bs t new run)
  told (datum.map ps) is bs t new run = table_told (pairs_count ps) (pairs_events ps) (written_pairs ps) (pairs_told ps is) bs t new run
  told (datum.struct name fs) is bs t new run = table_told (fields_count fs) (fields_events fs) (written_fields fs) (fields_told fs is) bs t new run
  told (datum.struct_variant variant fs) is bs t new run =
      let under_name : Av → Av = λ a. av.M (members_of ((variant.name, a) ∷ [])) in
      let map_of : List (List ℕ × Av) → Av = λ more. av.M (members_of (collect_onto [] more)) in
      subst (λ r. Lands bs t r new) (bind_in_turn (written_fields fs) (λ x. Ok (map_of x)) (λ a. Ok (under_name a)))
      (under_told variant.name is.0 (in_map (fields_count fs) (fields_events fs)) (written_fields fs >>= λ more. Ok (map_of more)) (table_told (fields_count fs) (fields_events fs) (written_fields fs) (fields_told fs is.1)) bs t new run)
  told (datum.refuse text) is bs t new run = absurd is

  elements_told : (ds : datum.Elements) → AreTold ds → ElementsIn (elements_events ds) (written_elements ds)
  elements_told datum.no_elements is bs before new run = ([], refl, run ∙ ap (λ xs. at bs (list xs)) (sym (append-nil before)))
  elements_told (datum.element d ds) is bs before new run =
      let parts = parted (events d) (elements_events ds) (at bs (list before)) new run in
      let l = told d is.0 bs (list before) parts.0 parts.1 in
      let top : list (before ++ l.0 ∷ []) ≡ l.1 = cc (l.3) in
      let rest = elements_told ds is.1 bs (before ++ l.0 ∷ []) new (subst (λ s. TakesAll s (elements_events ds) new) (l.4 ∙ ap (at bs) (sym top)) parts.2) in
      (l.0 ∷ rest.0, rw (l.2, rest.1), rest.2 ∙ ap (λ xs. at bs (list xs)) (append_assoc before (l.0 ∷ []) rest.0))

  pairs_told : (ps : datum.Pairs) → PairsTold ps → EntriesIn (pairs_events ps) (written_pairs ps)
  pairs_told datum.no_pairs is bs before new run = ([], refl, run)
  pairs_told (datum.pair k d ps) is bs before new run =
      let parts = parted (event.key_begins ∷ (events k ++ key_ends ∷ events d)) (pairs_events ps) (at bs (table before None 0)) new run in
      let in_pair = parted (events k) (key_ends ∷ events d) (in_key bs (table before None 0)) parts.0 (subst (λ s. TakesAll s (events k ++ key_ends ∷ events d) parts.0) parts.1.1 parts.1.2) in
      let w = key_told k is.0 bs before in_pair.0 in_pair.1 in
      let ended = subst (λ s. TakesAll s (key_ends ∷ events d) parts.0) w.2 in_pair.2 in
      let l = told d is.1 bs (table before (Some w.0) 0) parts.0 (subst (λ s. TakesAll s (events d) parts.0) ended.1 ended.2) in
      let entry = entry_landed bs before w.0 (written d) parts.0 l in
      let rest = pairs_told ps is.2 bs (put text_cmp w.0 entry.0 before) new (subst (λ s. TakesAll s (pairs_events ps) new) entry.2 parts.2) in
      ((w.0, entry.0) ∷ rest.0, all_ok (key_text k) (written d) (written_pairs ps) w.0 entry.0 rest.0 w.1 entry.1 rest.1, rest.2)

  fields_told : (fs : datum.Fields) → FieldsTold fs → EntriesIn (fields_events fs) (written_fields fs)
  fields_told datum.no_fields is bs before new run = ([], refl, run)
  fields_told (datum.field name d fs) is bs before new run =
      let parts = parted (event.field_key name AsIs ∷ events d) (fields_events fs) (at bs (table before None 0)) new run in
      let waits : parts.1.0 ≡ at bs (table before (Some name) 0) = key_waits bs before (spelled AsIs Field name) name parts.1.0 (as_is Field name) parts.1.1 in
      let l = told d is.0 bs (table before (Some name) 0) parts.0 (subst (λ s. TakesAll s (events d) parts.0) waits parts.1.2) in
      let entry = entry_landed bs before name (written d) parts.0 l in
      let rest = fields_told fs is.1 bs (put text_cmp name entry.0 before) new (subst (λ s. TakesAll s (fields_events fs) new) entry.2 parts.2) in
      ((name, entry.0) ∷ rest.0, all_ok (Ok name) (written d) (written_fields fs) name entry.0 rest.0 refl entry.1 rest.1, rest.2)

-- ---- the whole

is_this : Result Av Fault → Av → Bool
is_this (Ok b) a = av_eq b a
is_this (Err f) a = false

tested : (r : Result Av Fault) (a : Av) → r ≡ Ok a → is_this r a ≡ true
unfolding is_this
tested r a e = ap (λ x. is_this x a) e ∙ (av_eq_decides a a).1 refl

known : (r : Result Av Fault) (a : Av) → is_this r a ≡ true → r ≡ Ok a
unfolding is_this
known (Ok b) a e = ap Ok ((av_eq_decides b a).0 e)
known (Err f) a e = untrue e

ends_with : (es : List Event) (r : Result Av Fault) (a : Av) (last : State) → PutsIn es r → last.top ≡ whole (Some a) → TakesAll start es last → r ≡ Ok a
ends_with es r a last puts top run =
    let l = puts [] (whole None) last run in
    let put_top : whole (Some l.0) ≡ l.1 = cc (l.3) in
    let same_top : whole (Some l.0) ≡ whole (Some a) = put_top ∙ sym (ap (λ s. s.top) l.4) ∙ top in
    let same : l.0 ≡ a = cc (same_top) in
    l.2 ∙ ap Ok same

-- what these events stand for is what they put in
pub stands_for : (es : List Event) (r : Result Av Fault) (a : Av) → PutsIn es r → IsValueOf (Some es) a → r ≡ Ok a
stands_for es r a puts h = known r a (∥∥₁_elim h.1 (hlevel props) (λ run. tested r a (ends_with es r a h.0 puts h.3 run)))

-- what stands for a datum's events is what the library writes for it
pub is_written : (d : Datum) (a : Av) → IsTold d → IsValueOf (Some (events d)) a → written d ≡ Ok a
is_written d a is h = stands_for (events d) (written d) a (told d is) h
