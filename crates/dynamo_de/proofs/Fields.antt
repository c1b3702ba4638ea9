-- The fields of a struct, one after another: lemmas for types that are read by hand.
use Rattle.std.proofs.Common.{◌≡◌, ◌⊎◌, ℕ, List, [], ◌∷◌, Option, Some, None, Result, Ok, Err, length, ◌<◌, ap, sym, subst, inl, inr, arith, ◌∙◌}
use Rattle.dynamo_value.specs.Av.{Av}
use Rattle.dynamo_value.specs.Fault.{Fault, out_of_memory}
use Rattle.dynamo_de.specs.Access.{NextElement, MapLeft, KeyOf, NextKey, ValueOf, NextValue}
use Rattle.dynamo_de.specs.Answer as answer
use Rattle.dynamo_de.specs.Answer.{Answer, After, Gives}
use Rattle.dynamo_value.specs.Steps.{◌>>=◌}
use Rattle.dynamo_de.specs.Fields.{NamesOne, read_first, read_fields, LeadsTo}
use Rattle.dynamo_de.specs.Meets.{IsMessage}
use Rattle.dynamo_de.specs.Source.{Source, Entry, attribute}
use Rattle.dynamo_de.proofs.Meets.{meets_more}

-- ---- one step after another

goes_on : {T A B V : Type 0} (seen : T → A) (x : Answer A) (f : A → Answer B) (next : B → Result V Fault → Type 0) (v : T) (r : Result V Fault) → Gives seen x (Ok v) → After (f (seen v)) next r → After (x >>= f) next r
goes_on seen (Ok y) f next v r h k = subst (λ z. After (f z) next r) h k
goes_on seen (Err g) f next v r h k = absurd h

ok_same : {F : Type 0} (a b : F) → ◌≡◌ {A = Result F Fault} (Ok a) (Ok b) → a ≡ b
ok_same a b e = cc

stops : {T A B V : Type 0} (seen : T → A) (x : Answer A) (f : A → Answer B) (next : B → Result V Fault → Type 0) (g : Fault) → Gives seen x (Err g) → After (x >>= f) next (Err g)
stops seen (Ok y) f next g h = absurd h
stops seen (Err e) f next g h = h

-- what is made of what is read
pub made : {T A B : Type 0} (seen : T → A) (make : A → B) (x : Answer A) (r : Result T Fault) → Gives seen x r → Gives (λ v. make (seen v)) (x >>= λ y. answer.value (make y)) r
made seen make (Ok y) (Ok v) h = ap make h
made seen make (Ok y) (Err f) h = absurd h
made seen make (Err g) r h = h

-- ---- in order

module _ {T A B V E : Type 0} (fault : E → Fault) (seen : T → A) (reads : Source → Answer A) (rest : A → List Source → Answer B) (next : B → Result V Fault → Type 0) (left new : List Source) where
  pub element_read : (v : T) (r : Result V Fault) → NextElement fault (λ s. Gives seen (reads s)) left new (Ok (Some v)) → After (rest (seen v) new) next r → After (read_first reads left rest) next r
  unfolding read_first
  element_read v r h k = along left h
    where
      along : (l : List Source) → NextElement fault (λ s. Gives seen (reads s)) l new (Ok (Some v)) → After (read_first reads l rest) next r
      along [] a = cc
      along (s ∷ ss) a = goes_on seen (reads s) (λ x. rest x ss) next v r a.1 (subst (λ l. After (rest (seen v) l) next r) a.0 k)

  pub element_lacks : (f : Fault) → NextElement fault (λ s. Gives seen (reads s)) left new (Ok None) → IsMessage {V = V} (Err f) → After (read_first reads left rest) next (Err f)
  unfolding read_first
  element_lacks f h m = along left h
    where
      along : (l : List Source) → NextElement fault (λ s. Gives seen (reads s)) l new (Ok None) → After (read_first reads l rest) next (Err f)
      along [] a = m
      along (s ∷ ss) a = absurd a.1

  pub element_fails : (e : E) → NextElement fault (λ s. Gives seen (reads s)) left new (Err e) → (fault e ≡ out_of_memory) ⊎ After (read_first reads left rest) next (Err (fault e))
  unfolding read_first
  element_fails e h = along left h
    where
      along : (l : List Source) → NextElement fault (λ s. Gives seen (reads s)) l new (Err e) → (fault e ≡ out_of_memory) ⊎ After (read_first reads l rest) next (Err (fault e))
      along [] a = cc
      along (s ∷ ss) a = elim a.1 [ inl lacks ↦ inl lacks | inr failed ↦ inr (stops seen (reads s) (λ x. rest x ss) next (fault e) failed) ]

-- what permits less permits as much, in an access
pub element_more : {T E : Type 0} (fault : E → Fault) (P Q : Source → Result T Fault → Type 0) → ((s : Source) (r : Result T Fault) → P s r → Q s r) → (left new : List Source) (r : Result (Option T) E) → NextElement fault P left new r → NextElement fault Q left new r
element_more fault P Q more [] new r h = h
element_more fault P Q more (s ∷ ss) new (Ok None) h = h
element_more fault P Q more (s ∷ ss) new (Ok (Some v)) h = (h.0, more s (Ok v) h.1)
element_more fault P Q more (s ∷ ss) new (Err e) h = (h.0, elim h.1 [ inl lacks ↦ inl lacks | inr failed ↦ inr (more s (Err (fault e)) failed) ])

pub value_more : {T E : Type 0} (fault : E → Fault) (P Q : Source → Result T Fault → Type 0) → ((s : Source) (r : Result T Fault) → P s r → Q s r) → (old new : MapLeft) (r : Result T E) → NextValue fault P old new r → NextValue fault Q old new r
value_more fault P Q more old new r h = along old.pending h
  where
    along : (p : Option Source) → ValueOf fault P p old new r → ValueOf fault Q p old new r
    along None h = h
    along (Some s) h = (h.0, h.1, meets_more fault (P s) (Q s) (more s) r h.2)

-- ---- by name

module _ {F S A V E : Type 0} (fault : E → Fault) (named : List ℕ → F) (entry : F → S → Av → Answer S) (finish : S → Answer A) (next : A → Result V Fault → Type 0) (es : List Entry) (start so_far : S) (old new : MapLeft) where
  abbrev Leads : S → List Entry → Type 0
  Leads st left = LeadsTo next (read_fields named entry finish st left) (read_fields named entry finish start es)

  -- a field is read
  pub field_read : {T B : Type 0} (seen : T → B) (reads : Source → Answer B) (set : B → S) (f : F) (last : MapLeft) (v : T)
      → ((a : Av) → entry f so_far a ≡ (reads (attribute a) >>= λ x. answer.value (set x)))
      → Leads so_far old.entries → NextKey fault (NamesOne named) old new (Ok (Some f)) → NextValue fault (λ s. Gives seen (reads s)) new last (Ok v) → Leads (set (seen v)) last.entries
  unfolding LeadsTo read_fields
  field_read seen reads set f last v is h key value = along old.entries h key
    where
      again : (x : Answer _) (f : S → Answer A) (r : Result V Fault) → Gives seen x (Ok v) → After (f (set (seen v))) next r → After ((x >>= λ y. answer.value (set y)) >>= f) next r
      again (Ok y) f r given k = subst (λ z. After (f (set z)) next r) given k
      again (Err g) f r given k = absurd given

      along : (k : List Entry) → LeadsTo next (read_fields named entry finish so_far k) (read_fields named entry finish start es) → KeyOf fault (NamesOne named) k old new (Ok (Some f))
          → LeadsTo next (read_fields named entry finish (set (seen v)) last.entries) (read_fields named entry finish start es)
      along [] h a = cc
      along (e ∷ k) h a =
          let c = subst (λ w. ValueOf fault (λ s. Gives seen (reads s)) w new last (Ok v)) a.1 value in
          let name : f ≡ named e.0 = ok_same f (named e.0) a.2 in
          λ r rest. h r (subst (λ g. After (entry g so_far e.1 >>= λ new. read_fields named entry finish new k) next r) name
          (subst (λ x. After (x >>= λ new. read_fields named entry finish new k) next r) (sym (is e.1))
          (again (reads (attribute e.1)) (λ new. read_fields named entry finish new k) r c.2 (subst (λ xs. After (read_fields named entry finish (set (seen v)) xs) next r) (c.0 ∙ a.0) rest))))

  -- a field's fault is the struct's
  pub field_fails : {T B : Type 0} (seen : T → B) (reads : Source → Answer B) (set : B → S) (f : F) (last : MapLeft) (x : E)
      → ((a : Av) → entry f so_far a ≡ (reads (attribute a) >>= λ y. answer.value (set y)))
      → Leads so_far old.entries → NextKey fault (NamesOne named) old new (Ok (Some f)) → NextValue {V = T} fault (λ s. Gives seen (reads s)) new last (Err x)
      → (fault x ≡ out_of_memory) ⊎ After (read_fields named entry finish start es) next (Err (fault x))
  unfolding LeadsTo read_fields
  field_fails {T} {B} seen reads set f last x is h key value = along old.entries h key
    where
      again : (y : Answer B) (f : S → Answer A) → Gives seen y (Err (fault x)) → After ((y >>= λ z. answer.value (set z)) >>= f) next (Err (fault x))
      again (Ok z) f given = absurd given
      again (Err g) f given = given

      along : (k : List Entry) → LeadsTo next (read_fields named entry finish so_far k) (read_fields named entry finish start es) → KeyOf fault (NamesOne named) k old new (Ok (Some f))
          → (fault x ≡ out_of_memory) ⊎ After (read_fields named entry finish start es) next (Err (fault x))
      along [] h a = cc
      along (e ∷ k) h a =
          let c = subst (λ w. ValueOf {V = T} fault (λ s. Gives seen (reads s)) w new last (Err x)) a.1 value in
          let name : f ≡ named e.0 = ok_same f (named e.0) a.2 in
          elim c.2 [
            | inl lacks ↦ inl lacks
            | inr failed ↦ inr (h (Err (fault x)) (subst (λ g. After (entry g so_far e.1 >>= λ new. read_fields named entry finish new k) next (Err (fault x))) name
                (subst (λ y. After (y >>= λ new. read_fields named entry finish new k) next (Err (fault x))) (sym (is e.1))
                (again (reads (attribute e.1)) (λ new. read_fields named entry finish new k) failed))))
          ]

  -- a key is read from every text
  pub key_lacks : (x : E) → NextKey {V = F} fault (NamesOne named) old new (Err x) → fault x ≡ out_of_memory
  key_lacks x a = along old.entries a
    where
      along : (k : List Entry) → KeyOf {V = F} fault (NamesOne named) k old new (Err x) → fault x ≡ out_of_memory
      along [] a = cc
      along (e ∷ k) a = elim a.2 [ inl lacks ↦ lacks | inr failed ↦ cc ]

  -- after the last entry the struct is made
  pub fields_end : (r : Result V Fault) → Leads so_far old.entries → NextKey fault (NamesOne named) old new (Ok None) → After (finish so_far) next r → After (read_fields named entry finish start es) next r
  unfolding LeadsTo read_fields
  fields_end r h a k = along old.entries h a
    where
      along : (j : List Entry) → LeadsTo next (read_fields named entry finish so_far j) (read_fields named entry finish start es) → KeyOf fault (NamesOne named) j old new (Ok None)
          → After (read_fields named entry finish start es) next r
      along [] h a = h r k
      along (e ∷ j) h a = absurd a.2

  -- an entry that was read is gone
  pub entry_falls : {T : Type 0} (reads : Source → Result T Fault → Type 0) (f : F) (last : MapLeft) (v : T) → NextKey fault (NamesOne named) old new (Ok (Some f)) → NextValue fault reads new last (Ok v) → length last.entries < length old.entries
  entry_falls reads f last v a b = along old.entries a
    where
      along : (k : List Entry) → KeyOf fault (NamesOne named) k old new (Ok (Some f)) → length last.entries < length k
      along [] a = cc
      along (e ∷ k) a = let c = subst (λ w. ValueOf fault reads w new last (Ok v)) a.1 b in rw (c.0, a.0) (omega arith)

pub fields_start : {A V : Type 0} (next : A → Result V Fault → Type 0) (x : Answer A) → LeadsTo next x x
unfolding LeadsTo
fields_start next x r h = h
