-- A described struct by its rules, entry by entry.
use Rattle.std.proofs.Common.{◌≡◌, ℕ, suc, Bool, true, false, ◌||◌, cond, List, [], ◌∷◌, ◌++◌, Option, Some, None, Result, Ok, Err, length, ◌<◌, ◌≤◌, refl, sym, ap, subst, ◌∙◌, inl, inr}
use Rattle.dynamo_record.proofs.Common.{bytes_eq, list_any, Fault, ◌>>=◌, Datum, Answer, After}
use Rattle.dynamo_record.proofs.Common.{value_or, Meets, Fails, IsMessage, read_parts, TakesEntry}
use Rattle.dynamo_record.proofs.Common.{Source, Text, Entry, attribute, by_name, meets_more}
use Rattle.dynamo_record.proofs.Common.{put_field, conforms, NameRules, own_name, into, missing}
use Rattle.dynamo_record.proofs.Common.{read_field, last_of, fields_among, fields_in_order}
use Rattle.dynamo_record.proofs.Common.{fields_by_rules, entry_by_rules, read_by_rules, is_refused}
use Rattle.dynamo_record.proofs.Common.{Same, FieldShapes, no_field_shapes, field_shape, after}
use Rattle.dynamo_record.proofs.Common.{Both, same_next, Slots, first_slot, other_slots, behind}
use Rattle.dynamo_record.proofs.Common.{fill, fill_named, empty, close, NamesDiffer, turned}
use Rattle.dynamo_record.proofs.Common.{not_turned, Before, slots_of, pad, Held, EntersByRules}
use Rattle.dynamo_record.proofs.Common.{struct_left, RulesSoFar, FromPartsByRules, rules_reads}
use Rattle.dynamo_record.proofs.Common.{read_at, fill_at, IsEntry, Enters, field_named, unread}
use Rattle.dynamo_record.proofs.Common.{Holds, IfRead, is_there, is_filled, is_named, place_of}
use Rattle.dynamo_record.proofs.Common.{AboutRecord, record_fields, record_shape, record_tells}
use Rattle.dynamo_record.proofs.Common.{RecordAnswers, IsAlike, AreNamed, names_apart, place_in}
use Rattle.dynamo_shape.proofs.FieldsByName.{Reads}
use Rattle.dynamo_ser.specs.Datum as datum
use Rattle.dynamo_de.specs.Answer as answer
use Rattle.std.proofs.lemmas.Bool.{true≢false}
use Rattle.std.proofs.lemmas.Slice.Eq.{bytes_eq-Decides}
use Rattle.dynamo_de.specs.Fields.{LeadsTo}
use Rattle.dynamo_de.proofs.Fields.{fields_start}
use Rattle.dynamo_shape.specs.Clear.{is_field}
use Rattle.dynamo_shape.proofs.Found.{Unseen, unseen_none, unseen_more, or_false}
use Rattle.dynamo_record.proofs.Answering.{after_ok, answers_after}
use Rattle.dynamo_record.proofs.Closing.{Last}
use Rattle.dynamo_record.proofs.Described.{empty_unread, place_named}
use Rattle.dynamo_record.proofs.Renaming.{named_before, none_named}
use Rattle.dynamo_record.proofs.Places.{pad_empty, close_pad, reads_from}

-- ---- what was read before, in the slots of the fields

abbrev among : Text → Before → Bool
among t before = list_any (λ x. bytes_eq t x.0) before

last_more : (t : Text) (l : Before) (x : Text × Datum) (o : Option Datum) → last_of t (l ++ x ∷ []) o ≡ cond (bytes_eq t x.0) (Some x.1) (last_of t l o)
last_more t [] x o = refl
last_more t (y ∷ ys) x o = last_more t ys x (cond (bytes_eq t y.0) (Some y.1) o)

slots_other : (fs : FieldShapes) (l : Before) (t : Text) (d : Datum) → is_field fs t ≡ false → slots_of fs (l ++ (t, d) ∷ []) ≡ slots_of fs l
slots_other no_field_shapes l t d n = refl
slots_other (field_shape own s e fs) l t d n =
    let p = or_false (bytes_eq t own) (is_field fs t) n in
    let here = last_more own l (t, d) None ∙ ap (λ b. cond b (Some d) (last_of own l None)) (not_turned t own p.0) in
    let rest = slots_other fs l t d p.1 in
    λ i. here i ∷ rest i

-- what is read fills the slot of its field
slots_more : (fs : FieldShapes) (l : Before) (t : Text) (d : Datum) → NamesDiffer fs → slots_of fs (l ++ (t, d) ∷ []) ≡ fill_named fs t d (slots_of fs l)
slots_more no_field_shapes l t d n = refl
slots_more (field_shape own s e fs) l t d n =
    elim (bytes_eq t own) as (λ b. bytes_eq t own ≡ b → slots_of (field_shape own s e fs) (l ++ (t, d) ∷ []) ≡ cond b (fill d (slots_of (field_shape own s e fs) l)) (behind 1 (fill_named fs t d) (slots_of (field_shape own s e fs) l))) [
      | true ↦ λ q.
          let here = last_more own l (t, d) None ∙ ap (λ b. cond b (Some d) (last_of own l None)) (turned t own q) in
          let rest = slots_other fs l t d (ap (is_field fs) ((bytes_eq-Decides t own).0 q) ∙ n.0) in
          λ i. here i ∷ rest i
      | false ↦ λ q.
          let here = last_more own l (t, d) None ∙ ap (λ b. cond b (Some d) (last_of own l None)) (not_turned t own q) in
          let rest = slots_more fs l t d n.1 in
          λ i. here i ∷ rest i
    ] refl

slots_none : (fs : FieldShapes) → empty fs ≡ slots_of fs []
slots_none no_field_shapes = refl
slots_none (field_shape name s e fs) = ap (λ more. None ∷ more) (slots_none fs)

close_before : (fs : FieldShapes) (taken : List Text) (l : Before) → NamesDiffer fs → Unseen fs taken → close fs (slots_of fs l) ≡ fields_among fs taken l
close_before no_field_shapes taken l n u = refl
close_before (field_shape name s e fs) taken l n u =
    rw u.0 (ap (λ more. value_or (last_of name l None) (missing s e) >>= λ d. more >>= λ gs. answer.value (put_field name e d gs)) (close_before fs (name ∷ taken) l n.1 (unseen_more fs taken name n.0 u.1)))

-- ---- whether a field was read

there_or : (t : Text) (l : Before) (o : Option Datum) → is_there (last_of t l o) ≡ (among t l || is_there o)
there_or t [] o = refl
there_or t (x ∷ xs) o = elim (bytes_eq t x.0) as (λ b. is_there (last_of t xs (cond b (Some x.1) o)) ≡ ((b || among t xs) || is_there o)) [
  | true ↦ there_or t xs (Some x.1) ∙ or_true (among t xs)
  | false ↦ there_or t xs o
]
  where
    or_true : (b : Bool) → (b || true) ≡ true
    or_true true = refl
    or_true false = refl

or_none : (b : Bool) → (b || false) ≡ b
or_none true = refl
or_none false = refl

place_next : (i : ℕ) (fs : FieldShapes) (t : Text) → place_in (suc i) fs t ≡ suc (place_in i fs t)
place_next i no_field_shapes t = refl
place_next i (field_shape own s e fs) t = elim (bytes_eq t own) as (λ b. cond b (suc i) (place_in (suc (suc i)) fs t) ≡ suc (cond b i (place_in (suc i) fs t))) [ true ↦ refl | false ↦ place_next (suc i) fs t ]

-- the slot of a field is filled where one was read before
filled_before : (fs : FieldShapes) (t : Text) (os : Slots) (l : Before) → is_field fs t ≡ true → pad fs os ≡ slots_of fs l → is_filled (place_in 0 fs t) os ≡ among t l
filled_before no_field_shapes t os l f h = absurd (true≢false (sym f))
filled_before (field_shape own s e fs) t os l f h =
    elim (bytes_eq t own) as (λ b. bytes_eq t own ≡ b → (b || is_field fs t) ≡ true → is_filled (cond b 0 (place_in 1 fs t)) os ≡ among t l) [
      | true ↦ λ q _. ap (λ all. is_there (first_slot all)) h ∙ there_or own l None ∙ or_none (among own l) ∙ ap (λ u. among u l) (sym ((bytes_eq-Decides t own).0 q))
      | false ↦ λ q k. ap (λ i. is_filled i os) (place_next 0 fs t) ∙ filled_before fs t (other_slots os) l k (ap other_slots h)
    ] refl f

-- ---- one entry

-- what is read at the place of a field is what is read under its name
same_read : (P : Datum → Type 0) (Q : Text × Datum → Type 0) (t : Text) (fill_it : Datum → Slots) (R : Slots → Datum → Type 0) (a b : Answer Datum) → Both R (into fill_it a) b → ((d e : Datum) → R (fill_it d) e → P d → Q (t, e))
    → (r : Result (Unit {0}) Fault) → After a (λ d. IfRead (λ _. P d)) r → After {A = Text × Datum} (into (λ e. (t, e)) b) (λ x. IfRead (λ _. Q x)) r
same_read P Q t fill_it R (Ok d) (Ok e) h more (Ok u) k = more d e h k
same_read P Q t fill_it R (Ok d) (Ok e) h more (Err f) k = absurd k
same_read P Q t fill_it R (Err g) (Err p) h more r k = subst (λ x. Fails x r) h k
same_read P Q t fill_it R (Ok d) (Err p) h more r k = absurd h
same_read P Q t fill_it R (Err g) (Ok e) h more r k = absurd h

module _ {X : Type 0} (rules : NameRules) (fs : FieldShapes) (holds : Holds X) (differ : NamesDiffer fs) where
  abbrev own_of : Entry → Text
  own_of e = own_name rules.aliases e.0

  -- an entry that is not refused is read as one of the own name of its field
  pub entered : {E : Type 0} (fault : E → Fault) (e : Entry) (before : Before) (os : Slots) (new : X) → pad fs os ≡ slots_of fs before → is_refused rules.denies fs before (own_of e) ≡ false
      → (r : Result (Unit {0}) E) → Meets fault (Enters (λ x os. holds x os []) fs os new (own_of e, e.1)) r → Meets fault (EntersByRules rules fs holds before new e) r
  unfolding Reads
  entered fault e before os new at taken r h = meets_more fault (Enters (λ x os. holds x os []) fs os new (own_of e, e.1)) (EntersByRules rules fs holds before new e) along r h
    where
      along : (r : Result (Unit {0}) Fault) → Enters (λ x os. holds x os []) fs os new (own_of e, e.1) r → EntersByRules rules fs holds before new e r
      along r k =
          rw taken (same_read (λ d. holds new (fill_at (place_in 0 fs (own_of e)) fs d os) []) (λ x. Held fs holds new (before ++ x ∷ [])) (own_of e) (λ d. fill_at (place_in 0 fs (own_of e)) fs d os) (λ now d. pad fs now ≡ fill_named fs (own_of e) d (pad fs os))
          (read_at (place_in 0 fs (own_of e)) fs (attribute e.1)) (read_field fs (own_of e) e.1) (reads_from fs 0 fs refl (own_of e) os e.1)
          (λ d x filled held. (fill_at (place_in 0 fs (own_of e)) fs d os, held, filled ∙ ap (fill_named fs (own_of e) x) at ∙ sym (slots_more fs before (own_of e) x differ))) r k)

  -- one that is refused is refused by a message
  pub refused_entry : (f : Fault) (e : Entry) (before : Before) (new : X) → is_refused rules.denies fs before (own_of e) ≡ true → IsMessage {V = Unit {0}} (Err f) → EntersByRules rules fs holds before new e (Err f)
  refused_entry f e before new is h = rw is h

-- ---- all entries

module _ {V L : Type 0} (rules : NameRules) (a : AboutRecord V L) (named : AreNamed a) where
  abbrev fs : FieldShapes
  fs = record_fields a

  is_own : (t : Text) → is_field fs t ≡ is_named a.names t
  is_own t = field_named a.names (a.list.shapes []) (a.list.defaults []) t named.1

  pub at_place : (t : Text) → place_of 0 a.names t ≡ place_in 0 fs t
  at_place t = sym (place_named 0 a.names (a.list.shapes []) (a.list.defaults []) t named.1)

  -- an entry of a field is refused where the field was read, and one of no field where the rules deny it
  module _ {X : Type 0} (holds : Holds X) (x : X) (denies : Bool) (place : ℕ) (own : Text) (before : Before) (at : place ≡ place_of 0 a.names own) where
    pub of_field : place < length a.names → (h : Held fs holds x before) → is_refused denies fs before own ≡ is_filled place h.0
    of_field less h =
        let f : is_field fs own ≡ true = is_own own ∙ named_before a.names own (subst (λ i. i < length a.names) at less) in
        rw f (sym (filled_before fs own h.0 before f h.2) ∙ ap (λ i. is_filled i h.0) (sym (at ∙ at_place own)))

    pub of_none : length a.names ≤ place → is_refused denies fs before own ≡ denies
    of_none beyond = rw (is_own own ∙ none_named a.names own (subst (λ i. length a.names ≤ i) at beyond)) refl

  pub whole : (es : List Entry) (r : Result V Fault) → After (struct_left rules a [] es) (IsAlike a) r → FromPartsByRules rules a (by_name es) r
  whole es r h = answers_after (conforms (record_shape a)) (record_tells a) (struct_left rules a [] es) r h

  module _ {X : Type 0} (holds : Holds X) (es : List Entry) where
    pub starts : (x : X) → holds x (unread (a.list.shapes [])) [] → RulesSoFar rules a holds x es es
    starts x h = (
      [],
      (empty fs, subst (λ os. holds x os []) (sym (empty_unread a.names (a.list.shapes []) (a.list.defaults []))) h, pad_empty fs ∙ slots_none fs),
      fields_start (IsAlike a) (struct_left rules a [] es),
    )

    module _ {D E : Type 0} (source : D → Source) (fault : E → Fault) (l new : List Entry) (x : X) (so_far : RulesSoFar rules a holds x l es) where
      module _ (d : D × D) (taken : TakesEntry source l new (Some d)) (y : X) where
        abbrev Entered : Result (Unit {0}) E → Type 0
        Entered r = (e : Entry) (before : Before) → IsEntry source d e → Held fs holds x before → Meets fault (EntersByRules rules fs holds before y e) r

        pub entry_read : Entered (Ok tt) → RulesSoFar rules a holds y new es
        unfolding LeadsTo
        entry_read h = along l so_far taken
          where
            along : (k : List Entry) → RulesSoFar rules a holds x k es → TakesEntry source k new (Some d) → RulesSoFar rules a holds y new es
            along [] so_far t = cc
            along (e ∷ k) so_far t =
                let before = so_far.0 in
                let q = after_ok (entry_by_rules rules fs (read_field fs) before e) (λ x (_ : Unit {0}). Held fs holds y (before ++ x ∷ [])) tt (h e before (t.1, t.2) so_far.1) in (
                  before ++ q.0 ∷ [],
                  q.2,
                  λ r rest. so_far.2 r (subst (λ a'. After (into (datum.struct a.name) ((a' >>= λ x. read_by_rules rules fs (read_field fs) (before ++ x ∷ []) k) >>= fields_among fs [])) (IsAlike a) r) (sym q.1)
                      (subst (λ j. After (struct_left rules a (before ++ q.0 ∷ []) j) (IsAlike a) r) t.0 rest)),
                )

        pub entry_fails : (f : E) → Entered (Err f) → Meets {V = V} fault (FromPartsByRules rules a (by_name es)) (Err f)
        unfolding LeadsTo
        entry_fails f h = along l so_far taken
          where
            failed : (a' : Answer (Text × Datum)) (P : Text × Datum → Type 0) (next : Text × Datum → Answer Datum) → After a' (λ x. IfRead (λ (_ : Unit {0}). P x)) (Err (fault f)) → After (a' >>= next) (IsAlike a) (Err (fault f))
            failed (Ok x) P next k = absurd k
            failed (Err g) P next k = k

            regrouped : {A B C : Type 0} (a' : Answer A) (f : A → Answer B) (g : B → Answer C) (make : C → Datum) → into make ((a' >>= f) >>= g) ≡ (a' >>= λ x. into make (f x >>= g))
            regrouped (Ok x) f g make = refl
            regrouped (Err e) f g make = refl

            along : (k : List Entry) → RulesSoFar rules a holds x k es → TakesEntry source k new (Some d) → Meets {V = V} fault (FromPartsByRules rules a (by_name es)) (Err f)
            along [] so_far t = cc
            along (e ∷ k) so_far t =
                let before = so_far.0 in
                let one = entry_by_rules rules fs (read_field fs) before e in
                let next : Text × Datum → Answer (List (Text × Datum)) = λ x. read_by_rules rules fs (read_field fs) (before ++ x ∷ []) k in
                elim (h e before (t.1, t.2) so_far.1) [
                  | inl lacks ↦ inl lacks
                  | inr refused ↦ inr (whole es (Err (fault f)) (so_far.2 (Err (fault f)) (subst (λ z. After z (IsAlike a) (Err (fault f))) (sym (regrouped one next (fields_among fs []) (datum.struct a.name)))
                      (failed one (λ x. Held fs holds y (before ++ x ∷ [])) (λ x. into (datum.struct a.name) (next x >>= fields_among fs [])) refused))))
                ]

      -- after the last entry
      pub ends : TakesEntry source l new None → Last a holds x (struct_left rules a [] es)
      unfolding LeadsTo
      ends taken = along l so_far taken
        where
          along : (k : List Entry) → RulesSoFar rules a holds x k es → TakesEntry source k new None → Last a holds x (struct_left rules a [] es)
          along [] so_far t =
              let os = so_far.1.0 in
              let closed = close_pad fs os ∙ ap (close fs) so_far.1.2 ∙ close_before fs [] so_far.0 (names_apart a named) (unseen_none fs) in
              (os, so_far.1.1, λ r h. so_far.2 r (subst (λ z. After (into (datum.struct a.name) z) (IsAlike a) r) closed h))
          along (e ∷ k) so_far t = absurd t

module _ {V L : Type 0} (rules : NameRules) (a : AboutRecord V L) where
  -- from any source
  pub by_source : {E : Type 0} (fault : E → Fault) (s : Source) (r : Result V E) → Meets fault (After (read_parts s) (FromPartsByRules rules a)) r → Meets fault (rules_reads rules a s) r
  by_source fault s r h =
      let fields = fields_by_rules rules (record_fields a) (fields_in_order (record_fields a)) (read_field (record_fields a)) in
      meets_more fault (After (read_parts s) (FromPartsByRules rules a)) (rules_reads rules a s)
      (λ r k. subst (λ x. RecordAnswers a x r) (same_next (datum.struct a.name) (read_parts s) (λ p. into (datum.struct a.name) (fields p)) fields (λ p. refl))
      (after (conforms (record_shape a)) Same (record_tells a) (FromPartsByRules rules a) (λ p. into (datum.struct a.name) (fields p)) (λ p r b. b) (read_parts s) r k)) r h
