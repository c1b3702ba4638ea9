-- What is written for fields reads back by their names.
use Rattle.std.proofs.Common.{◌≡◌, true, false, cond, List, [], ◌∷◌, Option, Ok, Some, None, refl, sym, ap, subst, ◌∙◌, inl, inr}
use Rattle.dynamo_shape.proofs.Common.{⊤, bytes_eq, AllByRecursion, true≢false, cases_Bool}
use Rattle.dynamo_shape.proofs.Common.{is_eq-slice_cmp, find, bytes_eq-Decides, collect_twice}
use Rattle.dynamo_shape.proofs.Common.{text_cmp, Answer, value, value_or, Text, attribute}
use Rattle.dynamo_shape.proofs.Common.{entries_of, Datum, Fields, no_fields, field, Absence}
use Rattle.dynamo_shape.proofs.Common.{is_left_out, put_field, is_field, NearlyClearFields}
use Rattle.dynamo_shape.proofs.Common.{kept_fields, read, into, missing, read_field}
use Rattle.dynamo_shape.proofs.Common.{read_each_entry, last_of, read_tag, read_tag_of}
use Rattle.dynamo_shape.proofs.Common.{fields_among, fields_by_name, ReadsBack, SameFields, Shape}
use Rattle.dynamo_shape.proofs.Common.{FieldShapes, no_field_shapes, field_shape, Av, S, M, Members}
use Rattle.dynamo_shape.proofs.Common.{no_members, member, members_of, collect, written_fields}
use Rattle.dynamo_shape.proofs.Common.{map_of_entries, ◌>>=◌}
use Rattle.dynamo_ser.specs.Datum as datum
use Rattle.dynamo_shape.proofs.Members.{EachMember, collected}
use Rattle.dynamo_write.proofs.Orders.{last, find_last}
use Rattle.dynamo_shape.proofs.Found.{same_bytes, or_false, KeysIn, keys_weaker, differs, is_first, is_later, Unseen, unseen_none, unseen_more}
use Rattle.dynamo_de.specs.Ignored.{ignore}

-- ---- fields by what is read under their names

-- what is read of an attribute, or where there is none
abbrev reads_or : (Av → Answer Datum) → Answer Datum → Option Av → Answer Datum
reads_or reads missed None = missed
reads_or reads missed (Some a) = reads a

-- R reads what is under the names
abbrev ReadAt : (Text → Av → Answer Datum) → (Text → Option Av) → FieldShapes → Fields → Type 0
ReadAt R look no_field_shapes hs = hs ≡ no_fields
ReadAt R look (field_shape name s default fs) hs = (y : Datum) × (gs : Fields) × (hs ≡ put_field name default y gs) × (reads_or (R name) (missing s default) (look name) ≡ value y) × ReadAt R look fs gs

read_alike : (R Q : Text → Av → Answer Datum) (look other : Text → Option Av) (fs : FieldShapes) (hs : Fields) → ((t : Text) → is_field fs t ≡ true → (a : Av) → Q t a ≡ R t a) → ((t : Text) → is_field fs t ≡ true → other t ≡ look t) → ReadAt R look fs hs → ReadAt Q other fs hs
read_alike R Q look other no_field_shapes hs f g h = h
read_alike R Q look other (field_shape name s default fs) hs f g h =
    let later = is_later name s default fs in (
      h.0,
      h.1,
      h.2,
      alike (look name) (f name (is_first name s default fs)) (g name (is_first name s default fs)) h.3,
      read_alike R Q look other fs h.1 (λ t k. f t (later t k)) (λ t k. g t (later t k)) h.4,
    )
  where
    same_reads : (o : Option Av) → ((a : Av) → Q name a ≡ R name a) → reads_or (Q name) (missing s default) o ≡ reads_or (R name) (missing s default) o
    same_reads None p = refl
    same_reads (Some a) p = p a

    alike : (o : Option Av) → ((a : Av) → Q name a ≡ R name a) → other name ≡ o → reads_or (R name) (missing s default) o ≡ value h.0 → reads_or (Q name) (missing s default) (other name) ≡ value h.0
    alike o p q r = ap (reads_or (Q name) (missing s default)) q ∙ same_reads o p ∙ r

-- a field in front reads nothing that is another's
behind_first : (name : Text) (s : Shape) (default : Absence) (fs : FieldShapes) → is_field fs name ≡ false → (t : Text) → is_field fs t ≡ true → (a : Av) → read_field (field_shape name s default fs) t a ≡ read_field fs t a
behind_first name s default fs n t h a = rw (differs fs t name h n) refl

first_reads : (name : Text) (s : Shape) (default : Absence) (fs : FieldShapes) (a : Av) → read_field (field_shape name s default fs) name a ≡ read s (attribute a)
first_reads name s default fs a = rw (same_bytes name) refl

not_among : (fs : FieldShapes) (t : Text) (es : List (Text × Av)) (o : Option Av) → KeysIn (λ u. is_field fs u ≡ true) es → is_field fs t ≡ false → last t es o ≡ o
not_among fs t [] o k n = refl
not_among fs t (e ∷ es) o k n =
    ap (λ b. last t es (cond b (Some e.1) o)) (is_eq-slice_cmp t e.0 ∙ other) ∙ not_among fs t es o k.1 n
  where
    other : bytes_eq t e.0 ≡ false
    other = elim (cases_Bool (bytes_eq t e.0)) [
      | inl p ↦ absurd (true≢false (sym k.0 ∙ ap (is_field fs) (sym ((bytes_eq-Decides t e.0).0 p)) ∙ n))
      | inr p ↦ p
    ]

-- ---- the entries that are read

abbrev Readable : (Text → Av → Answer Datum) → Text → Av → Type 0
Readable R t a = (y : Datum) × (R t a ≡ value y)

still_readable : (name : Text) (s : Shape) (default : Absence) (fs : FieldShapes) (es : List (Text × Av)) → is_field fs name ≡ false → KeysIn (λ t. is_field fs t ≡ true) es → AllByRecursion (λ e. Readable (read_field fs) e.0 e.1) es → AllByRecursion (λ e. Readable (read_field (field_shape name s default fs)) e.0 e.1) es
still_readable name s default fs [] n k h = tt
still_readable name s default fs (e ∷ es) n k h = ((h.0.0, behind_first name s default fs n e.0 k.0 e.1 ∙ h.0.1), still_readable name s default fs es n k.1 h.1)

-- the last member of this name, else what was there before
abbrev last_member : Text → Members → Option Av → Option Av
last_member t no_members before = before
last_member t (member u a ms) before = last_member t ms (cond (bytes_eq t u) (Some a) before)

last_collected : (t : Text) (es : List (Text × Av)) (before : Option Av) → last_member t (members_of es) before ≡ last t es before
last_collected t [] before = refl
last_collected t (e ∷ es) before = last_collected t es (cond (bytes_eq t e.0) (Some e.1) before) ∙ ap (λ b. last t es (cond b (Some e.1) before)) (sym (is_eq-slice_cmp t e.0))

-- of entries that are collected the last of each name stays
one_member : (t : Text) (es : List (Text × Av)) → last_member t (members_of (collect es)) None ≡ last t es None
one_member t es = last_collected t (collect es) None ∙ sym (find_last t (collect es) []) ∙ ap (find text_cmp t) (collect_twice es) ∙ find_last t es []

-- nothing on both sides, or what is read of the attribute
abbrev BothRead : (Text → Av → Answer Datum) → Text → Option Av → Option Datum → Type 0
BothRead R t None None = ⊤
BothRead R t (Some a) (Some y) = R t a ≡ value y
BothRead R t _ _ = ⊥

both_now : (R : Text → Av → Answer Datum) (t u : Text) (b : Av) (x : Datum) (o : Option Av) (p : Option Datum) → R u b ≡ value x → BothRead R t o p → BothRead R t (cond (bytes_eq t u) (Some b) o) (cond (bytes_eq t u) (Some x) p)
both_now R t u b x o p e h =
    elim (bytes_eq t u) as (λ c. bytes_eq t u ≡ c → BothRead R t (cond c (Some b) o) (cond c (Some x) p)) [
      | true ↦ λ q. ap (λ n. R n b) ((bytes_eq-Decides t u).0 q) ∙ e
      | false ↦ λ q. h
    ] refl

entries_read : (R : Text → Av → Answer Datum) (ms : Members) → EachMember (Readable R) ms → (rs : List (Text × Datum)) × (read_each_entry R (entries_of ms) ≡ value rs) × ((t : Text) (o : Option Av) (p : Option Datum) → BothRead R t o p → BothRead R t (last_member t ms o) (last_of t rs p))
entries_read R no_members h = ([], refl, λ t o p k. k)
entries_read R (member u b ms) h =
    let r = entries_read R ms h.1 in
    ((u, h.0.0) ∷ r.0, rw (h.0.1, r.1) refl, λ t o p k. r.2 t (cond (bytes_eq t u) (Some b) o) (cond (bytes_eq t u) (Some h.0.0) p) (both_now R t u b h.0.0 o p h.0.1 k))

-- what is under a name is what was read of it
chosen : (R : Text → Av → Answer Datum) (t : Text) (missed : Answer Datum) (y : Datum) (o : Option Av) (p : Option Datum) → BothRead R t o p → reads_or (R t) missed o ≡ value y → value_or p missed ≡ value y
chosen R t missed y None None h k = k
chosen R t missed y (Some a) (Some x) h k = sym h ∙ k
chosen R t missed y None (Some x) h k = absurd h
chosen R t missed y (Some a) None h k = absurd h

fields_read : (R : Text → Av → Answer Datum) (look : Text → Option Av) (rs : List (Text × Datum)) → ((t : Text) → BothRead R t (look t) (last_of t rs None)) → (fs : FieldShapes) (hs : Fields) (seen : List Text) → NearlyClearFields fs → Unseen fs seen → ReadAt R look fs hs → fields_among fs seen rs ≡ value hs
fields_read R look rs f no_field_shapes hs seen n u h = ap value (sym h)
fields_read R look rs f (field_shape name s default fs) hs seen n u h =
    let there = chosen R name (missing s default) h.0 (look name) (last_of name rs None) (f name) h.3 in
    let rest = fields_read R look rs f fs h.1 (name ∷ seen) n.2 (unseen_more fs seen name n.0 u.1) h.4 in
    rw (u.0, there, rest) (ap value (sym h.2))

pub record IsBack (fs : FieldShapes) (gs : Fields) (es : List (Text × Av)) (hs : Fields) : Type 0 where
  pub wrote : written_fields gs ≡ Ok es
  pub keys : KeysIn (λ t. is_field fs t ≡ true) es
  pub readable : AllByRecursion (λ e. Readable (read_field fs) e.0 e.1) es
  pub reads : ReadAt (read_field fs) (λ t. last t es None) fs hs
  pub alike : SameFields (kept_fields gs) hs

unfoldable pub FieldsBack : FieldShapes → Fields → Type 0
FieldsBack fs gs = (es : List (Text × Av)) × (hs : Fields) × IsBack fs gs es hs

pub named_read : (fs : FieldShapes) (es : List (Text × Av)) (hs : Fields) → NearlyClearFields fs → AllByRecursion (λ e. Readable (read_field fs) e.0 e.1) es → ReadAt (read_field fs) (λ t. last t es None) fs hs → fields_by_name fs (read_field fs) (entries_of (members_of (collect es))) ≡ value hs
named_read fs es hs n readable reads =
    let R = read_field fs in
    let r = entries_read R (members_of (collect es)) (collected (Readable R) es readable) in
    rw r.1 (fields_read R (λ t. last t es None) r.0 (λ t. subst (λ o. BothRead R t o (last_of t r.0 None)) (one_member t es) (r.2 t None None tt)) fs hs [] n (unseen_none fs) reads)

pub no_fields_back : FieldsBack no_field_shapes no_fields
unfolding FieldsBack
no_fields_back = ([], no_fields, record { wrote = refl; keys = tt; readable = tt; reads = refl; alike = refl })

-- a field that is left out is read as its default, which is left out
left_field_back : (name : Text) (s : Shape) (default : Absence) (fs : FieldShapes) (gs : Fields) (y : Datum) → is_field fs name ≡ false → missing s default ≡ value y → is_left_out default y ≡ true → FieldsBack fs gs → FieldsBack (field_shape name s default fs) gs
unfolding FieldsBack
left_field_back name s default fs gs y n m l (es, hs, t) = (
  es,
  hs,
  record {
    wrote = t.wrote;
    keys = keys_weaker _ _ (is_later name s default fs) es t.keys;
    readable = still_readable name s default fs es n t.keys t.readable;
    reads = (y, hs, rw l refl, ap (reads_or _ (missing s default)) (not_among fs name es None t.keys n) ∙ m, read_alike _ _ _ _ fs hs (behind_first name s default fs n) (λ _ _. refl) t.reads);
    alike = t.alike;
  },
)

told_field_back : (name : Text) (s : Shape) (default : Absence) (fs : FieldShapes) (e : Datum) (gs : Fields) → is_field fs name ≡ false → (h : ReadsBack s e) → is_left_out default h.1 ≡ false → FieldsBack fs gs → FieldsBack (field_shape name s default fs) (field name e gs)
unfolding FieldsBack
told_field_back name s default fs e gs n (a, x, w, r, k) l (es, hs, t) = (
  (name, a) ∷ es,
  field name x hs,
  record {
    wrote = rw (w, t.wrote) refl;
    keys = (is_first name s default fs, keys_weaker _ _ (is_later name s default fs) es t.keys);
    readable = ((x, first_reads name s default fs a ∙ r), still_readable name s default fs es n t.keys t.readable);
    reads = (
      x,
      hs,
      rw l refl,
      ap (reads_or _ (missing s default)) (not_among fs name es _ t.keys n ∙ ap (λ b. cond b (Some a) None) (is_eq-slice_cmp name name ∙ same_bytes name)) ∙ first_reads name s default fs a ∙ r,
      read_alike _ _ _ _ fs hs (behind_first name s default fs n) (λ u i. ap (λ b. last u es (cond b (Some a) None)) (is_eq-slice_cmp u name ∙ differs fs u name i n)) t.reads,
    );
    alike = (x, hs, refl, k, t.alike);
  },
)

-- of a field that is left out a default is read
abbrev LeftOutBack : Shape → Absence → Datum → Type 0
LeftOutBack s default e = is_left_out default e ≡ true → (y : Datum) × (missing s default ≡ value y) × (is_left_out default y ≡ true)

pub field_back : (name : Text) (s : Shape) (default : Absence) (fs : FieldShapes) (e : Datum) (gs : Fields) → is_field fs name ≡ false → (h : ReadsBack s e) → is_left_out default h.1 ≡ is_left_out default e → LeftOutBack s default e → FieldsBack fs gs → FieldsBack (field_shape name s default fs) (put_field name default e gs)
field_back name s default fs e gs n h same left t =
    elim (is_left_out default e) as (λ b. is_left_out default e ≡ b → FieldsBack (field_shape name s default fs) (cond b gs (field name e gs))) [
      | true ↦ λ p. let d = left p in left_field_back name s default fs gs d.0 n d.1 d.2 t
      | false ↦ λ p. told_field_back name s default fs e gs n h (same ∙ p) t
    ] refl

pub all_named : (fs : FieldShapes) (gs : Fields) → NearlyClearFields fs → FieldsBack fs gs → (es : List (Text × Av)) × (hs : Fields) × (written_fields gs ≡ Ok es) × (fields_by_name fs (read_field fs) (entries_of (members_of (collect es))) ≡ value hs) × SameFields (kept_fields gs) hs
unfolding FieldsBack
all_named fs gs n t = (t.0, t.1, t.2.wrote, named_read fs t.0 t.1 n t.2.readable t.2.reads, t.2.alike)

-- ---- after a tag

last_entry : (t : Text) (ms : Members) (o : Option Av) → last_of t (entries_of ms) o ≡ last_member t ms o
last_entry t no_members o = refl
last_entry t (member u a ms) o = last_entry t ms (cond (bytes_eq t u) (Some a) o)

unknown_read : (fs : FieldShapes) (t : Text) (a : Av) → is_field fs t ≡ false → read_field fs t a ≡ into (λ _. datum.unit) (ignore a)
unknown_read no_field_shapes t a n = refl
unknown_read (field_shape name s default fs) t a n = let (p, q) = or_false (bytes_eq t name) (is_field fs t) n in rw p (unknown_read fs t a q)

-- the tag is found among the members, and is no field
pub behind_tag : (fs : FieldShapes) (tag v : Text) (gs : Fields) → NearlyClearFields fs → is_field fs tag ≡ false → FieldsBack fs gs → (ms : Members) × (hs : Fields) × (written_fields (field tag (datum.string v) gs) >>= (λ es. Ok (map_of_entries es)) ≡ Ok (M ms)) × (read_tag tag (entries_of ms) ≡ value v) × (fields_by_name fs (read_field fs) (entries_of ms) ≡ value hs) × SameFields (kept_fields gs) hs
unfolding FieldsBack
behind_tag fs tag v gs n m (es, hs, t) =
    let all : List (Text × Av) = (tag, S v) ∷ es in (
      members_of (collect all),
      hs,
      rw t.wrote refl,
      ap read_tag_of (last_entry tag (members_of (collect all)) None ∙ one_member tag all ∙ not_among fs tag es _ t.keys m ∙ ap (λ b. cond b (Some (S v)) None) (is_eq-slice_cmp tag tag ∙ same_bytes tag)),
      named_read fs all hs n ((datum.unit, unknown_read fs tag (S v) m), t.readable) (read_alike _ _ _ _ fs hs (λ _ _ _. refl) (λ u i. ap (λ b. last u es (cond b (Some (S v)) None)) (is_eq-slice_cmp u tag ∙ differs fs u tag i m)) t.reads),
      t.alike,
    )
