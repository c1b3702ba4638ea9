-- Which data a field is left out for.
use Rattle.std.proofs.Common.{◌≡◌, ℕ, suc, Bool, true, false, ◌&&◌, refl, sym, ap, subst, ◌∙◌, inl, inr}
use Rattle.dynamo_shape.proofs.Common.{bytes_eq, true≢false, and_parts, bytes_eq-Decides, Datum}
use Rattle.dynamo_shape.proofs.Common.{Elements, Pairs, symbol, Text, value, Absence, required}
use Rattle.dynamo_shape.proofs.Common.{read_as, left_out, same_default, is_left_out, NearlyClear}
use Rattle.dynamo_shape.proofs.Common.{MayBeLeftOut, AndLeftOut, conforms, conforms_variant, kept}
use Rattle.dynamo_shape.proofs.Common.{missing, Same, Shape, Variants}
use Rattle.dynamo_ser.specs.Datum as datum
use Rattle.dynamo_shape.specs.Shape as shape
use Rattle.dynamo_shape.proofs.Equivalence.{same_sym}
use Rattle.dynamo_shape.proofs.Flat.{not_null}
use Rattle.dynamo_shape.proofs.Found.{same_bytes}
use Rattle.dynamo_shape.proofs.Pairs.{equal_keys, same_is, self_kind, self_integer, self_number, self_variant, self_bool}

-- ---- the default alone

default_is : (d e : Datum) → same_default d e ≡ true → d ≡ e
default_is datum.none datum.none h = refl
default_is (datum.seq datum.no_elements) (datum.seq datum.no_elements) h = refl
default_is (datum.map datum.no_pairs) (datum.map datum.no_pairs) h = refl
default_is (datum.newtype_struct name d) (datum.newtype_struct other e) h =
    let (a, b) = and_parts (bytes_eq name other) (same_default d e) h in
    let p = (bytes_eq-Decides name other).0 a in
    let q = default_is d e b in
    λ i. datum.newtype_struct (p i) (q i)
default_is d e h = equal_keys d e h

-- a default is the same as itself alone
default_apart : (d e : Datum) → same_default d d ≡ true → Same d e → d ≡ e
default_apart datum.none e s h = h
default_apart (datum.seq datum.no_elements) e s h = ap datum.seq (sym h.2) ∙ sym h.1
default_apart (datum.map datum.no_pairs) e s h = ap datum.map (sym h.2) ∙ sym h.1
default_apart (datum.newtype_struct name d) e s h =
    ap (datum.newtype_struct name) (default_apart d h.0 (and_parts (bytes_eq name name) (same_default d d) s).1 h.2) ∙ sym h.1
default_apart d e s h = same_is d e s h

still_default : (d a b : Datum) → Same a b → same_default d a ≡ true → same_default d b ≡ true
still_default d a b h e =
    let p = default_is d a e in
    let itself = subst (λ z. same_default d z ≡ true) (sym p) e in
    subst (λ z. same_default d z ≡ true) (default_apart d b itself (subst (λ z. Same z b) (sym p) h)) itself

both : (b c : Bool) → (b ≡ true → c ≡ true) → (c ≡ true → b ≡ true) → b ≡ c
both true c f g = sym (f refl)
both false true f g = g refl
both false false f g = refl

-- data that are the same are left out alike
pub left_alike : (absence : Absence) (a b : Datum) → Same a b → is_left_out absence a ≡ is_left_out absence b
left_alike required a b h = refl
left_alike (read_as d) a b h = refl
left_alike (left_out d) a b h = both (same_default d a) (same_default d b) (still_default d a b h) (still_default d b a (same_sym a b h))

-- two data that are left out are one
pub one_left : (absence : Absence) (a b : Datum) → is_left_out absence a ≡ true → is_left_out absence b ≡ true → a ≡ b
one_left required a b p q = absurd (true≢false (sym p))
one_left (read_as d) a b p q = absurd (true≢false (sym p))
one_left (left_out d) a b p q = sym (default_is d a p) ∙ default_is d b q

-- ---- at a nearly clear shape

itself : (s : Shape) (d : Datum) → MayBeLeftOut s d → same_default d d ≡ true
itself shape.boolean (datum.boolean b) m = self_bool b
itself shape.char (datum.char c) m = self_number c
itself shape.string (datum.string t) m = same_bytes t
itself shape.bytes (datum.bytes t) m = same_bytes t
itself (shape.integer k) (datum.integer j z) m = rw (self_kind j, self_integer z) refl
itself (shape.option s) datum.none m = refl
itself (shape.list s) (datum.seq datum.no_elements) m = refl
itself (shape.set k s) (datum.newtype_struct name (datum.seq datum.no_elements)) m = rw (same_bytes name) refl
itself (shape.map k s) (datum.map datum.no_pairs) m = refl
itself (shape.enum name vs) (datum.unit_variant v) m = self_variant v
itself (shape.newtype name s) (datum.newtype_struct other d) m = rw (same_bytes other) (itself s d m)
itself (shape.ordered s) d m = itself s d m
itself _ _ m = absurd m

-- of a field that is left out the default is read, and left out
pub default_back : (s : Shape) (absence : Absence) (e : Datum) → AndLeftOut absence s (NearlyClear s) → is_left_out absence e ≡ true → (y : Datum) × (missing s absence ≡ value y) × (is_left_out absence y ≡ true)
default_back s required e m h = absurd (true≢false (sym h))
default_back s (read_as d) e m h = absurd (true≢false (sym h))
default_back s (left_out d) e m h = (d, refl, itself s d m.1)

-- what is kept of a datum is the default where the datum is
abbrev Stays : Datum → Datum → Type 0
Stays d e = same_default d (kept e) ≡ same_default d e

moved : (d e f : Datum) → e ≡ f → Stays d f → Stays d e
moved d e f p h = subst (Stays d) (sym p) h

variant_stays : (v : datum.Variant) (name : Text) (i : ℕ) (vs : Variants) (e : Datum) → conforms_variant name i vs e → Stays (datum.unit_variant v) e
variant_stays v name i shape.no_variants e c = absurd c
variant_stays v name i (shape.variant w shape.nothing vs) e c = elim c [ inl x ↦ moved (datum.unit_variant v) _ _ x refl | inr y ↦ variant_stays v name (suc i) vs e y ]
variant_stays v name i (shape.variant w (shape.one s) vs) e c = elim c [ inl x ↦ moved (datum.unit_variant v) _ _ x.1 refl | inr y ↦ variant_stays v name (suc i) vs e y ]
variant_stays v name i (shape.variant w (shape.several ss) vs) e c = elim c [ inl x ↦ moved (datum.unit_variant v) _ _ x.1 refl | inr y ↦ variant_stays v name (suc i) vs e y ]
variant_stays v name i (shape.variant w (shape.named fs) vs) e c = elim c [ inl x ↦ moved (datum.unit_variant v) _ _ x.1 refl | inr y ↦ variant_stays v name (suc i) vs e y ]

no_elements_stay : (ds : Elements) → Stays (datum.seq datum.no_elements) (datum.seq ds)
no_elements_stay datum.no_elements = refl
no_elements_stay (datum.element d ds) = refl

no_pairs_stay : (ps : Pairs) → Stays (datum.map datum.no_pairs) (datum.map ps)
no_pairs_stay datum.no_pairs = refl
no_pairs_stay (datum.pair k d ps) = refl

stays : (s : Shape) (d e : Datum) → MayBeLeftOut s d → NearlyClear s → conforms s e → Stays d e
stays shape.boolean (datum.boolean b) e m n c = moved (datum.boolean b) _ _ c.1 refl
stays shape.char (datum.char b) e m n c = moved (datum.char b) _ _ c.1 refl
stays shape.string (datum.string t) e m n c = moved (datum.string t) _ _ c.1 refl
stays shape.bytes (datum.bytes t) e m n c = moved (datum.bytes t) _ _ c.1 refl
stays (shape.integer k) (datum.integer j z) e m n c = moved (datum.integer j z) _ _ c.1 refl
stays (shape.option s) datum.none e m n c = elim c [
  | inl p ↦ moved datum.none _ _ p refl
  | inr q ↦ moved datum.none _ _ q.1 (rw (not_null s q.0 n q.2 m) refl)
]
stays (shape.list s) (datum.seq datum.no_elements) e m n c = moved (datum.seq datum.no_elements) _ _ c.1 (no_elements_stay c.0)
stays (shape.set k s) (datum.newtype_struct name (datum.seq datum.no_elements)) e m n c = moved (datum.newtype_struct name (datum.seq datum.no_elements)) _ _ c.1 (ap (λ b. bytes_eq name (symbol k) && b) (no_elements_stay c.0))
stays (shape.map k s) (datum.map datum.no_pairs) e m n c = moved (datum.map datum.no_pairs) _ _ c.1 (no_pairs_stay c.0)
stays (shape.enum name vs) (datum.unit_variant v) e m n c = variant_stays v name 0 vs e c
stays (shape.newtype name s) (datum.newtype_struct other d) e m n c = moved (datum.newtype_struct other d) _ _ c.1 (ap (λ b. bytes_eq other name && b) (stays s d c.0 m n.1 c.2))
stays (shape.ordered s) d e m n c = stays s d e m n c.0
stays _ _ e m n c = absurd m

-- what is read is left out where what was written is
pub left_back : (s : Shape) (absence : Absence) (e x : Datum) → AndLeftOut absence s (NearlyClear s) → conforms s e → Same (kept e) x → is_left_out absence x ≡ is_left_out absence e
left_back s required e x n c h = refl
left_back s (read_as d) e x n c h = refl
left_back s (left_out d) e x n c h = sym (left_alike (left_out d) (kept e) x h) ∙ stays s d e n.1 n.0 c
